-- It begins at the first state, which is valid.
use Rattle.sim_base.specs.Turn.{first_state}
use Rattle.sim_client.{proofs.{Common.{ap, IsValid, refl, rules, subst, sym, ◌∙◌}, Standing.{none_by_players, of_match}}, specs.StageWords.systems_on}
use Rattle.{sim_laws.proofs.Validity.first_state_is_valid, sim_system.specs.{Meanings.AreBuiltOnceAtMost, RigWords.systems_by}, std.specs.Prelude.Option}
use Rattle.sim_client.proofs.client.Client.start.Goals as goal

pub returns : goal.returns
returns g c =
    let self = c.args.self.now in
    let setup = self.setup.now in
    let limits = c.requires.sound.limits in
    let same = of_match setup (λ i v. (goal.System-dyn g (i, v)).meaning v) self.stage self.board c.in-Some.board c.in-Some.is c.requires.sound.ready in
    let started = c.in_ok-start.ensures in
    record {
      begins = search rules;
      ends = record {
        sound = record {
          limits = limits;
          number_is = c.requires.sound.number_is;
          ready = record {
            same = started.setup ∙ same;
            whole = started.whole;
            valid = subst (IsValid setup) (sym (started.state ∙ ap first_state same)) (first_state_is_valid setup limits);
            known = none_by_players setup c.begin.result.known c.begin.ensures.known;
          };
        };
        kinds = started.kinds;
        most = subst (λ (boards : Option _). AreBuiltOnceAtMost (systems_on boards (λ i v. (goal.System-dyn g (i, v)).meaning v))
            (systems_by c.start.new.self.rig (λ i v. (goal.System-dyn g (i, v)).meaning v))) (sym c.in-Some.is) started.most;
        setup = refl;
        number = refl;
      };
    }
