-- It is on at a valid state.
use Rattle.sim_client.{proofs.{Common.{IsValid, refl, rules, subst, sym, ◌∙◌}, Standing.{none_by_players, of_match}}, specs.StageWords.systems_on}
use Rattle.{sim_system.specs.{Meanings.AreBuiltOnceAtMost, RigWords.systems_by}, std.specs.Prelude.Option}
use Rattle.sim_client.proofs.client.Client.adopt.Goals as goal

pub returns : goal.returns
returns g c =
    let self = c.args.self.now in
    let setup = self.setup.now in
    let was = c.requires.waits.sound in
    let same = of_match setup (λ i v. (goal.System-dyn g (i, v)).meaning v) self.stage self.board c.in-Some.board c.in-Some.is was.ready in
    let adopted = c.in_ok-adopt.ensures in
    record {
      begins = search rules;
      ends = record {
        sound = record {
          limits = was.limits;
          number_is = was.number_is;
          ready = record {
            same = adopted.setup ∙ same;
            whole = adopted.whole;
            valid = subst (IsValid setup) (sym adopted.state) c.requires.valid;
            known = none_by_players setup c.begin.result.known c.begin.ensures.known;
          };
        };
        kinds = adopted.kinds;
        most = subst (λ (boards : Option _). AreBuiltOnceAtMost (systems_on boards (λ i v. (goal.System-dyn g (i, v)).meaning v))
            (systems_by c.adopt.new.self.rig (λ i v. (goal.System-dyn g (i, v)).meaning v))) (sym c.in-Some.is) adopted.most;
        setup = refl;
        number = refl;
      };
    }
