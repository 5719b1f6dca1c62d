-- All rigs come back cleared and in their order, each system in its place.
use Rattle.sim_session.proofs.recording.released_turns.Goals as goal
use Rattle.sim_session.proofs.Builds.{all_built_so, built_back, came_back, cleared_back, none_built}
use Rattle.sim_session.proofs.TextCommon.{ap, arith, builds_of, length-map, refl, Setup, subst, sym, systems_on, ℕ, ◌∙◌}
use Rattle.{sim_session.specs.Going.ComeBackBuiltBy, sim_session.specs.Going.rigs_by, sim_system.specs.RigWords.systems_by, std.proofs.Common.drop}

pub returns-in-Ok-clause-cleared : goal.returns-in-Ok-clause-cleared
returns-in-Ok-clause-cleared g c =
    let ended = c.record-turns.new.session in
    let more = length-map ended.clients.items (λ x. systems_on x.board (λ i v. (g.dyn-2.0.entry i).1.meaning v)) ∙ c.record-turns.ensures.keeps.count ∙
    c.in-Ok.ensures.session.count ∙ ap (λ (s : Setup). s.players) c.in-Ok.ensures.setup in
    let spare = c.clear.ensures.spare ∙ sym (ap (λ (n : ℕ). drop n c.finish-rigs.result.items) more) ∙ c.finish-rigs.ensures.spare ∙
    c.record-turns.ensures.keeps.spare ∙ c.in-Ok.ensures.spare in
    cleared_back (λ r. systems_by r (λ i v. (g.dyn-2.0.entry i).1.meaning v)) c.clear.new.rigs.items c.args.rigs.items c.args.setup.now.players
    spare c.clear.ensures.cleared c.requires.begins.fresh.cleared

pub returns-in-Ok-clause-rigs : goal.returns-in-Ok-clause-rigs
returns-in-Ok-clause-rigs g c =
    let setup = c.args.setup.now in
    let list = c.args.list.now in
    let keeps = c.record-turns.ensures.keeps in
    let back = came_back (λ i v. (g.dyn-2.0.entry i).1.meaning v) setup c.in-Ok.session c.record-turns.new.session c.args.rigs c.finish-rigs.result
    c.requires.begins c.in-Ok.ensures.session
    c.in-Ok.ensures.setup c.in-Ok.ensures.systems c.in-Ok.ensures.spare c.in-Ok.ensures.room keeps c.finish-rigs.ensures.systems
    c.finish-rigs.ensures.spare c.finish-rigs.ensures.room in
    let finished = built_back (λ i v. (g.dyn-2.0.entry i).1.meaning v) setup list c.in-Ok.session c.record-turns.new.session c.args.rigs.items
    c.finish-rigs.result.items
    c.in-Ok.ensures.session c.in-Ok.ensures.setup c.in-Ok.ensures.systems keeps c.record-turns.ensures.built c.finish-rigs.ensures.systems in
    record {
      built = all_built_so (builds_of setup list) (λ k. 0) (builds_of setup list) setup.players
          (rigs_by c.args.rigs.items (λ i v. (g.dyn-2.0.entry i).1.meaning v))
          (rigs_by c.finish-rigs.result.items (λ i v. (g.dyn-2.0.entry i).1.meaning v))
          (rigs_by c.clear.new.rigs.items (λ i v. (g.dyn-2.0.entry i).1.meaning v)) (λ k. omega arith) finished c.clear.ensures.built;
      back = record {
        kinds = c.clear.ensures.kinds back.kinds;
        spare = c.clear.ensures.spare ∙ back.spare;
        eight = c.clear.ensures.count ∙ back.eight;
        room = c.clear.ensures.room ∙ back.room;
      };
    }

pub returns-in-Err-clause-rigs : goal.returns-in-Err-clause-rigs
returns-in-Err-clause-rigs g c =
    let setup = c.args.setup.now in
    subst (λ back. ComeBackBuiltBy (λ i v. (g.dyn-2.0.entry i).1.meaning v) setup c.args.list.now c.args.rigs back) (sym c.in-Err.ensures.back)
    (record {
      built = none_built (builds_of setup c.args.list.now) setup.players (rigs_by c.args.rigs.items (λ i v. (g.dyn-2.0.entry i).1.meaning v));
      back = record { kinds = c.requires.begins.fresh.kinds; spare = refl; eight = c.requires.begins.eight; room = refl };
    })
