-- All rigs come back in their order, each system in its place.
use Rattle.sim_session.proofs.hosting.session_text.Goals as goal
use Rattle.sim_session.{proofs.{Builds.{built_back, came_back, none_built}, TextCommon.{builds_of, refl, subst, sym}}, specs.Going.{ComeBackBuiltBy, rigs_by}}

pub returns-in-Ok-told-clause-rigs : goal.returns-in-Ok-told-clause-rigs
returns-in-Ok-told-clause-rigs g c =
    record {
      built = built_back (λ i v. (g.dyn-2.0.entry i).1.meaning v) c.args.setup.now c.args.list.now c.in-Ok.session c.push_session-told.new.session
          c.args.rigs.items
          c.finish-rigs.result.items c.in-Ok.ensures.session c.in-Ok.ensures.setup c.in-Ok.ensures.systems c.push_session-told.ensures.passes.goes.keeps
          c.push_session-told.ensures.passes.built c.finish-rigs.ensures.systems;
      back = came_back (λ i v. (g.dyn-2.0.entry i).1.meaning v) c.args.setup.now c.in-Ok.session c.push_session-told.new.session c.args.rigs
          c.finish-rigs.result
          c.requires.begins c.in-Ok.ensures.session c.in-Ok.ensures.setup c.in-Ok.ensures.systems c.in-Ok.ensures.spare c.in-Ok.ensures.room
          c.push_session-told.ensures.passes.goes.keeps c.finish-rigs.ensures.systems c.finish-rigs.ensures.spare c.finish-rigs.ensures.room;
    }

pub returns-in-Err-told-clause-rigs : goal.returns-in-Err-told-clause-rigs
returns-in-Err-told-clause-rigs g c =
    record {
      built = built_back (λ i v. (g.dyn-2.0.entry i).1.meaning v) c.args.setup.now c.args.list.now c.in-Ok.session c.push_session-told.new.session
          c.args.rigs.items
          c.finish-rigs.result.items c.in-Ok.ensures.session c.in-Ok.ensures.setup c.in-Ok.ensures.systems c.push_session-told.ensures.passes.goes.keeps
          c.push_session-told.ensures.passes.built c.finish-rigs.ensures.systems;
      back = came_back (λ i v. (g.dyn-2.0.entry i).1.meaning v) c.args.setup.now c.in-Ok.session c.push_session-told.new.session c.args.rigs
          c.finish-rigs.result
          c.requires.begins c.in-Ok.ensures.session c.in-Ok.ensures.setup c.in-Ok.ensures.systems c.in-Ok.ensures.spare c.in-Ok.ensures.room
          c.push_session-told.ensures.passes.goes.keeps c.finish-rigs.ensures.systems c.finish-rigs.ensures.spare c.finish-rigs.ensures.room;
    }

pub returns-in-Err-clause-rigs : goal.returns-in-Err-clause-rigs
returns-in-Err-clause-rigs g c =
    let setup = c.args.setup.now in
    subst (λ back. ComeBackBuiltBy (λ i v. (g.dyn-2.0.entry i).1.meaning v) setup c.args.list.now c.args.rigs back) (sym c.in-Err.ensures.back)
    (record {
      built = none_built (builds_of setup c.args.list.now) setup.players (rigs_by c.args.rigs.items (λ i v. (g.dyn-2.0.entry i).1.meaning v));
      back = record { kinds = c.requires.begins.fresh.kinds; spare = refl; eight = c.requires.begins.eight; room = refl };
    })
