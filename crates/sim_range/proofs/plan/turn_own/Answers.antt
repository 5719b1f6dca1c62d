-- One id more has come or gone.
use Rattle.sim_range.proofs.plan.turn_own.Goals as goal
use Rattle.sim_range.proofs.Common.{ap, arith, fact_with, get_or, ids_of, IsStrictlyIncreasing, sees, Some, subst, sym, take, take_all, turned, ◌∙◌}
use Rattle.sim_range.proofs.{plan.turn_own.Goals.{in-Ok+in_ok-make_room, in_default}, Seeing.seen_is, Watching.{mixed_all, mixed_up, next_mixed, same_mixed}}

pub turn-requires-clause-ascending : goal.turn-requires-clause-ascending
turn-requires-clause-ascending c =
    subst IsStrictlyIncreasing (sym c.in_ok-make_room.ensures.same)
    (mixed_up (sees c.args.held.now.land.now (fact_with c.args.held.now.facts.now c.args.watcher.now.id)) (sees c.args.held.now.land.now (Some
    c.args.watcher.now)) c.args.held.now.facts.now
    c.args.held.now.holds.held.ascending c.args.seen.now (take c.loop-id.id-index c.args.seen.now) c.loop-id.own.ids.items c.loop-id.invariant)

pub loop-id-preserved : goal.loop-id-preserved
loop-id-preserved c =
    let g = sees c.args.held.now.land.now (fact_with c.args.held.now.facts.now c.args.watcher.now.id) in
    let h = sees c.args.held.now.land.now (Some c.args.watcher.now) in
    let facts = c.args.held.now.facts.now in
    let ids = c.args.seen.now in
    let j = c.loop-id.id-index in
    let own = c.loop-id.own.ids.items in
    elim c.match-place_of.branch [
      | in-Ok+in_ok-make_room w ↦
          ap ids_of w.own-is
          ∙ next_mixed g h facts c.args.held.now.holds.held.ascending ids j (grind arith) own c.loop-id.invariant w.in-Ok.at w.index-held-at.result
          w.is_seen_by.result _ w.in-Ok.ensures w.index-held-at.is
          (w.is_seen_by.ensures ∙ ap (sees c.args.held.now.land.now (Some c.args.watcher.now)) (sym w.index-held-at.is))
          (w.turn.ensures ∙ ap (turned w.is_seen_by.result (get_or ids j 0)) w.in_ok-make_room.ensures.same)
      | in_default w ↦ ap ids_of w.own-is ∙ same_mixed g h facts c.args.held.now.holds.held.ascending ids j (grind arith) own c.loop-id.invariant
          w.in_default.field-0 w.in_default.ensures
    ]

pub returns : goal.returns
returns c =
    c.loop-id.invariant
    ∙ mixed_all (sees c.args.held.now.land.now (fact_with c.args.held.now.facts.now c.args.watcher.now.id)) (sees c.args.held.now.land.now (Some
    c.args.watcher.now)) c.args.held.now.facts.now
    c.args.held.now.holds.held.ascending c.args.seen.now _ (take_all c.loop-id.id-index c.args.seen.now (grind arith)) c.requires.seen
    ∙ sym (seen_is c.args.held.now.land.now c.args.watcher.now c.args.watcher.now.vision c.args.held.now.facts.now)
