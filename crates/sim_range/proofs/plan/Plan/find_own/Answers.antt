-- It begins with what the entity saw, which is nothing where it was not kept.
use Rattle.sim_range.proofs.{Common.{ap, Plan, ◌∙◌}, plan.Plan.find_own.Goals.{in-Ok+in_ok-copy_from, in_default-place_of}, Watching.{saw, saw_none}}

pub turn_own-requires-clause-own : Rattle.sim_range.proofs.plan.Plan.find_own.Goals.turn_own-requires-clause-own
turn_own-requires-clause-own c =
    let land = c.args.held.now.land.now in
    let facts = c.args.held.now.facts.now in
    let up = c.args.held.now.holds.held.ascending in
    elim c.match-place_of.branch [
      | in-Ok+in_ok-copy_from w ↦
          saw land facts c.args.sights.now up c.requires.sights c.in-Some.watcher.id w.in-Ok.at _ w.index-sights-at.result c.in-Some.watcher w.in-Ok.ensures
          w.index-sights-at.is (ap (λ (p : Plan). p.own.ids.items) w.self-is ∙ w.in_ok-copy_from.ensures)
      | in_default-place_of w ↦
          saw_none land facts c.args.sights.now up c.requires.sights c.in-Some.watcher.id w.in_default-place_of.field-0 _ w.in_default-place_of.ensures
          (ap (λ (p : Plan). p.own.ids.items) w.self-is ∙ c.clear.ensures.items)
    ]
