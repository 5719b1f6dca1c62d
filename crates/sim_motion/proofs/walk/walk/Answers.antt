use Rattle.{sim_base.specs.Places.IsPlaced, sim_motion.proofs.Walking.walk_more, std.proofs.Common.◌∙◌, std.proofs.Common.◌≤◌}
use Rattle.std.proofs.{Common.length, Common.subst, Common.sym, lemmas.List.Elements.All-drop, lemmas.List.Elements.All-get_or, lemmas.List.Elements.All-take}

pub loop-rest-preserved : Rattle.sim_motion.proofs.walk.walk.Goals.loop-rest-preserved
loop-rest-preserved c =
    let rest = c.loop-rest.rest.now in
    let next = c.next-item.result in
    let some : 1 ≤ length rest = c.in-len1-up.len_at_least in
    record {
      walk = walk_more c.loop-rest.at c.loop-rest.budget rest next c.distance-far.result some c.next-item.is c.distance-far.ensures c.if-far-budget.false ∙
          c.loop-rest.invariant.walk;
      at = subst IsPlaced (sym c.next-item.is) (All-get_or IsPlaced rest 0 next some c.loop-rest.invariant.rest);
      rest = All-take IsPlaced _ _ (All-drop IsPlaced 1 rest c.loop-rest.invariant.rest);
    }
