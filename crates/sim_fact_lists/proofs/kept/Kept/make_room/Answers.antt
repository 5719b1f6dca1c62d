-- The facts are the same.
use Rattle.sim_fact_lists.proofs.Common.{HoldsIfAny, subst, sym}

pub invariant_of-self : Rattle.sim_fact_lists.proofs.kept.Kept.make_room.Goals.invariant_of-self
invariant_of-self c = record { held = subst (HoldsIfAny c.args.self.now.land) (sym c.reserve.ensures.items) c.args.self.now.held }
