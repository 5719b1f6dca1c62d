-- The facts that are left are the same exactly where all are, and each round leaves fewer.
use Rattle.std.proofs.Common.{◌≡◌, ◌↔◌, length}

abbrev pub invariant-facts : Rattle.sim_ground.proofs.same.are_same_facts.Given.invariant-facts
invariant-facts l = (l.fn.one ≡ l.fn.other) ↔ (l.ones ≡ l.others)

abbrev pub decreases-facts : Rattle.sim_ground.proofs.same.are_same_facts.Given.decreases-facts
decreases-facts l = length l.ones
