-- The rectangles that are left are the same exactly where all are, and each round leaves fewer.
use Rattle.std.proofs.Common.{◌≡◌, ◌↔◌, length}

abbrev pub invariant-rects : Rattle.sim_ground.proofs.same.are_same_rects.Given.invariant-rects
invariant-rects l = (l.fn.one ≡ l.fn.other) ↔ (l.ones ≡ l.others)

abbrev pub decreases-rects : Rattle.sim_ground.proofs.same.are_same_rects.Given.decreases-rects
decreases-rects l = length l.ones
