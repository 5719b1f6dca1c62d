-- The rows that are left are the same exactly where all are, and each round leaves fewer.
use Rattle.std.proofs.Common.{◌≡◌, ◌↔◌, length}

abbrev pub invariant-rows : Rattle.sim_diff.proofs.same.are_same_rows.Given.invariant-rows
invariant-rows l = (l.fn.left_rows ≡ l.fn.right_rows) ↔ (l.lefts ≡ l.rights)

abbrev pub decreases-rows : Rattle.sim_diff.proofs.same.are_same_rows.Given.decreases-rows
decreases-rows l = length l.lefts
