-- All that was passed is the same: the entities below the counter, and then those of which neither list has a row left.
use Rattle.sim_diff.proofs.merge.difference.Given as goal
use Rattle.sim_diff.proofs.{Common.{AreRowsOf, bits, length, Part, ℕ, ◌+◌, ◌<◌, ◌≡◌}, OneSpelling.{IsSameElsewhere, Rising}}

abbrev pub invariant-first : goal.invariant-first
invariant-first l = (id : ℕ) → id < l.entity → (part : Part) → bits l.left id part ≡ bits l.right id part

abbrev pub invariant-rows : goal.invariant-rows
invariant-rows l = record {
  left_rising : Rising l.lefts;
  right_rising : Rising l.rights;
  left_rows : AreRowsOf l.left l.lefts;
  right_rows : AreRowsOf l.right l.rights;
  elsewhere : IsSameElsewhere l.left l.right l.lefts l.rights;
}

abbrev pub decreases-rows : goal.decreases-rows
decreases-rows l = length l.lefts + length l.rights
