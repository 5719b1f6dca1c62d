use Rattle.sim_merge.proofs.Common.{◌≡◌, ℕ, List, ◌++◌, length, AreChanges, contains_text}

abbrev pub invariant-loop-word : Rattle.sim_merge.proofs.words.changes_of.Given.invariant-loop-word
invariant-loop-word l = (later : List (List ℕ)) × (l.fn.upper ≡ l.words.items ++ later) × AreChanges l.changes.added (contains_text l.changes.removed) later

abbrev pub decreases-loop-word : Rattle.sim_merge.proofs.words.changes_of.Given.decreases-loop-word
decreases-loop-word l = length l.words.items
