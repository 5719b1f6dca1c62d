use Rattle.sim_merge.proofs.Common.{◌≡◌, ℕ, not, ◌&&◌, List, length, bytes_eq, contains_text, list_any}

abbrev pub invariant-loop-rest : Rattle.sim_merge.proofs.words.take_words.Given.invariant-loop-rest
invariant-loop-rest l = (other : List ℕ) →
    (contains_text l.set other && not (list_any (bytes_eq other) l.rest)) ≡ (contains_text l.fn.set other && not (list_any (bytes_eq other) l.words))

abbrev pub decreases-loop-rest : Rattle.sim_merge.proofs.words.take_words.Given.decreases-loop-rest
decreases-loop-rest l = length l.rest
