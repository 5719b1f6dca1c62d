use Rattle.sim_tree.proofs.Common.{◌≡◌, ℕ, List, map, filter, Bor, is_word}

abbrev pub invariant-loop-part : Rattle.sim_tree.proofs.tokens.tokens_in.Given.invariant-loop-part
invariant-loop-part l = l.found ≡ filter is_word (map (λ (part : Bor (List ℕ)). part.now) l.yielded)
