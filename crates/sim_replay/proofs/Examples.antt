-- Worked examples of lists of digests, and of words that spell numbers.
use Rattle.{sim_replay.specs.{Apart.first_apart, Logs.naturals_of}, std.{proofs.Common.{List, None, refl, Some, ℕ, [], ◌∷◌, ◌≡◌}, specs.Prelude.codes}}
unfoldable use Rattle.sim_replay.specs.Logs.{natural_of}

-- of two turns that differ the first one is told
two_turns : first_apart ((1 ∷ []) ∷ (2 ∷ []) ∷ (3 ∷ []) ∷ []) ((1 ∷ []) ∷ (5 ∷ []) ∷ (6 ∷ []) ∷ []) ≡ Some (record { turn = 1; told = 2 ∷ []; played = 5 ∷ [] })
two_turns = refl

-- and it may be the last one, or that of the start
last_turn : first_apart ((1 ∷ []) ∷ (2 ∷ []) ∷ []) ((1 ∷ []) ∷ (3 ∷ []) ∷ []) ≡ Some (record { turn = 1; told = 2 ∷ []; played = 3 ∷ [] })
last_turn = refl

at_the_start : first_apart ((7 ∷ []) ∷ []) ((8 ∷ []) ∷ (9 ∷ []) ∷ []) ≡ Some (record { turn = 0; told = 7 ∷ []; played = 8 ∷ [] })
at_the_start = refl

-- the same lists are nowhere apart, nor is a list from what goes on behind its end
the_same : first_apart ((1 ∷ []) ∷ (2 ∷ []) ∷ []) ((1 ∷ []) ∷ (2 ∷ []) ∷ []) ≡ None
the_same = refl

shorter : first_apart ((1 ∷ []) ∷ []) ((1 ∷ []) ∷ (2 ∷ []) ∷ []) ≡ None
shorter = refl

-- words spell their numbers in their order, or none of them where one spells none
three_numbers : naturals_of (codes "7" ∷ codes "05" ∷ codes "12" ∷ []) ≡ Some (7 ∷ 5 ∷ 12 ∷ [])
unfolding natural_of
three_numbers = refl

no_number : naturals_of (codes "7" ∷ codes "x" ∷ codes "12" ∷ []) ≡ None
unfolding natural_of
no_number = refl

no_words : naturals_of [] ≡ Some []
no_words = refl
