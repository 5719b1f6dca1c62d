-- The lines of the players, one by one.
use Rattle.sim_play.proofs.Common.{◌≡◌, ℕ, ◌+◌, List, [], ◌∷◌, ◌++◌, flat_map, ap, flat_map_more, map-id, map-range_with_len_more, range_with_len, sym, ◌∙◌}

-- one number more
range_more : (a n j : ℕ) → a + n ≡ j → range_with_len a (n + 1) ≡ range_with_len a n ++ j ∷ []
range_more a n j is =
    sym (map-id (range_with_len a (n + 1))) ∙ map-range_with_len_more (λ (k : ℕ). k) a n j is ∙ ap (λ (ks : List ℕ). ks ++ j ∷ []) (map-id (range_with_len a n))

-- and its line
pub lines_more : (line : ℕ → List ℕ) (a n j : ℕ) (old text more : List ℕ) → a + n ≡ j → text ≡ old ++ flat_map line (range_with_len a n) → more ≡ text ++ line j
    → more ≡ old ++ flat_map line (range_with_len a (n + 1))
lines_more line a n j old text more is so_far written =
    written ∙ ap (λ (xs : List ℕ). xs ++ line j) so_far ∙ flat_map_more line old (range_with_len a n) j
    ∙ ap (λ (ks : List ℕ). old ++ flat_map line ks) (sym (range_more a n j is))
