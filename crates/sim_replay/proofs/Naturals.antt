-- The numbers that words spell, found one by one.
use Rattle.sim_replay.proofs.Common.{◌≡◌, ℕ, List, [], ◌∷◌, ◌++◌, Some, None, Option, option_map, refl, ap, append-nil, append_assoc, natural_of, naturals_of}
use Rattle.sim_replay.proofs.Common.{sym, ◌>>=◌, ◌∙◌}

-- the numbers that words spell, behind those found so far
abbrev pub naturals_behind : List ℕ → List (List ℕ) → Option (List ℕ)
naturals_behind found [] = Some found
naturals_behind found (word ∷ words) = natural_of word >>= λ n. naturals_behind (found ++ n ∷ []) words

behind_found : (found : List ℕ) (words : List (List ℕ)) → naturals_behind found words ≡ option_map (λ ns. found ++ ns) (naturals_of words)
behind_found found [] = ap Some (sym (append-nil found))
behind_found found (word ∷ words) = by (λ n. behind_found (found ++ n ∷ []) words) (natural_of word)
  where
    onto : (n : ℕ) (o : Option (List ℕ)) → option_map (λ ns. (found ++ n ∷ []) ++ ns) o ≡ option_map (λ ns. found ++ ns) (option_map (λ ns. n ∷ ns) o)
    onto n None = refl
    onto n (Some ns) = ap Some (append_assoc found (n ∷ []) ns)

    by : ((n : ℕ) → naturals_behind (found ++ n ∷ []) words ≡ option_map (λ ns. (found ++ n ∷ []) ++ ns) (naturals_of words))
        → (o : Option ℕ) → (o >>= λ n. naturals_behind (found ++ n ∷ []) words)
        ≡ option_map (λ ns. found ++ ns) (o >>= λ n. option_map (λ ns. n ∷ ns) (naturals_of words))
    by more None = refl
    by more (Some n) = more n ∙ onto n (naturals_of words)

same : (o : Option (List ℕ)) → option_map (λ ns. [] ++ ns) o ≡ o
same None = refl
same (Some ns) = refl

pub behind_nothing : (words : List (List ℕ)) → naturals_behind [] words ≡ naturals_of words
behind_nothing words = behind_found [] words ∙ same (naturals_of words)
