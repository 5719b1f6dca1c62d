-- Words of 64 bits, of which one bit is set or cleared.
use Rattle.{sim_grid.specs.Packed.{ArePacked, is_set_at}, std.proofs.Common.{ap, arith, Bool, false, get_or, inl, inr, length, List, nat_eq, replicate, set}}
use Rattle.std.proofs.{Common.{subst, sym, true, ℕ, ◌%◌, ◌+◌, ◌-◌, ◌/◌, ◌<◌, ◌^◌, ◌∙◌, ◌≡◌, ◌⊎◌}, lemmas.{Bool.cases_eq, List.get_or-replicate}}
use Rattle.std.{proofs.lemmas.{List.{get_or-set_other, get_or-set_same, length-replicate, length-set}, Nat.Bits.bit_at_ones}, specs.Int.bit_at}

same_place : (k place : ℕ) → k / 64 ≡ place / 64 → k % 64 ≡ place % 64 → k ≡ place
same_place k place e f = omega (arith, e, f)

-- where a word tells another cell and else the same, the words tell of the cells of which that one is changed
pub packed_with : (cells : List Bool) (words : List ℕ) (place word : ℕ) (free : Bool) → place / 64 < length words → nat_eq (bit_at word (place % 64)) 1 ≡ free
    → ((i : ℕ) → i < 64 → (i ≡ place % 64 → ⊥) → bit_at word i ≡ bit_at (get_or words (place / 64) 0) i) → ArePacked cells words → place < length cells
    → ArePacked (set cells place free) (set words (place / 64) word)
packed_with cells words place word free within here others p lt =
    record {
      full = length-set words (place / 64) word ∙ p.full ∙ ap (λ (n : ℕ). n / 64 + 1) (sym (length-set cells place free));
      right = λ k below. by k (cases_eq k place) (omega (arith, below, length-set cells place free));
    }
  where
    new : List ℕ
    new = set words (place / 64) word

    word_at : (k : ℕ) → (k ≡ place → ⊥) → (k / 64 ≡ place / 64) ⊎ (k / 64 ≡ place / 64 → ⊥) → is_set_at new k ≡ is_set_at words k
    word_at k apart (inl same) =
        ap (λ (w : ℕ). nat_eq (bit_at w (k % 64)) 1) (ap (λ (n : ℕ). get_or new n 0) same ∙ get_or-set_same words (place / 64) word 0 within) ∙
        ap (λ (b : ℕ). nat_eq b 1) (others (k % 64) (omega arith) (λ e. apart (same_place k place same e))) ∙
        ap (λ (n : ℕ). nat_eq (bit_at (get_or words n 0) (k % 64)) 1) (sym same)
    word_at k apart (inr other) = ap (λ (w : ℕ). nat_eq (bit_at w (k % 64)) 1) (get_or-set_other words (place / 64) (k / 64) word 0 other)

    by : (k : ℕ) → (k ≡ place) ⊎ (k ≡ place → ⊥) → k < length cells → is_set_at new k ≡ get_or (set cells place free) k false
    by k (inl same) below = subst (λ (j : ℕ). is_set_at new j ≡ get_or (set cells place free) j false) (sym same)
        (ap (λ (w : ℕ). nat_eq (bit_at w (place % 64)) 1) (get_or-set_same words (place / 64) word 0 within) ∙ here ∙
        sym (get_or-set_same cells place free false lt))
    by k (inr apart) below = word_at k apart (cases_eq (k / 64) (place / 64)) ∙ p.right k below ∙ sym (get_or-set_other cells place k free false apart)

-- words of ones tell of open cells alone
pub packed_open : (n : ℕ) → ArePacked (replicate n true) (replicate (n / 64 + 1) (2 ^ 64 - 1))
packed_open n =
    record {
      full = length-replicate (n / 64 + 1) (2 ^ 64 - 1) ∙ ap (λ (m : ℕ). m / 64 + 1) (sym (length-replicate n true));
      right = λ k lt.
          let below : k < n = omega (arith, lt, length-replicate n true) in
          ap (λ (w : ℕ). nat_eq (bit_at w (k % 64)) 1) (get_or-replicate (n / 64 + 1) (k / 64) (2 ^ 64 - 1) 0 (omega (arith, below))) ∙
          ap (λ (b : ℕ). nat_eq b 1) (bit_at_ones 64 (k % 64) (omega arith)) ∙
          sym (get_or-replicate n k true false below);
    }
