-- Among items whose keys ascend, a key stands once, so that halving finds it, and what is asked of any item with that key is asked of that one.
use Rattle.sim_codec.proofs.Common.{AllPairs-from_increasing, arith, cases_lt, eq-eqb, get_or-map, get_or_default, inl, inr, IsBinarySearchResult}
use Rattle.sim_codec.proofs.Common.{IsNonDecreasingBy, IsNonDecreasingBy-from_default, IsStrictlyIncreasing, length-map, list_any, list_any_at, list_any_none}
use Rattle.sim_codec.proofs.Common.{nat_cmp, nat_tests, ne_eqb, ordering_index, ranked, sym, ◌∙◌}
use Rattle.sim_codec.proofs.Common.{◌≡◌, ℕ, ◌<◌, ◌≤◌, Bool, true, false, ◌&&◌, ◌≢◌, List, map, length, get_or, ◌==◌, Err, All, HoldsAt, refl}

module _ {A : Type 0} (key : A → ℕ) where
  -- each key is below all later ones
  pub keys_rise : (xs : List A) → IsStrictlyIncreasing (map key xs) → (i j : ℕ) (d : A) → i < j → j < length xs → key (get_or xs i d) < key (get_or xs j d)
  keys_rise xs up i j d before lt =
      let h : get_or (map key xs) i 0 < get_or (map key xs) j 0 = AllPairs-from_increasing (map key xs) up i j 0 before (rw (length-map xs key) lt) in
      let e : get_or (map key xs) i 0 ≡ key (get_or xs i d) = get_or-map key xs i d 0 (omega arith) in
      let f : get_or (map key xs) j 0 ≡ key (get_or xs j d) = get_or-map key xs j d 0 lt in
      omega arith

  -- along rising keys the comparisons with a key rise
  comparisons_rise : (xs : List A) (wanted : ℕ) (d : A) → IsStrictlyIncreasing (map key xs) → IsNonDecreasingBy (λ x. ordering_index (nat_cmp (key x) wanted))
      xs
  comparisons_rise xs wanted d up =
      IsNonDecreasingBy-from_default (λ x. ordering_index (nat_cmp (key x) wanted)) xs d (λ i j le lt.
      elim (cases_lt i j) [
        | inl before ↦ (let h = keys_rise xs up i j d before lt in grind (arith, nat_tests))
        | inr same ↦ (let e : i ≡ j = omega arith in rw e (omega arith))
      ])

  -- a key that was not found is no item's
  pub no_key : (xs : List A) (wanted at : ℕ) → IsStrictlyIncreasing (map key xs) → at ≤ length xs → IsBinarySearchResult (λ x. nat_cmp (key x) wanted) xs
      (Err at) → All (λ x. key x ≢ wanted) xs
  no_key xs wanted at up le parted k d lt =
      let parts = parted (comparisons_rise xs wanted d up) in
      elim (cases_lt k at) [
        | inl before ↦ (let less : key (get_or xs k d) < wanted = ranked _ wanted _ (sym (parts.0 k d (omega arith) before)) in λ f. omega arith)
        | inr behind ↦ (let more : wanted < key (get_or xs k d) = ranked _ wanted _ (sym (parts.1 k d behind lt)) in λ f. omega arith)
      ]

  module _ (flag : A → Bool) where
    -- the item of a key, if it is flagged
    abbrev is_flagged : ℕ → A → Bool
    is_flagged wanted x = key x == wanted && flag x

    unflagged : (wanted : ℕ) (x : A) → flag x ≡ false → is_flagged wanted x ≡ false
    unflagged wanted x h = rw h (grind arith)

    other : (wanted : ℕ) (x : A) → (key x ≡ wanted → ⊥) → is_flagged wanted x ≡ false
    other wanted x differs = rw (ne_eqb (key x) wanted differs) refl

    -- the item that was found is the only one of this key
    pub found : (xs : List A) (wanted i : ℕ) (x : A) (answer : Bool) → IsStrictlyIncreasing (map key xs) → i < length xs → x ≡ get_or xs i x
        → HoldsAt (λ y. key y ≡ wanted) xs i → answer ≡ flag (get_or xs i x)
        → answer ≡ list_any (is_flagged wanted) xs
    found xs wanted i x answer up lt is at_key says = says ∙ by_flag (flag (get_or xs i x)) refl
      where
        by_flag : (b : Bool) → flag (get_or xs i x) ≡ b → b ≡ list_any (is_flagged wanted) xs
        by_flag true h = sym (list_any_at (is_flagged wanted) xs i x lt (rw (eq-eqb (key (get_or xs i x)) wanted (at_key x), h) refl))
        by_flag false h = sym (list_any_none (is_flagged wanted) xs none)
          where
            none : (k : ℕ) (d : A) → k < length xs → is_flagged wanted (get_or xs k d) ≡ false
            none k d in_range =
                elim (cases_lt k i) [
                  | inl before ↦ other wanted (get_or xs k d) (λ f. omega (arith, keys_rise xs up k i d before lt, at_key d))
                  | inr not_before ↦
                      elim (cases_lt i k) [
                        | inl behind ↦ other wanted (get_or xs k d) (λ f. omega (arith, keys_rise xs up i k d behind in_range, at_key d))
                        | inr not_behind ↦
                            let k-is : k ≡ i = omega arith in
                            rw (k-is, get_or_default xs i d x lt) (unflagged wanted (get_or xs i x) h)
                      ]
                ]

    pub missing : (xs : List A) (wanted : ℕ) → All (λ x. key x ≢ wanted) xs → false ≡ list_any (is_flagged wanted) xs
    missing xs wanted all = sym (list_any_none (is_flagged wanted) xs (λ k d lt. other wanted (get_or xs k d) (all k d lt)))
