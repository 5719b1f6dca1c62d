-- Ids that ascend are searched at once or by halves, and sorted ids name the same rows.
use Rattle.std.specs.List.{slice_get}
use Rattle.sim_orders.proofs.Common.{cases_lt, eq-eqb, get_or_default, get_or_from_slice_get, inl, inr, is_ordered, IsBinarySearchResult, IsNonDecreasing}
use Rattle.sim_orders.proofs.Common.{list_any, list_any-IsPermutation, list_any_at, list_any_none, nat_cmp, ne_eqb, searched, sym, ◌∙◌}
use Rattle.sim_orders.proofs.Common.{◌≡◌, ℕ, ◌-◌, ◌<◌, ◌≤◌, false, ◌&&◌, List, length, get_or, is_ok, ◌==◌, Some, Ok, Err, Result, IsPermutation, ap, arith}

-- a search by halves finds an id exactly where it is named
pub named_by_halves : (ids : List ℕ) (id : ℕ) (r : Result ℕ ℕ) → IsNonDecreasing ids → IsBinarySearchResult (λ n. nat_cmp n id) ids r
    → is_ok r ≡ list_any (λ n. n == id) ids
named_by_halves ids id (Ok i) up search_is =
    let (within, at) = searched ids id (Ok i) search_is (λ a b le lt. up a b 0 le lt) in
    sym (list_any_at (λ n. n == id) ids i 0 within (eq-eqb (get_or ids i 0) id at))
named_by_halves ids id (Err i) up search_is =
    let (le, before, after) = searched ids id (Err i) search_is (λ a b le lt. up a b 0 le lt) in
    sym (list_any_none (λ n. n == id) ids (λ k d lt. ap (λ n. n == id) (get_or_default ids k d 0 lt) ∙ ne_eqb (get_or ids k 0) id (other k lt before after)))
  where
    other : (k : ℕ) → k < length ids → ((k : ℕ) → k < i → get_or ids k 0 < id) → ((k : ℕ) → i ≤ k → k < length ids → id < get_or ids k 0) → get_or ids k 0 ≡ id
        → ⊥
    other k lt before after e = elim (cases_lt k i) [
      | inl less ↦ omega (arith, before k less, e)
      | inr more ↦ omega (arith, after k more lt, e)
    ]

-- ids none of which is this one do not name it
none_named : (ids : List ℕ) (id : ℕ) → ((k : ℕ) → k < length ids → get_or ids k 0 ≡ id → ⊥) → list_any (λ n. n == id) ids ≡ false
none_named ids id other = list_any_none (λ n. n == id) ids (λ k d lt. ap (λ n. n == id) (get_or_default ids k d 0 lt) ∙ ne_eqb (get_or ids k 0) id (other k lt))

-- none below the first is named
pub none_below : (ids : List ℕ) (id first : ℕ) → IsNonDecreasing ids → slice_get ids 0 ≡ Some first → id < first → list_any (λ n. n == id) ids ≡ false
none_below ids id first up first_is below =
    none_named ids id (λ k lt e. omega (arith, up 0 k 0 (omega arith) lt, get_or_from_slice_get ids 0 first 0 first_is, e, below))

-- none above the last is named
pub none_above : (ids : List ℕ) (id last : ℕ) → IsNonDecreasing ids → slice_get ids (length ids - 1) ≡ Some last → last < id → list_any (λ n. n == id) ids ≡
    false
none_above ids id last up last_is above =
    none_named ids id (λ k lt e.
    omega (arith, up k (length ids - 1) 0 (omega (arith, lt)) (omega (arith, lt)), get_or_from_slice_get ids (length ids - 1) last 0 last_is, e, above))

-- a row is ordered by sorted ids where it is ordered by the ids
pub sorted_order : (player : ℕ) (ids sorted : List ℕ) → IsPermutation ids sorted → is_ordered player sorted ≡ is_ordered player ids
sorted_order player ids sorted p = λ i row. (row.owner == player) && sym (list_any-IsPermutation (λ n. n == row.id) ids sorted p) i
