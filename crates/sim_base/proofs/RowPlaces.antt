-- Among rows whose ids ascend, an id stands once: later ones are above it, and the first row of an id is the one that was found.
use Rattle.{sim_base.specs.{declared.state.Row.Row, Rows.id_of}, std.proofs.Common.{All, ap, arith, Bool, eq-eqb, false, find, get_or, HoldsAt, length, List}}
use Rattle.std.proofs.Common.{map, ne_eqb, None, refl, Some, suc, true, zero, ℕ, ⊎_elim, [], ◌<◌, ◌==◌, ◌∙◌, ◌∷◌, ◌≡◌, ◌≢◌, ◌≤◌}
use Rattle.std.{proofs.lemmas.{Bool.cases_lt, List.{get_or-map, Kept.AllPairs-from_increasing, length-map}}, specs.List.Sorted.IsStrictlyIncreasing}

-- each id is below all later ones
pub ids_rise : (rows : List Row) → IsStrictlyIncreasing (map id_of rows) → (i j : ℕ) (d : Row) → i < j → j < length rows
    → (get_or rows i d).id < (get_or rows j d).id
ids_rise rows up i j d before lt =
    let h : get_or (map id_of rows) i 0 < get_or (map id_of rows) j 0 = AllPairs-from_increasing (map id_of rows) up i j 0 before
    (rw (length-map rows id_of) lt) in
    let e : get_or (map id_of rows) i 0 ≡ (get_or rows i d).id = get_or-map id_of rows i d 0 (omega arith) in
    let f : get_or (map id_of rows) j 0 ≡ (get_or rows j d).id = get_or-map id_of rows j d 0 lt in
    omega arith

-- ids of rows at different places differ
pub apart_at : (rows : List Row) (i j : ℕ) (d : Row) → IsStrictlyIncreasing (map id_of rows) → i < length rows → j < length rows → (i ≡ j → ⊥)
    → (get_or rows i d).id ≡ (get_or rows j d).id → ⊥
apart_at rows i j d up in_i in_j differ same =
    ⊎_elim (λ (before : i < j). let below = ids_rise rows up i j d before in_j in omega (arith, below, same))
    (λ (after : j ≤ i). let k : j < i = omega (arith) in let below = ids_rise rows up j i d k in_i in omega (arith, below, same)) (cases_lt i j)

-- ---- the first row with an id

pub find_at : {X : Type 0} (p : X → Bool) (xs : List X) (i : ℕ) (x : X) → i < length xs → x ≡ get_or xs i x → p x ≡ true
    → ((k : ℕ) → k < i → p (get_or xs k x) ≡ false) → find p xs ≡ Some x
find_at p [] i x lt is here before = absurd (omega arith)
find_at p (y ∷ ys) zero x lt is here before = rw (← is, here) refl
find_at p (y ∷ ys) (suc i) x lt is here before =
    let first : p y ≡ false = before 0 (omega arith) in
    rw first (find_at p ys i x (omega arith) is here (λ k h. before (suc k) (omega arith)))

find_none : {X : Type 0} (p : X → Bool) (xs : List X) → All (λ x. p x ≡ false) xs → find p xs ≡ None
find_none p [] none = refl
find_none p (y ∷ ys) none =
    let first : p y ≡ false = none 0 y (omega arith) in
    rw first (find_none p ys (λ k d lt. none (suc k) d (omega arith)))

pub row_there : (rows : List Row) (id i : ℕ) (x : Row) → IsStrictlyIncreasing (map id_of rows) → i < length rows → x ≡ get_or rows i x
    → HoldsAt (λ (row : Row). row.id ≡ id) rows i → find (λ (row : Row). row.id == id) rows ≡ Some x
row_there rows id i x up lt is at_id =
    let here : x.id ≡ id = ap (λ (row : Row). row.id) is ∙ at_id x in
    find_at (λ (row : Row). row.id == id) rows i x lt is (eq-eqb x.id id here)
    (λ k before. ne_eqb (get_or rows k x).id id (λ f. omega (arith, ids_rise rows up k i x before lt, at_id x)))

pub row_missing : (rows : List Row) (id : ℕ) → All (λ (row : Row). row.id ≢ id) rows → find (λ (row : Row). row.id == id) rows ≡ None
row_missing rows id all = find_none (λ (row : Row). row.id == id) rows (λ k d lt. ne_eqb (get_or rows k d).id id (all k d lt))
