-- Rows that are released one after another, and a row that leaves.
use Rattle.sim_board.proofs.Common.{None, filter, remove, find, Option, refl, ap, Apart, apart, arith, eq-eqb, eqb-true, find_has, Has, id_is_some, id_of, inl}
use Rattle.sim_board.proofs.Common.{inr, IsLooselyValid, IsStrictlyIncreasing, left_by, ne_eqb, release_all, released, removed, removed_is, Row, row_of}
use Rattle.sim_board.proofs.Common.{row_released, rows_released, Setup, State, subst, sym, watchers, ◌∙◌}
use Rattle.sim_board.proofs.Common.{◌≡◌, ℕ, zero, suc, ◌+◌, ◌<◌, Bool, true, false, cond, not, List, [], ◌∷◌, map, length, get_or, take, IsSome, ◌==◌, Some}

-- ids stay
pub ids_stay : (rows : List Row) (id : ℕ) → map id_of (row_released rows id) ≡ map id_of rows
ids_stay [] id = refl
ids_stay (row ∷ rows) id = by (row.id == id) (ids_stay rows id)
  where
    by : (b : Bool) → map id_of (row_released rows id) ≡ map id_of rows → (cond b (released row) row).id ∷ map id_of (row_released rows id) ≡ row.id ∷
        map id_of rows
    by true rest = ap (λ (ids : List ℕ). row.id ∷ ids) rest
    by false rest = ap (λ (ids : List ℕ). row.id ∷ ids) rest

-- one more is released
pub released_next : (ids : List ℕ) (rows : List Row) (n : ℕ) → n < length ids → rows_released (take (n + 1) ids) rows ≡ row_released
    (rows_released (take n ids) rows) (get_or ids n 0)
released_next ids rows n below = ap (λ (k : ℕ). rows_released (take k ids) rows) (next n) ∙ by ids rows n below
  where
    next : (n : ℕ) → n + 1 ≡ suc n
    next n = omega arith

    by : (ids : List ℕ) (rows : List Row) (n : ℕ) → n < length ids → rows_released (take (suc n) ids) rows ≡ row_released (rows_released (take n ids) rows)
        (get_or ids n 0)
    by [] rows n below = absurd (omega arith)
    by (id ∷ ids) rows zero below = refl
    by (id ∷ ids) rows (suc n) below = by ids (row_released rows id) n (omega arith)

-- as rows of a state
release-rows : (ids : List ℕ) (state : State) → release_all ids state ≡ record state { rows = rows_released ids state.rows }
release-rows [] state = refl
release-rows (id ∷ ids) state = release-rows ids (record state { rows = row_released state.rows id })

pub left_by_watchers : (setup : Setup) (state : State) (id : ℕ) (ids : List ℕ) → IsLooselyValid setup state → IsSome (row_of state id) → ids ≡ watchers state id
    → left_by id ids state ≡ removed id state
left_by_watchers setup state id ids valid alive are =
    ap (λ (ws : List ℕ). left_by id ws state) are ∙
    sym (ap (λ (s : State). record s { rows = filter (λ (row : Row). not (row.id == id)) s.rows }) (release-rows (watchers state id) state))
    ∙ sym (removed_is setup state id (some (row_of state id) refl alive) (apart state.rows valid.ascending))
  where
    some : (o : Option Row) → row_of state id ≡ o → IsSome o → id ≡ 0 → ⊥
    some None e h same = absurd (cc)
    some (Some row) e h same = id_is_some setup state id row valid e same

-- ---- a row leaves

-- where no row has the id, all stay
all_stay : (rows : List Row) (id : ℕ) → ((row : Row) → Has rows row → row.id ≡ id → ⊥) → rows ≡ filter (λ (row : Row). not (row.id == id)) rows
all_stay [] id none = refl
all_stay (row ∷ rows) id none = by (row.id == id) (ne_eqb row.id id (none row (inl refl))) (all_stay rows id (λ r h. none r (inr h)))
  where
    by : (b : Bool) → b ≡ false → rows ≡ filter (λ (r : Row). not (r.id == id)) rows
        → row ∷ rows ≡ cond (not b) (row ∷ filter (λ (r : Row). not (r.id == id)) rows) (filter (λ (r : Row). not (r.id == id)) rows)
    by true e rest = absurd (cc)
    by false e rest = ap (λ (rs : List Row). row ∷ rs) rest

-- the row at this place has the id, and no other has
without_it : (rows : List Row) (at id : ℕ) (d : Row) → Apart rows → at < length rows → (get_or rows at d).id ≡ id
    → remove rows at ≡ filter (λ (row : Row). not (row.id == id)) rows
without_it [] at id d all below same = absurd (omega arith)
without_it (row ∷ rows) zero id d all below same =
    all_stay rows id (λ r h e. omega (arith, all.0 r h, same, e)) ∙
    sym (ap (λ (b : Bool). cond (not b) (row ∷ filter (λ (r : Row). not (r.id == id)) rows) (filter (λ (r : Row). not (r.id == id)) rows))
    (eq-eqb row.id id same))
without_it (row ∷ rows) (suc at) id d all below same =
    ap (λ (rs : List Row). row ∷ rs) (without_it rows at id d all.1 (omega arith) same)
    ∙ sym (ap (λ (b : Bool). cond (not b) (row ∷ filter (λ (r : Row). not (r.id == id)) rows) (filter (λ (r : Row). not (r.id == id)) rows))
    (ne_eqb row.id id (λ e. omega (arith, later rows at d (omega arith) (all.0), same, e))))
  where
    later : (rs : List Row) (at : ℕ) (d : Row) → at < length rs → ((r : Row) → Has rs r → row.id < r.id) → row.id < (get_or rs at d).id
    later [] at d below low = absurd (omega arith)
    later (r ∷ rs) zero d below low = low r (inl refl)
    later (r ∷ rs) (suc at) d below low = later rs at d (omega arith) (λ q h. low q (inr h))

module _ (rows slice : List Row) (id : ℕ) (lent : slice ≡ rows) (up : IsStrictlyIncreasing (map id_of rows)) where
  pub taken : (at : ℕ) (d : Row) → at < length slice → ((e : Row) → find (λ (row : Row). row.id == id) slice ≡ Some (get_or slice at e))
      → remove rows at ≡ filter (λ (row : Row). not (row.id == id)) rows
  taken at d below holds =
      without_it rows at id d (apart rows up) (subst (λ (rs : List Row). at < length rs) lent below)
      (subst (λ (rs : List Row). (get_or rs at d).id ≡ id) lent
      (eqb-true (get_or slice at d).id id ((find_has (λ (row : Row). row.id == id) slice (get_or slice at d) (holds d)).1)))

  pub none_taken : find (λ (row : Row). row.id == id) slice ≡ None → rows ≡ filter (λ (row : Row). not (row.id == id)) rows
  none_taken none = all_stay rows id (other rows (subst (λ (rs : List Row). find (λ (row : Row). row.id == id) rs ≡ None) lent none))
    where
      other : (rows : List Row) → find (λ (row : Row). row.id == id) rows ≡ None → (row : Row) → Has rows row → row.id ≡ id → ⊥
      other [] e row h same = h
      other (q ∷ rows) e row h same = by (q.id == id) refl e h (other rows)
        where
          by : (b : Bool) → (q.id == id) ≡ b → cond b (Some q) (find (λ (r : Row). r.id == id) rows) ≡ None → Has (q ∷ rows) row
              → (find (λ (r : Row). r.id == id) rows ≡ None → (row : Row) → Has rows row → row.id ≡ id → ⊥) → ⊥
          by true t f m rest = absurd (cc)
          by false t f (inl s) rest = let there : (q.id == id) ≡ true = eq-eqb q.id id (ap id_of s ∙ same) in absurd (cc)
          by false t f (inr m) rest = rest f row m same
