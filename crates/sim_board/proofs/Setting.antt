-- A write to the row with an id is a change of each row with that id.
use Rattle.{sim_base.proofs.RowPlaces.apart_at, sim_board.proofs.Common.{ap, arith, Bool, cases_eq, cond, cond-false, cond-true, eq-eqb, eqb-true, false}}
use Rattle.sim_board.proofs.Common.{find_has, found, get_or, get_or-map, get_or-set_other, get_or-set_same, get_or_default, Has, id_of, inl, inr}
use Rattle.sim_board.proofs.Common.{IsStrictlyIncreasing, length, length-map, length-set, List, map, map-id, map_agree, ne_eqb, None, refl, Row, same_lists}
use Rattle.sim_board.proofs.Common.{set, Some, subst, sym, true, ℕ, ⊎_elim, [], ◌<◌, ◌==◌, ◌∙◌, ◌∷◌, ◌≡◌}

-- no row has this id
pub none_is_map : (rows : List Row) (id : ℕ) (g : Row → Row) → found rows id ≡ None → rows ≡ map (λ (row : Row). cond (row.id == id) (g row) row) rows
none_is_map rows id g none =
    sym (map_agree (λ (row : Row). cond (row.id == id) (g row) row) (λ (row : Row). row) rows
    (λ row h. cond-false (row.id == id) (g row) row (ne_eqb row.id id (other rows none row h))) ∙ map-id rows)
  where
    other : (rows : List Row) → found rows id ≡ None → (row : Row) → Has rows row → row.id ≡ id → ⊥
    other [] e row h same = h
    other (q ∷ rows) e row h same = by (q.id == id) refl e h (other rows)
      where
        by : (b : Bool) → (q.id == id) ≡ b → cond b (Some q) (found rows id) ≡ None → Has (q ∷ rows) row
            → (found rows id ≡ None → (row : Row) → Has rows row → row.id ≡ id → ⊥) → ⊥
        by true t f m rest = absurd (cc)
        by false t f (inl s) rest = let there : (q.id == id) ≡ true = eq-eqb q.id id (ap id_of s ∙ same) in absurd (cc)
        by false t f (inr m) rest = rest f row m same

-- the row at this place has this id
pub set_is_map : (rows : List Row) (id at : ℕ) (old : Row) (g : Row → Row) → IsStrictlyIncreasing (map id_of rows) → at < length rows → old ≡ get_or rows at old
    → found rows id ≡ Some old →
    set rows at (g old) ≡ map (λ (row : Row). cond (row.id == id) (g row) row) rows
set_is_map rows id at old g up lt is found_is =
    same_lists (set rows at (g old)) (map (λ (row : Row). cond (row.id == id) (g row) row) rows)
    (length-set rows at (g old) ∙ sym (length-map rows (λ (row : Row). cond (row.id == id) (g row) row)))
    (λ k d inside. same k d (omega (arith, inside, length-set rows at (g old))))
  where
    same : (k : ℕ) (d : Row) → k < length rows → get_or (set rows at (g old)) k d ≡ get_or (map (λ (row : Row). cond (row.id == id) (g row) row) rows) k d
    same k d inside =
        let has_id : old.id ≡ id = eqb-true old.id id ((find_has (λ (row : Row). row.id == id) rows old found_is).1) in
        let old_is : old ≡ get_or rows at d = is ∙ get_or_default rows at old d lt in
        let mapped : get_or (map (λ (row : Row). cond (row.id == id) (g row) row) rows) k d ≡ cond ((get_or rows k d).id == id) (g (get_or rows k d))
        (get_or rows k d) =
        get_or-map (λ (row : Row). cond (row.id == id) (g row) row) rows k d d inside in
        ⊎_elim
        (λ (here : k ≡ at).
        let row_is : get_or rows k d ≡ old = ap (λ (j : ℕ). get_or rows j d) here ∙ sym old_is in
        ap (λ (j : ℕ). get_or (set rows at (g old)) j d) here ∙ get_or-set_same rows at (g old) d lt ∙
        sym (cond-true (old.id == id) (g old) old (eq-eqb old.id id has_id)) ∙
        ap (λ (row : Row). cond (row.id == id) (g row) row) (sym row_is) ∙ sym mapped)
        (λ (there : k ≡ at → ⊥).
        let other : (get_or rows k d).id ≡ id → ⊥ = λ e. apart_at rows k at d up inside lt there (e ∙ sym has_id ∙ ap id_of old_is) in
        get_or-set_other rows at k (g old) d there ∙
        sym (cond-false ((get_or rows k d).id == id) (g (get_or rows k d)) (get_or rows k d) (ne_eqb (get_or rows k d).id id other)) ∙ sym mapped)
        (cases_eq k at)

module _ (rows slice : List Row) (id : ℕ) (g : Row → Row) (lent : slice ≡ rows) where
  -- the row was found at this place
  pub set_found : (at : ℕ) (old : Row) → IsStrictlyIncreasing (map id_of rows) → at < length slice → ((d : Row) → found slice id ≡ Some (get_or slice at d))
      → old ≡ get_or rows at old →
      set rows at (g old) ≡ map (λ (row : Row). cond (row.id == id) (g row) row) rows
  set_found at old up lt holds is =
      set_is_map rows id at old g up (subst (λ (rs : List Row). at < length rs) lent lt) is
      (subst (λ (rs : List Row). found rs id ≡ Some (get_or rs at old)) lent (holds old) ∙ ap Some (sym is))

  -- no row was found
  pub none_found : found slice id ≡ None → rows ≡ map (λ (row : Row). cond (row.id == id) (g row) row) rows
  none_found none = none_is_map rows id g (subst (λ (rs : List Row). found rs id ≡ None) lent none)
