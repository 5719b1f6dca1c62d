-- The facts of a list of rows: where a row is changed, leaves or comes, and where a fact is found.
pub use Rattle.sim_base.specs.{Commands.{released, removed, watchers, with_row}, declared.place.Point.Point}
pub use Rattle.sim_base.specs.declared.{setup.Setup.Setup, state.{Aim.Aim, Motion.Motion, Row.Row, State.State}, template.{Arms.Arms, Template.Template}}
pub use Rattle.sim_base.specs.{Limits.{IsInside, IsKnownRow, IsLooselyValid, IsSetup, IsValidAim}, Rows.{arms_of, id_of, row_of, target_of}}
pub use Rattle.sim_laws.proofs.{Commanding.known_template, Neighbours.Has, Validity.{all_at, Apart, apart, found_row, known_row}}
pub use Rattle.sim_plans.specs.{FactLaws.AllNotesFit, Releases.release_all, RowChanges.{Fits, OfRow}}
pub use Rattle.sim_system.specs.declared.{fact.Fact.Fact, kind.Kind.{Kind, TheVariants.{Census, Ground, Range, Watch}}}
pub use Rattle.sim_system.specs.declared.note.Note.{Note, TheVariants.{Aimed, Born, Gone, Moved, Owned}}
pub use Rattle.sim_system.specs.Notes.{aim_of, fact_of, fact_with, facts_of, id_of_fact, IsInRange, keeps, kept, noted, part_for, with_kept, without}
pub use Rattle.std.proofs.Common.{ap, arith, Bool, cond, false, filter, find, fold, inl, inr, length, List, map, MatchOption, None, not, Option, refl, Some}
pub use Rattle.std.proofs.{Common.{subst, sym, true, ℕ, ℤ, ⊎_elim, [], ◌++◌, ◌<◌, ◌∙◌, ◌∷◌, ◌≡◌, ◌≤◌}, lemmas.Bool.{cond_both, eq-eqb, eqb-true, ne_eqb}}
pub use Rattle.std.specs.{List.cons_option, Prelude.{is_some, IsSome, option_and_then, option_map, unwrap_or, ◌&&◌, ◌==◌, ◌||◌}}
use Rattle.sim_base.specs.{Limits.IsValidMotion, Rows.template_of}
use Rattle.sim_laws.proofs.{Neighbours.{Has-append_cases, Has-of_filter_map, Has-of_map}, Validity.{both_same, same_row}}
use Rattle.{sim_plans.specs.FactLaws.UnheardChangesNothing, sim_system.{proofs.Facts.{kept_id, placed_behind}, specs.Notes.{kept_of, placed, with_changed}}}
use Rattle.std.{proofs.{Common.{append_assoc, ◌+◌}, lemmas.{Bool.cond-true, List.map-append}}, specs.Prelude.{IsNone, nat_lt}}

-- The words that the proofs here name again and again, passed on from one place. Declares nothing.

module _ (kind : Kind) (setup : Setup) where
  -- what is kept of a row, and of several
  abbrev pub part : Row → Option Fact
  part row = kept kind (fact_of setup row)

  abbrev pub facts : List Row → List Fact
  facts rows = kept_of kind (map (fact_of setup) rows)

  pub part-id : (row : Row) (f : Fact) → part row ≡ Some f → f.id ≡ row.id
  part-id row f e = kept_id kind (fact_of setup row) f e

  -- the row of a fact
  pub row_behind : (rows : List Row) (f : Fact) → Has (facts rows) f → (row : Row) × Has rows row × (part row ≡ Some f)
  row_behind rows f h =
      let (told, m, e) = Has-of_filter_map (kept kind) (map (fact_of setup) rows) f h in
      let (row, k, s) = Has-of_map (fact_of setup) rows told m in
      (row, k, ap (kept kind) s ∙ e)

  cons-length : (o : Option Fact) (fs : List Fact) → length (cons_option o fs) ≤ length fs + 1
  cons-length None fs = omega arith
  cons-length (Some f) fs = omega arith

  -- there are no more facts than rows
  pub facts-length : (rows : List Row) → length (facts rows) ≤ length rows
  facts-length [] = omega arith
  facts-length (row ∷ rows) = omega (arith, cons-length (part row) (facts rows), facts-length rows)

  -- ---- rows are changed

  -- where the same is kept of each row, the facts are the same
  pub facts-same : (g : Row → Row) (rows : List Row) → ((row : Row) → Has rows row → part (g row) ≡ part row) → facts (map g rows) ≡ facts rows
  facts-same g [] each = refl
  facts-same g (row ∷ rows) each =
      ap (λ (o : Option Fact). cons_option o (facts (map g rows))) (each row (inl refl)) ∙
      ap (cons_option (part row)) (facts-same g rows (λ r h. each r (inr h)))

  cons-map : (h : Fact → Fact) (o : Option Fact) (fs : List Fact) → cons_option (option_map h o) (map h fs) ≡ map h (cons_option o fs)
  cons-map h None fs = refl
  cons-map h (Some f) fs = refl

  -- where what is kept of each row is changed, the facts are changed
  pub facts-map : (g : Row → Row) (h : Fact → Fact) (rows : List Row) → ((row : Row) → part (g row) ≡ option_map h (part row))
      → facts (map g rows) ≡ map h (facts rows)
  facts-map g h [] each = refl
  facts-map g h (row ∷ rows) each =
      ap (λ (o : Option Fact). cons_option o (facts (map g rows))) (each row) ∙ ap (cons_option (option_map h (part row))) (facts-map g h rows each) ∙
      cons-map h (part row) (facts rows)

  -- the row with an id is changed
  abbrev pub changing : ℕ → (Row → Row) → Row → Row
  changing id changed row = cond (row.id == id) (changed row) row

  pub facts-unchanged : (id : ℕ) (changed : Row → Row) (rows : List Row) → ((row : Row) → Has rows row → row.id ≡ id → part (changed row) ≡ part row)
      → facts (map (changing id changed) rows) ≡ facts rows
  facts-unchanged id changed rows each =
      facts-same (changing id changed) rows (λ row h. cond_both (row.id == id) (changed row) row (λ (r : Row). part r ≡ part row)
      (λ same. each row h (eqb-true row.id id same)) (λ other. refl))

  pub facts-changed : (id : ℕ) (changed : Row → Row) (h : Fact → Fact) (rows : List Row) → ((row : Row) → part (changed row) ≡ option_map h (part row))
      → facts (map (changing id changed) rows) ≡ with_changed id h (facts rows)
  facts-changed id changed h rows each =
      facts-map (changing id changed) (λ (f : Fact). cond (f.id == id) (h f) f) rows (λ row. by row (row.id == id) (part row) refl refl)
    where
      by : (row : Row) (b : Bool) (o : Option Fact) → (row.id == id) ≡ b → part row ≡ o → part (cond (row.id == id) (changed row) row) ≡ option_map
          (λ (f : Fact). cond (f.id == id) (h f) f) (part row)
      by row true None e k = rw (e, k) (each row ∙ ap (option_map h) k)
      by row true (Some f) e k =
          let same : (f.id == id) ≡ true = ap (λ (n : ℕ). n == id) (part-id row f k) ∙ e in
          rw (e, k, same) (each row ∙ ap (option_map h) k)
      by row false None e k = rw (e, k) refl
      by row false (Some f) e k =
          let same : (f.id == id) ≡ false = ap (λ (n : ℕ). n == id) (part-id row f k) ∙ e in
          rw (e, k, same) refl

  -- ---- a row leaves

  pub facts-without : (id : ℕ) (rows : List Row) → facts (filter (λ (row : Row). not (row.id == id)) rows) ≡ without id (facts rows)
  facts-without id [] = refl
  facts-without id (row ∷ rows) = by (row.id == id) (part row) refl refl (facts-without id rows)
    where
      by : (b : Bool) (o : Option Fact) → (row.id == id) ≡ b → part row ≡ o → facts (filter (λ (r : Row). not (r.id == id)) rows) ≡ without id (facts rows) →
          facts (cond (not (row.id == id)) (row ∷ filter (λ (r : Row). not (r.id == id)) rows) (filter (λ (r : Row). not (r.id == id)) rows)) ≡ without id
          (cons_option (part row) (facts rows))
      by true None e k rest = rw (e, k) rest
      by true (Some f) e k rest =
          let same : (f.id == id) ≡ true = ap (λ (n : ℕ). n == id) (part-id row f k) ∙ e in
          rw (e, k, same) rest
      by false None e k rest = rw (e, k) rest
      by false (Some f) e k rest =
          let same : (f.id == id) ≡ false = ap (λ (n : ℕ). n == id) (part-id row f k) ∙ e in
          rw (e, k, same) (ap (λ (fs : List Fact). f ∷ fs) rest)

  -- ---- a row comes

  -- a fact whose id is below all stands first
  pub placed-first : (f : Fact) (fs : List Fact) → ((g : Fact) → Has fs g → f.id < g.id) → placed f fs ≡ f ∷ fs
  placed-first f [] below = refl
  placed-first f (g ∷ fs) below =
      let less : nat_lt f.id g.id ≡ true = grind (arith, below g (inl refl)) in
      rw less refl

  placed-kept : (f : Fact) (row : Row) (fs : List Fact) → row.id < f.id → placed f (cons_option (part row) fs) ≡ cons_option (part row) (placed f fs)
  placed-kept f row fs above = by (part row) refl
    where
      by : (o : Option Fact) → part row ≡ o → placed f (cons_option o fs) ≡ cons_option o (placed f fs)
      by None k = refl
      by (Some g) k = placed_behind f g fs (omega (arith, above, part-id row g k))

  pub facts-appended : (new : Row) (rows : List Row) → ((row : Row) → Has rows row → row.id < new.id) → facts (rows ++ new ∷ []) ≡ with_kept (part new)
      (facts rows)
  facts-appended new rows below = by (part new) refl
    where
      at_end : (f : Fact) → f.id ≡ new.id → (rs : List Row) → ((row : Row) → Has rs row → row.id < new.id) → cons_option (Some f) [] ≡ facts (new ∷ [])
          → facts (rs ++ new ∷ []) ≡ placed f (facts rs)
      at_end f e [] below k = sym k
      at_end f e (row ∷ rs) below k =
          ap (cons_option (part row)) (at_end f e rs (λ r h. below r (inr h)) k) ∙ sym (placed-kept f row (facts rs) (omega (arith, below row (inl refl), e)))

      none : (rs : List Row) → [] ≡ facts (new ∷ []) → facts (rs ++ new ∷ []) ≡ facts rs
      none [] k = sym k
      none (row ∷ rs) k = ap (cons_option (part row)) (none rs k)

      by : (o : Option Fact) → part new ≡ o → facts (rows ++ new ∷ []) ≡ with_kept o (facts rows)
      by None k = none rows (sym (ap (λ (o : Option Fact). cons_option o []) k))
      by (Some f) k = at_end f (part-id new f k) rows below (sym (ap (λ (o : Option Fact). cons_option o []) k))

  -- ---- a row is changed at its place

  without-none : (id : ℕ) (fs : List Fact) → ((f : Fact) → Has fs f → f.id ≡ id → ⊥) → without id fs ≡ fs
  without-none id [] none = refl
  without-none id (f ∷ fs) none =
      let other : (f.id == id) ≡ false = ne_eqb f.id id (none f (inl refl)) in
      rw other (ap (λ (gs : List Fact). f ∷ gs) (without-none id fs (λ g h. none g (inr h))))

  without-here : (row : Row) (fs : List Fact) → without row.id (cons_option (part row) fs) ≡ without row.id fs
  without-here row fs = by (part row) refl
    where
      by : (o : Option Fact) → part row ≡ o → without row.id (cons_option o fs) ≡ without row.id fs
      by None k = refl
      by (Some f) k = let same : (f.id == row.id) ≡ true = eq-eqb f.id row.id (part-id row f k) in rw same refl

  without-other : (id : ℕ) (row : Row) (fs : List Fact) → (row.id ≡ id → ⊥) → without id (cons_option (part row) fs) ≡ cons_option (part row) (without id fs)
  without-other id row fs differs = by (part row) refl
    where
      by : (o : Option Fact) → part row ≡ o → without id (cons_option o fs) ≡ cons_option o (without id fs)
      by None k = refl
      by (Some f) k = let other : (f.id == id) ≡ false = ne_eqb f.id id (λ s. differs (sym (part-id row f k) ∙ s)) in rw other refl

  -- facts of rows above an id have ids above it
  facts_above : (id : ℕ) (rows : List Row) → ((row : Row) → Has rows row → id < row.id) → (f : Fact) → Has (facts rows) f → id < f.id
  facts_above id rows above f h = let (row, m, k) = row_behind rows f h in omega (arith, above row m, part-id row f k)

  pub rows_stay : (id : ℕ) (changed : Row → Row) (rows : List Row) → ((row : Row) → Has rows row → row.id ≡ id → ⊥) → map (changing id changed) rows ≡ rows
  rows_stay id changed [] elsewhere = refl
  rows_stay id changed (row ∷ rows) elsewhere =
      let other : (row.id == id) ≡ false = ne_eqb row.id id (elsewhere row (inl refl)) in
      ap (λ (b : Bool). cond b (changed row) row ∷ map (changing id changed) rows) other ∙ ap (λ (rs : List Row). row ∷ rs)
      (rows_stay id changed rows (λ r h. elsewhere r (inr h)))

  with_kept-first : (o : Option Fact) (fs : List Fact) → ((f : Fact) → o ≡ Some f → (g : Fact) → Has fs g → f.id < g.id) → cons_option o fs ≡ with_kept o fs
  with_kept-first None fs below = refl
  with_kept-first (Some f) fs below = sym (placed-first f fs (below f refl))

  with_kept-behind : (o : Option Fact) (row : Row) (fs : List Fact) → ((f : Fact) → o ≡ Some f → row.id < f.id) → cons_option (part row) (with_kept o fs) ≡
      with_kept o (cons_option (part row) fs)
  with_kept-behind None row fs above = refl
  with_kept-behind (Some f) row fs above = sym (placed-kept f row fs (above f refl))

  pub facts-replaced : (changed : Row → Row) (row : Row) (rows : List Row) → Apart rows → Has rows row → (changed row).id ≡ row.id
      → facts (map (changing row.id changed) rows) ≡ with_kept (part (changed row)) (without row.id (facts rows))
  facts-replaced changed row [] apart h same = absurd h
  facts-replaced changed row (q ∷ rows) apart (inl e) same =
      subst (λ (r : Row). facts (map (changing r.id changed) (q ∷ rows)) ≡ with_kept (part (changed r)) (without r.id (facts (q ∷ rows)))) e (
      let here : (q.id == q.id) ≡ true = eq-eqb q.id q.id refl in
      let id_is : (changed q).id ≡ q.id = ap (λ (r : Row). (changed r).id) e ∙ same ∙ ap id_of (sym e) in
      let gone : without q.id (cons_option (part q) (facts rows)) ≡ facts rows = without-here q (facts rows) ∙
      without-none q.id (facts rows) (λ f h s. omega (arith, facts_above q.id rows apart.0 f h, s)) in
      ap (λ (b : Bool). facts (cond b (changed q) q ∷ map (changing q.id changed) rows)) here ∙ ap (λ (rs : List Row). facts (changed q ∷ rs))
      (rows_stay q.id changed rows (λ r h s. omega (arith, apart.0 r h, s)))
      ∙ with_kept-first (part (changed q)) (facts rows) (λ f k g h. omega (arith, facts_above q.id rows apart.0 g h, part-id (changed q) f k, id_is))
      ∙ ap (with_kept (part (changed q))) (sym gone)
      )
  facts-replaced changed row (q ∷ rows) apart (inr h) same =
      let below : q.id < row.id = apart.0 row h in
      let other : (q.id == row.id) ≡ false = ne_eqb q.id row.id (λ s. omega (arith, below, s)) in
      ap (λ (b : Bool). facts (cond b (changed q) q ∷ map (changing row.id changed) rows)) other ∙
      ap (cons_option (part q)) (facts-replaced changed row rows apart.1 h same)
      ∙ with_kept-behind (part (changed row)) q (without row.id (facts rows)) (λ f k. omega (arith, below, part-id (changed row) f k, same))
      ∙ ap (with_kept (part (changed row))) (sym (without-other row.id q (facts rows) (λ s. omega (arith, below, s))))

  -- ---- a fact is found

  pub fact_with-none : (id : ℕ) (fs : List Fact) → ((f : Fact) → Has fs f → f.id ≡ id → ⊥) → fact_with fs id ≡ None
  fact_with-none id [] none = refl
  fact_with-none id (f ∷ fs) none =
      let other : (f.id == id) ≡ false = ne_eqb f.id id (none f (inl refl)) in
      rw other (fact_with-none id fs (λ g h. none g (inr h)))

  -- what is kept of an id is what is kept of its row
  pub fact_with-facts : (id : ℕ) (rows : List Row) → Apart rows → fact_with (facts rows) id ≡ option_and_then part (find (λ (row : Row). row.id == id) rows)
  fact_with-facts id [] apart = refl
  fact_with-facts id (row ∷ rows) apart = by (row.id == id) (part row) refl refl (fact_with-facts id rows apart.1)
    where
      none_later : row.id ≡ id → fact_with (facts rows) id ≡ None
      none_later e = fact_with-none id (facts rows) (λ f h s. omega (arith, facts_above row.id rows apart.0 f h, s, e))

      by : (b : Bool) (o : Option Fact) → (row.id == id) ≡ b → part row ≡ o → fact_with (facts rows) id ≡ option_and_then part
          (find (λ (r : Row). r.id == id) rows) →
          fact_with (cons_option (part row) (facts rows)) id ≡ option_and_then part (cond (row.id == id) (Some row) (find (λ (r : Row). r.id == id) rows))
      by true None e k rest = rw (e, k) (none_later (eqb-true row.id id e))
      by true (Some f) e k rest =
          let same : (f.id == id) ≡ true = ap (λ (n : ℕ). n == id) (part-id row f k) ∙ e in
          rw (e, k, same) refl
      by false None e k rest = rw (e, k) rest
      by false (Some f) e k rest =
          let same : (f.id == id) ≡ false = ap (λ (n : ℕ). n == id) (part-id row f k) ∙ e in
          rw (e, k, same) rest

-- What each kind keeps of a row that was changed.

-- ---- the row that a change names

-- where something holds of the row with an id, there is one, and it holds of it
pub named_row : (state : State) (id : ℕ) (P : Row → Type 0) → OfRow state id P → (row : Row) × (row_of state id ≡ Some row) × P row
named_row state id P h = by (row_of state id) refl h
  where
    by : (o : Option Row) → row_of state id ≡ o → MatchOption o ⊥ P → (row : Row) × (row_of state id ≡ Some row) × P row
    by None e h = absurd h
    by (Some row) e h = (row, e, h)

-- it holds of each row that has the id
pub of_each_named : (setup : Setup) (state : State) (id : ℕ) (P : Row → Type 0) → IsLooselyValid setup state → OfRow state id P → (row : Row)
    → Has state.rows row → row.id ≡ id → P row
of_each_named setup state id P valid fit row h e =
    let (named, found, holds) = named_row state id P fit in
    let (m, is_id) = found_row state id named found in
    subst P (same_row state.rows named row (apart state.rows valid.ascending) m h (is_id ∙ sym e)) holds

module _ (setup : Setup) where
  -- ---- a move

  none_is : {X : Type 0} (o : Option X) → IsNone o → o ≡ None
  none_is None h = refl
  none_is (Some x) h = absurd (cc)

  -- a row that can move is no obstruction
  pub no_obstruction : (state : State) (row : Row) → IsSetup setup → IsLooselyValid setup state → Has state.rows row → IsSome row.motion
      → option_and_then (λ (t : Template). t.obstruct) (template_of setup row) ≡ None
  no_obstruction state row limits valid h moves =
      let (t, e, v) = known_row 0 setup state.rows row (all_at (IsKnownRow 0 setup state.rows) state.rows row valid.rows h) in
      let has_speed : is_some t.speed ≡ true = sym (both_same (λ (m : Motion) (s : ℤ). IsValidMotion setup m) row.motion t.speed v.motion) ∙ moves in
      ap (option_and_then (λ (t : Template). t.obstruct)) e ∙ none_is t.obstruct ((known_template setup row.template t limits e).moves_or_obstructs has_speed)

  pub part-moved_ground : (p : Point) (row : Row) → option_and_then (λ (t : Template). t.obstruct) (template_of setup row) ≡ None
      → part Ground setup (record row { at = p }) ≡ part Ground setup row
  part-moved_ground p row none = rw none refl

  pub part-moved_range : (p : Point) (row : Row) → part Range setup (record row { at = p }) ≡ option_map (λ (f : Fact). record f { at = p })
      (part Range setup row)
  part-moved_range p row =
      elim (keeps Range (fact_of setup row)) as (λ b. cond b (Some (part_for Range (fact_of setup (record row { at = p })))) None ≡ option_map
      (λ (f : Fact). record f { at = p }) (cond b (Some (part_for Range (fact_of setup row))) None)) [
        | true ↦ refl
        | false ↦ refl
      ]

  -- ---- a change of owner

  pub part-owned_range : (owner : ℕ) (row : Row) → part Range setup (record row { owner = owner }) ≡ option_map (λ (f : Fact). record f { owner = owner })
      (part Range setup row)
  part-owned_range owner row =
      elim (keeps Range (fact_of setup row)) as (λ b. cond b (Some (part_for Range (fact_of setup (record row { owner = owner })))) None ≡ option_map
      (λ (f : Fact). record f { owner = owner }) (cond b (Some (part_for Range (fact_of setup row))) None)) [
        | true ↦ refl
        | false ↦ refl
      ]

  -- ---- health

  pub part-hurt_range : (health : ℤ) (row : Row) → IsSome row.health → part Range setup (record row { health = Some health }) ≡ part Range setup row
  part-hurt_range health row has = ap (λ (b : Bool). kept Range (record (fact_of setup row) { health = b })) (sym has)

  -- ---- an aim

  pub part-aimed_watch : (id target : ℕ) (row : Row) → row.id ≡ id → target_of row ≡ target → part Watch setup row ≡ kept Watch (aim_of id target)
  part-aimed_watch id target row id_is target_is = ap (λ (i : ℕ). kept Watch (aim_of i (target_of row))) id_is ∙ ap (λ (t : ℕ). kept Watch (aim_of id t))
      target_is

-- A note outside the table of subscriptions changes nothing.

pub unheard : UnheardChangesNothing
unheard kind facts (Born fact) e = absurd (cc)
unheard kind facts (Gone fact) e = absurd (cc)
unheard Ground facts (Moved id from to) e = refl
unheard Range facts (Moved id from to) e = absurd (cc)
unheard Watch facts (Moved id from to) e = refl
unheard Census facts (Moved id from to) e = refl
unheard Ground facts (Owned id from to) e = refl
unheard Range facts (Owned id from to) e = absurd (cc)
unheard Watch facts (Owned id from to) e = refl
unheard Census facts (Owned id from to) e = absurd (cc)
unheard Ground facts (Aimed id from to) e = refl
unheard Range facts (Aimed id from to) e = refl
unheard Watch facts (Aimed id from to) e = absurd (cc)
unheard Census facts (Aimed id from to) e = refl

-- A row is removed: those who aimed at it are let go one by one, and then it leaves.

-- what becomes of a row that stays when another is removed
abbrev pub let_go : ℕ → Row → Row
let_go id row = cond (target_of row == id) (released row) row

module _ (setup : Setup) (state : State) where
  abbrev pub with_rows : List Row → State
  with_rows rows = record state { rows = rows }

  abbrev Elsewhere : List Row → ℕ → Type 0
  Elsewhere rows id = (r : Row) → Has rows r → r.id ≡ id → ⊥

  row_released : (done rest : List Row) (row : Row) → Elsewhere done row.id → Elsewhere rest row.id → map (changing Census setup row.id released)
      (done ++ row ∷ rest) ≡ done ++ released row ∷ rest
  row_released done rest row before after =
      let g : Row → Row = changing Census setup row.id released in
      map-append g done (row ∷ rest) ∙ ap (λ (rs : List Row). rs ++ g row ∷ map g rest) (rows_stay Census setup row.id released done before)
      ∙ ap (λ (r : Row). done ++ r ∷ map g rest) (cond-true (row.id == row.id) (released row) row (eq-eqb row.id row.id refl))
      ∙ ap (λ (rs : List Row). done ++ released row ∷ rs) (rows_stay Census setup row.id released rest after)

  -- the rows that pass a test are let go
  released_from : (test : Row → Bool) (done rest : List Row) → ((q r : Row) → Has done q → Has rest r → q.id < r.id) → Apart rest →
      release_all (map id_of (filter test rest)) (with_rows (done ++ rest)) ≡ with_rows (done ++ map (λ (r : Row). cond (test r) (released r) r) rest)
  released_from test done [] before apart = refl
  released_from test done (row ∷ rest) before apart =
      by (test row) refl (λ new same. released_from test (done ++ new ∷ []) rest
      (λ q r h k. ⊎_elim (λ (m : Has done q). before q r m (inr k)) (λ (m : Has (new ∷ []) q). last new same q r m k)
      (Has-append_cases done (new ∷ []) q h)) apart.1)
    where
      last : (new : Row) → new.id ≡ row.id → (q r : Row) → Has (new ∷ []) q → Has rest r → q.id < r.id
      last new same q r (inl e) k = omega (arith, ap id_of e, same, apart.0 r k)
      last new same q r (inr m) k = absurd m

      Later : Type 0
      Later = (new : Row) → new.id ≡ row.id → release_all (map id_of (filter test rest)) (with_rows ((done ++ new ∷ []) ++ rest)) ≡ with_rows
          ((done ++ new ∷ []) ++ map (λ (r : Row). cond (test r) (released r) r) rest)

      next : Later → (new : Row) → new.id ≡ row.id → release_all (map id_of (filter test rest)) (with_rows (done ++ new ∷ rest)) ≡ with_rows
          (done ++ new ∷ map (λ (r : Row). cond (test r) (released r) r) rest)
      next later new same =
          ap (λ (rows : List Row). release_all (map id_of (filter test rest)) (with_rows rows)) (sym (append_assoc done (new ∷ []) rest))
          ∙ later new same
          ∙ ap with_rows (append_assoc done (new ∷ []) (map (λ (r : Row). cond (test r) (released r) r) rest))

      by : (b : Bool) → test row ≡ b → Later → release_all (map id_of (filter test (row ∷ rest))) (with_rows (done ++ row ∷ rest)) ≡ with_rows
          (done ++ map (λ (r : Row). cond (test r) (released r) r) (row ∷ rest))
      by true e later =
          rw e (
          ap (λ (rows : List Row). release_all (map id_of (filter test rest)) (with_rows rows))
          (row_released done rest row (λ q h s. omega (arith, before q row h (inl refl), s)) (λ r h s. omega (arith, apart.0 r h, s)))
          ∙ next later (released row) refl
          )
      by false e later = rw e (next later row refl)

  -- letting go those who aim at it, and then leaving it out, is to remove it
  filter-let_go : (id : ℕ) (rows : List Row) → map (let_go id) (filter (λ (row : Row). not (row.id == id)) rows) ≡ filter (λ (row : Row). not (row.id == id))
      (map (let_go id) rows)
  filter-let_go id [] = refl
  filter-let_go id (row ∷ rows) = by (row.id == id) refl (target_of row == id) refl (filter-let_go id rows)
    where
      by : (b : Bool) → (row.id == id) ≡ b → (c : Bool) → (target_of row == id) ≡ c → map (let_go id) (filter (λ (row : Row). not (row.id == id)) rows) ≡ filter
          (λ (row : Row). not (row.id == id)) (map (let_go id) rows) →
          map (let_go id) (cond (not (row.id == id)) (row ∷ filter (λ (row : Row). not (row.id == id)) rows) (filter (λ (row : Row). not (row.id == id)) rows))
          ≡ cond (not ((let_go id row).id == id)) (let_go id row ∷ filter (λ (row : Row). not (row.id == id)) (map (let_go id) rows))
          (filter (λ (row : Row). not (row.id == id)) (map (let_go id) rows))
      by true e true f rest = rw (f, e) rest
      by true e false f rest = rw (f, e) rest
      by false e true f rest = rw (f, e, f) (ap (λ (rs : List Row). released row ∷ rs) rest)
      by false e false f rest = rw (f, e, f) (ap (λ (rs : List Row). row ∷ rs) rest)

  pub let_go_all : (id : ℕ) → (id ≡ 0 → ⊥) → Apart state.rows → release_all (watchers state id) state ≡ with_rows (map (let_go id) state.rows)
  let_go_all id some apart =
      ap (λ (b : Bool). release_all (map id_of (filter (λ (row : Row). not b && target_of row == id) state.rows)) state) (ne_eqb id 0 some)
      ∙ released_from (λ (row : Row). target_of row == id) [] state.rows (λ q r h k. absurd h) apart

  pub removed_is : (id : ℕ) → (id ≡ 0 → ⊥) → Apart state.rows → removed id state ≡ record (release_all (watchers state id) state)
      { rows = filter (λ (row : Row). not (row.id == id)) (release_all (watchers state id) state).rows }
  removed_is id some apart =
      ap with_rows (filter-let_go id state.rows) ∙
      sym (ap (λ (s : State). record s { rows = filter (λ (row : Row). not (row.id == id)) s.rows }) (let_go_all id some apart))
