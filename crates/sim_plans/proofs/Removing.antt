-- A row is removed: the notes of those who are let go, and then of the one that leaves.
use Rattle.sim_base.specs.declared.change.Change.TheVariants as change
use Rattle.sim_base.specs.{Commands.{applied, new_row, with_new}, declared.{change.Change.Change, template.Base.Base}, Limits.{Both, has_health, IsArms}}
use Rattle.{sim_base.specs.{Limits.{IsFrom, IsRawFrom}, Places.rect_of}, sim_laws.proofs.{Neighbours.{Has-append_right, Has-map}, Removing.released_stays}}
use Rattle.sim_laws.proofs.{Removing.{removed_is_state, same_stays, target_of-released}, Validity.{all_from, map-map, mapped_is_state, row_found, Stays}}
use Rattle.sim_plans.proofs.{Applying.fitting_keeps, FactLists.{Aim, aim_of, Aimed, all_at, AllNotesFit, ap, Apart, apart, arith, Arms, arms_of, Bool, Born}}
use Rattle.sim_plans.proofs.FactLists.{Census, cond, cond_both, eqb-true, Fact, fact_of, fact_with, fact_with-facts, fact_with-none, facts-appended}
use Rattle.sim_plans.proofs.FactLists.{facts-changed, facts-length, facts-replaced, facts-unchanged, facts-without, facts_of, false, filter, find, Fits, fold}
use Rattle.sim_plans.proofs.FactLists.{found_row, Gone, Ground, Has, id_of, id_of_fact, inl, inr, IsInRange, IsInside, IsKnownRow, IsLooselyValid, IsSetup}
use Rattle.sim_plans.proofs.FactLists.{IsSome, IsValidAim, keeps, kept, Kind, known_row, known_template, length, let_go, let_go_all, List, map, MatchOption}
use Rattle.sim_plans.proofs.FactLists.{Motion, Moved, named_row, ne_eqb, no_obstruction, None, not, Note, noted, of_each_named, OfRow, Option, option_and_then}
use Rattle.sim_plans.proofs.FactLists.{option_map, Owned, part, part-aimed_watch, part-hurt_range, part-id, part-moved_ground, part-moved_range}
use Rattle.sim_plans.proofs.FactLists.{part-owned_range, part_for, Point, Range, refl, release_all, released, removed, removed_is, Row, row_behind, row_of}
use Rattle.sim_plans.proofs.FactLists.{Setup, Some, State, subst, sym, target_of, Template, true, unwrap_or, Watch, watchers, with_kept, with_row, without, ℕ}
use Rattle.sim_plans.{proofs.FactLists.{ℤ, ⊎_elim, [], ◌&&◌, ◌++◌, ◌<◌, ◌==◌, ◌∙◌, ◌∷◌, ◌≡◌, ◌≤◌}, specs.FactLaws.{ChangeIsNoted, NotesOfAChangeFit}}
use Rattle.{sim_plans.specs.{FactLaws.StateIsInRange, Releases.{AreWatching, IsBelowAll}, RowChanges.most_of}, sim_system.specs.Notes.Agrees}
use Rattle.{sim_system.specs.Notes.{IsRectAt, NoteFits, posts, posts_born, posts_on}, std.proofs.lemmas.{Bool.cond-false, List.{Elements.All-map, length-map}}}
use Rattle.std.{proofs.lemmas.List.Sums.fold-append, specs.{List.Sorted.IsStrictlyIncreasing, Prelude.{IfSome, IsTrue, pos, slice_get, ◌≢◌, ◌≤ℤ◌}}}

-- The facts of a changed state, and that the notes of a change fit.

-- a note fits the facts of a state, and leaves the facts of another
pub record IsTold (kind : Kind) (setup : Setup) (state after : State) (note : Note) : Type 0 where
  pub fits : NoteFits kind setup.land (facts_of kind setup state) note
  pub gives : facts_of kind setup after ≡ noted kind (facts_of kind setup state) note

-- there are at most 4096 facts
few_facts : (kind : Kind) (setup : Setup) (state : State) → IsLooselyValid setup state → length (facts_of kind setup state) ≤ 4096
few_facts kind setup state valid = omega (arith, facts-length kind setup state.rows, valid.few)

pub told_by : (kind : Kind) (setup : Setup) (state after : State) (note : Note) → IsLooselyValid setup after
    → Agrees kind setup.land (facts_of kind setup state) note →
    facts_of kind setup after ≡ noted kind (facts_of kind setup state) note → IsTold kind setup state after note
told_by kind setup state after note valid agrees gives =
    record { fits = record { agrees = agrees; few = subst (λ (fs : List Fact). length fs ≤ 4096) gives (few_facts kind setup after valid) }; gives = gives }

-- ---- what is told of a row is in range

pub row_in_range : (setup : Setup) (rows : List Row) (row : Row) → IsSetup setup → IsKnownRow 0 setup rows row → IsInRange setup.land (fact_of setup row)
row_in_range setup rows row limits known =
    let (t, e, v) = known_row 0 setup rows row known in
    let is_template = known_template setup row.template t limits e in
    record {
      at = v.at;
      owner = omega (arith, v.owner, limits.players);
      vision = subst (λ (o : Option Template). IfSome (option_map (λ (arms : Arms). arms.vision) (option_and_then (λ (u : Template). u.arms) o))
          (IsRawFrom 0 16777216)) (sym e) (sees t.arms is_template.arms);
      rect = subst (λ (o : Option Template). IfSome (option_map (λ (base : Base). rect_of row.at base.width base.depth)
          (option_and_then (λ (u : Template). u.obstruct) o)) (IsRectAt row.at)) (sym e) (lies t.obstruct is_template.obstruct);
    }
  where
    sees : (a : Option Arms) → IfSome a IsArms → IfSome (option_map (λ (arms : Arms). arms.vision) a) (IsRawFrom 0 16777216)
    sees None h = tt
    sees (Some arms) h = h.vision

    lies : (b : Option Base) → IfSome b (λ (base : Base). IsFrom 1 16 base.width × IsFrom 1 16 base.depth)
        → IfSome (option_map (λ (base : Base). rect_of row.at base.width base.depth) b) (IsRectAt row.at)
    lies None h = tt
    lies (Some base) h = record { width = base.width; depth = base.depth; width_is = h.0; depth_is = h.1; rect = refl }

module _ (setup : Setup) (state : State) (valid : IsLooselyValid setup state) where
  -- what is kept of an id is what is kept of its row
  kept_here : (kind : Kind) (id : ℕ) (row : Row) → row_of state id ≡ Some row → fact_with (facts_of kind setup state) id ≡ part kind setup row
  kept_here kind id row found = fact_with-facts kind setup id state.rows (apart state.rows valid.ascending) ∙ ap (option_and_then (part kind setup)) found

  -- ---- an aim

  -- the parts of a row that is changed as to its target, and so far as any kind keeps of it in nothing else
  pub record IsAim (changed : Row → Row) (id to : ℕ) : Type 0 where
    pub on_ground : (row : Row) → part Ground setup (changed row) ≡ part Ground setup row
    pub in_range : (row : Row) → part Range setup (changed row) ≡ part Range setup row
    pub in_census : (row : Row) → part Census setup (changed row) ≡ part Census setup row
    pub id_same : (row : Row) → (changed row).id ≡ row.id
    pub target_is : (row : Row) → target_of (changed row) ≡ to

  pub aimed_gives : (kind : Kind) (changed : Row → Row) (id from to : ℕ) (row : Row) → row_of state id ≡ Some row → IsAim changed id to →
      facts_of kind setup (with_row id changed state) ≡ noted kind (facts_of kind setup state) (Aimed id from to)
  aimed_gives Ground changed id from to row found aim = facts-unchanged Ground setup id changed state.rows (λ r h e. aim.on_ground r)
  aimed_gives Range changed id from to row found aim = facts-unchanged Range setup id changed state.rows (λ r h e. aim.in_range r)
  aimed_gives Census changed id from to row found aim = facts-unchanged Census setup id changed state.rows (λ r h e. aim.in_census r)
  aimed_gives Watch changed id from to row found aim =
      let (h, same) = found_row state id row found in
      subst (λ (n : ℕ). facts_of Watch setup (with_row n changed state) ≡ with_kept (kept Watch (aim_of n to)) (without n (facts_of Watch setup state))) same (
      facts-replaced Watch setup changed row state.rows (apart state.rows valid.ascending) h (aim.id_same row)
      ∙ ap (λ (o : Option Fact). with_kept o (without row.id (facts_of Watch setup state))) (part-aimed_watch setup row.id to (changed row) (aim.id_same row)
      (aim.target_is row))
      )

  aim_agrees : (kind : Kind) (id to : ℕ) (row : Row) → row_of state id ≡ Some row → Agrees kind setup.land (facts_of kind setup state)
      (Aimed id (target_of row) to)
  aim_agrees Ground id to row found = tt
  aim_agrees Range id to row found = tt
  aim_agrees Census id to row found = tt
  aim_agrees Watch id to row found = ap (λ (o : Option Fact). unwrap_or (option_map (λ (f : Fact). f.target) o) 0) (kept_here Watch id row found) ∙
      by (target_of row == 0) refl
    where
      by : (b : Bool) → (target_of row == 0) ≡ b
          → unwrap_or (option_map (λ (f : Fact). f.target) (cond (not b) (Some (part_for Watch (fact_of setup row))) None)) 0 ≡ target_of row
      by true e = sym (eqb-true (target_of row) 0 e)
      by false e = refl

  pub aim_told : (kind : Kind) (changed : Row → Row) (id to : ℕ) (row : Row) → row_of state id ≡ Some row → IsAim changed id to
      → IsLooselyValid setup (with_row id changed state) →
      IsTold kind setup state (with_row id changed state) (Aimed id (target_of row) to)
  aim_told kind changed id to row found aim after =
      told_by kind setup state (with_row id changed state) (Aimed id (target_of row) to) after (aim_agrees kind id to row found)
      (aimed_gives kind changed id (target_of row) to row found aim)

  pub attack_is_aim : (id : ℕ) (aim : Aim) → IsAim (λ (row : Row). record row { attack = Some aim }) id aim.target
  attack_is_aim id aim = record { on_ground = λ row. refl; in_range = λ row. refl; in_census = λ row. refl; id_same = λ row. refl; target_is = λ row. refl }

  pub release_is_aim : (id : ℕ) → IsAim released id 0
  release_is_aim id = record {
    on_ground = λ row. refl;
    in_range = λ row. refl;
    in_census = λ row. refl;
    id_same = λ row. refl;
    target_is = target_of-released;
  }

  -- ---- a change of owner

  abbrev owned : ℕ → Row → Row
  owned owner row = record row { owner = owner }

  owned_gives : (kind : Kind) (id from to : ℕ) → facts_of kind setup (with_row id (owned to) state) ≡ noted kind (facts_of kind setup state) (Owned id from to)
  owned_gives Ground id from to = facts-unchanged Ground setup id (owned to) state.rows (λ r h e. refl)
  owned_gives Range id from to = facts-changed Range setup id (owned to) (λ (f : Fact). record f { owner = to }) state.rows (part-owned_range setup to)
  owned_gives Watch id from to = facts-unchanged Watch setup id (owned to) state.rows (λ r h e. refl)
  owned_gives Census id from to = facts-changed Census setup id (owned to) (λ (f : Fact). record f { owner = to }) state.rows (λ r. refl)

  owner_kept : (row : Row) → IfSome (part Range setup row) (λ (f : Fact). f.owner ≡ row.owner)
  owner_kept row = elim (keeps Range (fact_of setup row)) as (λ b. IfSome (cond b (Some (part_for Range (fact_of setup row))) None)
      (λ (f : Fact). f.owner ≡ row.owner)) [ true ↦ refl | false ↦ tt ]

  owner_agrees : (kind : Kind) (id to : ℕ) (row : Row) → row_of state id ≡ Some row → to < length setup.land.masks
      → Agrees kind setup.land (facts_of kind setup state) (Owned id row.owner to)
  owner_agrees Ground id to row found known = tt
  owner_agrees Range id to row found known =
      (subst (λ (o : Option Fact). IfSome o (λ (f : Fact). f.owner ≡ row.owner)) (sym (kept_here Range id row found)) (owner_kept row), known)
  owner_agrees Watch id to row found known = tt
  owner_agrees Census id to row found known =
      (subst (λ (o : Option Fact). IfSome o (λ (f : Fact). f.owner ≡ row.owner)) (sym (kept_here Census id row found)) refl, known)

  pub owner_told : (kind : Kind) (id to : ℕ) (row : Row) → row_of state id ≡ Some row → to < length setup.land.masks
      → IsLooselyValid setup (with_row id (owned to) state) →
      IsTold kind setup state (with_row id (owned to) state) (Owned id row.owner to)
  owner_told kind id to row found known after = told_by kind setup state (with_row id (owned to) state) (Owned id row.owner to) after
      (owner_agrees kind id to row found known) (owned_gives kind id row.owner to)

  -- ---- a move

  abbrev at : Point → Row → Row
  at p row = record row { at = p }

  moved_gives : (kind : Kind) (id : ℕ) (from p : Point) → IsSetup setup → OfRow state id (λ (row : Row). IsSome row.motion × IsInside setup p)
      → facts_of kind setup (with_row id (at p) state) ≡ noted kind (facts_of kind setup state) (Moved id from p)
  moved_gives Ground id from p limits fit =
      facts-unchanged Ground setup id (at p) state.rows (λ r h e.
      part-moved_ground setup p r
      (no_obstruction setup state r limits valid h
      ((of_each_named setup state id (λ (row : Row). IsSome row.motion × IsInside setup p) valid fit r h e).0)))
  moved_gives Range id from p limits fit = facts-changed Range setup id (at p) (λ (f : Fact). record f { at = p }) state.rows (part-moved_range setup p)
  moved_gives Watch id from p limits fit = facts-unchanged Watch setup id (at p) state.rows (λ r h e. refl)
  moved_gives Census id from p limits fit = facts-unchanged Census setup id (at p) state.rows (λ r h e. refl)

  place_kept : (row : Row) → IfSome (part Range setup row) (λ (f : Fact). f.at ≡ row.at)
  place_kept row = elim (keeps Range (fact_of setup row)) as (λ b. IfSome (cond b (Some (part_for Range (fact_of setup row))) None)
      (λ (f : Fact). f.at ≡ row.at)) [ true ↦ refl | false ↦ tt ]

  move_agrees : (kind : Kind) (id : ℕ) (p : Point) (row : Row) → row_of state id ≡ Some row → IsInside setup p
      → Agrees kind setup.land (facts_of kind setup state) (Moved id row.at p)
  move_agrees Ground id p row found inside = tt
  move_agrees Range id p row found inside =
      (subst (λ (o : Option Fact). IfSome o (λ (f : Fact). f.at ≡ row.at)) (sym (kept_here Range id row found)) (place_kept row), inside)
  move_agrees Watch id p row found inside = tt
  move_agrees Census id p row found inside = tt

  pub move_told : (kind : Kind) (id : ℕ) (p : Point) (row : Row) → IsSetup setup → row_of state id ≡ Some row → Fits setup state (change.Move id p)
      → IsLooselyValid setup (with_row id (at p) state) →
      IsTold kind setup state (with_row id (at p) state) (Moved id row.at p)
  move_told kind id p row limits found fit after =
      let (r, e, h) = named_row state id (λ (row : Row). IsSome row.motion × IsInside setup p) fit in
      told_by kind setup state (with_row id (at p) state) (Moved id row.at p) after (move_agrees kind id p row found h.1)
      (moved_gives kind id row.at p limits fit)

  -- ---- what no kind keeps

  pub motion_untold : (kind : Kind) (id : ℕ) (motion : Motion) → facts_of kind setup (with_row id (λ (row : Row). record row { motion = Some motion }) state) ≡
      facts_of kind setup state
  motion_untold Ground id motion = facts-unchanged Ground setup id (λ (row : Row). record row { motion = Some motion }) state.rows (λ r h e. refl)
  motion_untold Range id motion = facts-unchanged Range setup id (λ (row : Row). record row { motion = Some motion }) state.rows (λ r h e. refl)
  motion_untold Watch id motion = facts-unchanged Watch setup id (λ (row : Row). record row { motion = Some motion }) state.rows (λ r h e. refl)
  motion_untold Census id motion = facts-unchanged Census setup id (λ (row : Row). record row { motion = Some motion }) state.rows (λ r h e. refl)

  pub health_untold : (kind : Kind) (id : ℕ) (health : ℤ) → Fits setup state (change.Health id health)
      → facts_of kind setup (with_row id (λ (row : Row). record row { health = Some health }) state) ≡ facts_of kind setup state
  health_untold Ground id health fit = facts-unchanged Ground setup id (λ (row : Row). record row { health = Some health }) state.rows (λ r h e. refl)
  health_untold Range id health fit =
      facts-unchanged Range setup id (λ (row : Row). record row { health = Some health }) state.rows (λ r h e.
      part-hurt_range setup health r
      ((of_each_named setup state id (λ (row : Row). IsSome row.health × MatchOption (most_of setup row) ⊥ (λ most. (pos 0 ≤ℤ health) × (health ≤ℤ most)))
      valid fit r h e).0))
  health_untold Watch id health fit = facts-unchanged Watch setup id (λ (row : Row). record row { health = Some health }) state.rows (λ r h e. refl)
  health_untold Census id health fit = facts-unchanged Census setup id (λ (row : Row). record row { health = Some health }) state.rows (λ r h e. refl)

  -- ---- a birth

  pub birth_told : (kind : Kind) (new : Row) → IsSetup setup → new.id ≡ state.next → (after : State) → after.rows ≡ state.rows ++ new ∷ []
      → IsLooselyValid setup after → IsTold kind setup state after (Born (fact_of setup new))
  birth_told kind new limits id_is after rows_are valid_after =
      told_by kind setup state after (Born (fact_of setup new)) valid_after (
        row_in_range setup after.rows new limits (all_at (IsKnownRow 0 setup after.rows) after.rows new valid_after.rows
            (subst (λ (rows : List Row). Has rows new) (sym rows_are) (Has-append_right state.rows (new ∷ []) new (inl refl)))),
        fact_with-none kind setup new.id (facts_of kind setup state) (λ f h s. let (row, m, k) = row_behind kind setup state.rows f h in
            omega (arith, (all_at (λ (r : Row). (2 ≤ r.id) × (r.id < state.next)) state.rows row valid.ids m).1, part-id kind setup row f k, s, id_is)),
      ) (ap (λ (rows : List Row). facts_of kind setup (record state { rows = rows })) rows_are ∙ facts-appended kind setup new state.rows
      (λ row h. omega (arith, (all_at (λ (r : Row). (2 ≤ r.id) × (r.id < state.next)) state.rows row valid.ids h).1, id_is)))

  -- ---- a leaving

  pub leaving_told : (kind : Kind) (id : ℕ) (row : Row) → row_of state id ≡ Some row
      → IsLooselyValid setup (record state { rows = filter (λ (r : Row). not (r.id == id)) state.rows }) →
      facts_of kind setup (record state { rows = filter (λ (r : Row). not (r.id == id)) state.rows }) ≡ without id (facts_of kind setup state) →
      IsTold kind setup state (record state { rows = filter (λ (r : Row). not (r.id == id)) state.rows }) (Gone (fact_of setup row))
  leaving_told kind id row found after gives =
      let (h, same) = found_row state id row found in
      told_by kind setup state (record state { rows = filter (λ (r : Row). not (r.id == id)) state.rows }) (Gone (fact_of setup row)) after
      (ap (fact_with (facts_of kind setup state)) same ∙ kept_here kind id row found) (gives ∙ ap (λ (n : ℕ). without n (facts_of kind setup state)) (sym same))

-- What systems are told of a state is in range.

pub state_in_range : StateIsInRange
state_in_range setup state limits valid =
    record {
      few = omega (arith, length-map state.rows (fact_of setup), valid.few);
      ascending = subst IsStrictlyIncreasing (sym (map-map (fact_of setup) id_of_fact state.rows)) valid.ascending;
      each = All-map (IsInRange setup.land) (fact_of setup) state.rows (all_from (λ (row : Row). IsInRange setup.land (fact_of setup row)) state.rows (λ row h.
          row_in_range setup state.rows row limits (all_at (IsKnownRow 0 setup state.rows) state.rows row valid.rows h)));
    }

-- ---- rows that aim at one

-- another row is found as before
find-other : (w v : ℕ) (rows : List Row) → (w ≡ v → ⊥) → find (λ (row : Row). row.id == v) (map (λ (row : Row). cond (row.id == w) (released row) row) rows) ≡
    find (λ (row : Row). row.id == v) rows
find-other w v [] other = refl
find-other w v (row ∷ rows) other = by (row.id == w) refl (find-other w v rows other)
  where
    rest : Option Row
    rest = find (λ (row : Row). row.id == v) (map (λ (row : Row). cond (row.id == w) (released row) row) rows)

    by : (b : Bool) → (row.id == w) ≡ b → find (λ (row : Row). row.id == v) (map (λ (row : Row). cond (row.id == w) (released row) row) rows) ≡ find
        (λ (row : Row). row.id == v) rows →
        find (λ (row : Row). row.id == v) (cond (row.id == w) (released row) row ∷ map (λ (row : Row). cond (row.id == w) (released row) row) rows) ≡ find
        (λ (row : Row). row.id == v) (row ∷ rows)
    by true e more =
        let differs : (row.id == v) ≡ false = ne_eqb row.id v (λ s. other (sym (eqb-true row.id w e) ∙ s)) in
        rw (e, differs) more
    by false e more = rw e (ap (λ (o : Option Row). cond (row.id == v) (Some row) o) more)

-- those who watch still do when another was let go
watching-after : (state : State) (id w : ℕ) (ids : List ℕ) → IsBelowAll w ids → AreWatching state id ids → AreWatching (with_row w released state) id ids
watching-after state id w [] below h = tt
watching-after state id w (v ∷ ids) below h =
    let (row, found, at) = h.0 in
    ((row, find-other w v state.rows (λ s. omega (arith, below.0, s)) ∙ found, at), h.1, watching-after state id w ids below.1 h.2)

-- those whose target it is do watch
watching-from : (state : State) (id : ℕ) (rows : List Row) → Apart rows → ((row : Row) → Has rows row → row_of state row.id ≡ Some row)
    → AreWatching state id (map id_of (filter (λ (row : Row). target_of row == id) rows))
watching-from state id [] apart each = tt
watching-from state id (row ∷ rows) apart each = by (target_of row == id) refl (watching-from state id rows apart.1 (λ r h. each r (inr h)))
  where
    above : (rs : List Row) → ((r : Row) → Has rs r → row.id < r.id) → IsBelowAll row.id (map id_of (filter (λ (r : Row). target_of r == id) rs))
    above [] low = tt
    above (r ∷ rs) low = pick (target_of r == id) (above rs (λ q m. low q (inr m)))
      where
        pick : (b : Bool) → IsBelowAll row.id (map id_of (filter (λ (r : Row). target_of r == id) rs))
            → IsBelowAll row.id (map id_of (cond b (r ∷ filter (λ (r : Row). target_of r == id) rs) (filter (λ (r : Row). target_of r == id) rs)))
        pick true rest = (low r (inl refl), rest)
        pick false rest = rest

    by : (b : Bool) → (target_of row == id) ≡ b → AreWatching state id (map id_of (filter (λ (r : Row). target_of r == id) rows))
        → AreWatching state id (map id_of (cond b (row ∷ filter (λ (r : Row). target_of r == id) rows) (filter (λ (r : Row). target_of r == id) rows)))
    by true e rest = ((row, each row (inl refl), eqb-true (target_of row) id e), above rows apart.0, rest)
    by false e rest = rest

pub watchers_are_watching : (setup : Setup) (state : State) (id : ℕ) → (id ≡ 0 → ⊥) → IsLooselyValid setup state → AreWatching state id (watchers state id)
watchers_are_watching setup state id some valid =
    let all_apart = apart state.rows valid.ascending in
    subst (λ (b : Bool). AreWatching state id (map id_of (filter (λ (row : Row). not b && target_of row == id) state.rows))) (sym (ne_eqb id 0 some))
    (watching-from state id state.rows all_apart (λ row h. row_found state row all_apart h))

-- ---- one is let go

pub released_is_state : (setup : Setup) (state : State) (w : ℕ) → IsLooselyValid setup state → IsLooselyValid setup (with_row w released state)
released_is_state setup state w valid =
    mapped_is_state 0 0 setup state (λ (row : Row). cond (row.id == w) (released row) row) valid
    (λ row t h known v. cond_both (row.id == w) (released row) row (λ (new : Row). Stays 0 setup state.rows row new t)
    (λ holds. released_stays 0 setup state.rows row t v) (λ fails. same_stays 0 setup state.rows row t v))

-- the first of those who watch
pub first_told : (kind : Kind) (setup : Setup) (state : State) (id w : ℕ) (ids : List ℕ) → IsLooselyValid setup state → AreWatching state id (w ∷ ids)
    → IsTold kind setup state (with_row w released state) (Aimed w id 0)
first_told kind setup state id w ids valid h =
    let (row, found, at) = h.0 in
    subst (λ (from : ℕ). IsTold kind setup state (with_row w released state) (Aimed w from 0)) at
    (aim_told setup state valid kind released w 0 row found (release_is_aim setup state valid w) (released_is_state setup state w valid))

-- and the others then
pub then_watching : (state : State) (id w : ℕ) (ids : List ℕ) → AreWatching state id (w ∷ ids) → AreWatching (with_row w released state) id ids
then_watching state id w ids h = watching-after state id w ids h.1 h.2

-- ---- all are let go

abbrev pub releases : ℕ → List ℕ → List Note
releases id ids = map (λ (w : ℕ). Aimed w id 0) ids

pub all_released_is_state : (setup : Setup) (state : State) (ids : List ℕ) → IsLooselyValid setup state → IsLooselyValid setup (release_all ids state)
all_released_is_state setup state [] valid = valid
all_released_is_state setup state (w ∷ ids) valid = all_released_is_state setup (with_row w released state) ids (released_is_state setup state w valid)

pub releases_give : (kind : Kind) (setup : Setup) (state : State) (id : ℕ) (ids : List ℕ) → IsLooselyValid setup state → AreWatching state id ids →
    facts_of kind setup (release_all ids state) ≡ fold (noted kind) (facts_of kind setup state) (releases id ids)
releases_give kind setup state id [] valid h = refl
releases_give kind setup state id (w ∷ ids) valid h =
    releases_give kind setup (with_row w released state) id ids (released_is_state setup state w valid) (then_watching state id w ids h)
    ∙ ap (λ (fs : List Fact). fold (noted kind) fs (releases id ids)) (first_told kind setup state id w ids valid h).gives

pub releases_fit : (kind : Kind) (setup : Setup) (state : State) (id : ℕ) (ids : List ℕ) (more : List Note) → IsLooselyValid setup state
    → AreWatching state id ids →
    AllNotesFit kind setup.land (facts_of kind setup (release_all ids state)) more → AllNotesFit kind setup.land (facts_of kind setup state)
    (releases id ids ++ more)
releases_fit kind setup state id [] more valid h rest = rest
releases_fit kind setup state id (w ∷ ids) more valid h rest =
    let told = first_told kind setup state id w ids valid h in (
      told.fits,
      subst (λ (fs : List Fact). AllNotesFit kind setup.land fs (releases id ids ++ more)) told.gives
          (releases_fit kind setup (with_row w released state) id ids more (released_is_state setup state w valid) (then_watching state id w ids h) rest),
    )

-- ---- the row leaves

-- a row does not aim at itself
not_itself : (setup : Setup) (state : State) (row : Row) → IsLooselyValid setup state → Has state.rows row → target_of row ≡ row.id → ⊥
not_itself setup state row valid h same =
    let (t, e, v) = known_row 0 setup state.rows row (all_at (IsKnownRow 0 setup state.rows) state.rows row valid.rows h) in
    let low : 2 ≤ row.id = (all_at (λ (r : Row). (2 ≤ r.id) × (r.id < state.next)) state.rows row valid.ids h).0 in
    by row.attack t.arms v.attack same low
  where
    by : (a : Option Aim) (b : Option Arms) → Both a b (IsValidAim state.rows row.id) → unwrap_or (option_map (λ (aim : Aim). aim.target) a) 0 ≡ row.id
        → 2 ≤ row.id → ⊥
    by None b v s low = absurd (omega (arith, s, low))
    by (Some aim) None v s low = absurd v
    by (Some aim) (Some arms) v s low = ⊎_elim (λ (none : aim.target ≡ 0). absurd (omega (arith, none, s, low)))
        (λ (other : (aim.target ≢ row.id) × IsTrue (has_health state.rows aim.target)). other.0 s) v.target

module _ (setup : Setup) (state : State) (id : ℕ) (row : Row) (valid : IsLooselyValid setup state) (found : row_of state id ≡ Some row) where
  pub id_is_some : id ≡ 0 → ⊥
  id_is_some none =
      let (h, same) = found_row state id row found in
      absurd (omega (arith, (all_at (λ (r : Row). (2 ≤ r.id) × (r.id < state.next)) state.rows row valid.ids h).0, same, none))

  abbrev pub let_go_state : State
  let_go_state = release_all (watchers state id) state

  pub let_go_is_state : IsLooselyValid setup let_go_state
  let_go_is_state = all_released_is_state setup state (watchers state id) valid

  -- the row itself is as it was
  pub still_found : row_of let_go_state id ≡ Some row
  still_found =
      let (h, same) = found_row state id row found in
      let stays : let_go id row ≡ row = cond-false (target_of row == id) (released row) row
      (ne_eqb (target_of row) id (λ s. not_itself setup state row valid h (s ∙ sym same))) in
      let rows_are : let_go_state.rows ≡ map (let_go id) state.rows =
      ap (λ (s : State). s.rows) (let_go_all setup state id id_is_some (apart state.rows valid.ascending)) in
      let here : Has let_go_state.rows row = subst (λ (rows : List Row). Has rows row) (sym rows_are)
      (subst (Has (map (let_go id) state.rows)) stays (Has-map (let_go id) state.rows row h)) in
      subst (λ (n : ℕ). row_of let_go_state n ≡ Some row) same (row_found let_go_state row (apart let_go_state.rows let_go_is_state.ascending) here)

  pub removed_is_left : removed id state ≡ record let_go_state { rows = filter (λ (r : Row). not (r.id == id)) let_go_state.rows }
  removed_is_left = removed_is setup state id id_is_some (apart state.rows valid.ascending)

  pub left_told : (kind : Kind) → IsTold kind setup let_go_state (record let_go_state { rows = filter (λ (r : Row). not (r.id == id)) let_go_state.rows })
      (Gone (fact_of setup row))
  left_told kind =
      leaving_told setup let_go_state let_go_is_state kind id row still_found
      (subst (IsLooselyValid setup) removed_is_left (removed_is_state 0 setup state id valid)) (facts-without kind setup id let_go_state.rows)

-- The notes of a change, told in order, give the facts of the changed state, and each fits.

-- the notes fit in order, and give the facts of the state after
pub record AreTold (kind : Kind) (setup : Setup) (state after : State) (notes : List Note) : Type 0 where
  pub gives : facts_of kind setup after ≡ fold (noted kind) (facts_of kind setup state) notes
  pub fit : AllNotesFit kind setup.land (facts_of kind setup state) notes

one_told : (kind : Kind) (setup : Setup) (state after : State) (note : Note) → IsTold kind setup state after note → AreTold kind setup state after (note ∷ [])
one_told kind setup state after note told = record { gives = told.gives; fit = (told.fits, tt) }

none_told : (kind : Kind) (setup : Setup) (state after : State) → facts_of kind setup after ≡ facts_of kind setup state → AreTold kind setup state after []
none_told kind setup state after same = record { gives = same; fit = tt }

module _ (setup : Setup) (state : State) (kind : Kind) (limits : IsSetup setup) (valid : IsLooselyValid setup state) where
  -- the note on a row that is named
  told_on : (id : ℕ) (row : Row) (after : State) (notes : Row → List Note) → row_of state id ≡ Some row → AreTold kind setup state after (notes row)
      → AreTold kind setup state after (posts_on (row_of state id) notes)
  told_on id row after notes found told = subst (λ (o : Option Row). AreTold kind setup state after (posts_on o notes)) (sym found) told

  removal_told : (id : ℕ) → Fits setup state (change.Remove id) → AreTold kind setup state (removed id state) (posts setup state (change.Remove id))
  removal_told id fit = by (row_of state id) refl fit
    where
      by : (o : Option Row) → row_of state id ≡ o → IsSome o → AreTold kind setup state (removed id state)
          (releases id (watchers state id) ++ posts_on (row_of state id) (λ (row : Row). Gone (fact_of setup row) ∷ []))
      by None e h = absurd (cc)
      by (Some row) e h =
          let told = left_told setup state id row valid e kind in
          let watching = watchers_are_watching setup state id (id_is_some setup state id row valid e) valid in
          let left = removed_is_left setup state id row valid e in
          subst (λ (o : Option Row). AreTold kind setup state (removed id state)
          (releases id (watchers state id) ++ posts_on o (λ (row : Row). Gone (fact_of setup row) ∷ []))) (sym e) (record {
            gives = ap (facts_of kind setup) left ∙ told.gives
                ∙ ap (λ (fs : List Fact). noted kind fs (Gone (fact_of setup row))) (releases_give kind setup state id (watchers state id) valid watching)
                ∙ sym (fold-append (noted kind) (facts_of kind setup state) (releases id (watchers state id)) (Gone (fact_of setup row) ∷ []));
            fit = releases_fit kind setup state id (watchers state id) (Gone (fact_of setup row) ∷ []) valid watching (told.fits, tt);
          })

  creation_told : (number : ℕ) (p : Point) (owner : ℕ) → Fits setup state (change.Create number p owner)
      → AreTold kind setup state (applied setup state (change.Create number p owner)) (posts setup state (change.Create number p owner))
  creation_told number p owner fit = by (slice_get setup.templates number) (fitting_keeps setup state valid limits (change.Create number p owner) fit)
    where
      by : (o : Option Template) → IsLooselyValid setup (with_new number p owner o state) → AreTold kind setup state (with_new number p owner o state)
          (posts_born setup (option_map (λ (t : Template). new_row state.next number p owner t) o))
      by None after = none_told kind setup state state refl
      by (Some t) after = one_told kind setup state _ _ (birth_told setup state valid kind (new_row state.next number p owner t) limits refl
          (with_new number p owner (Some t) state) refl after)

  pub change_told : (c : Change) → Fits setup state c → AreTold kind setup state (applied setup state c) (posts setup state c)
  change_told (change.Move id p) fit =
      let (row, found, h) = named_row state id (λ (row : Row). IsSome row.motion × IsInside setup p) fit in
      told_on id row _ (λ (row : Row). Moved id row.at p ∷ []) found
      (one_told kind setup state _ _
      (move_told setup state valid kind id p row limits found fit (fitting_keeps setup state valid limits (change.Move id p) fit)))
  change_told (change.Motion id motion) fit = none_told kind setup state _ (motion_untold setup state valid kind id motion)
  change_told (change.Attack id aim) fit =
      let (row, found, h) = named_row state id (λ (row : Row). IsSome row.attack × MatchOption (arms_of setup row) ⊥ (IsValidAim state.rows id aim)) fit in
      told_on id row _ (λ (row : Row). Aimed id (target_of row) aim.target ∷ []) found
      (one_told kind setup state _ _ (aim_told setup state valid kind (λ (row : Row). record row { attack = Some aim }) id aim.target row found
      (attack_is_aim setup state valid id aim) (fitting_keeps setup state valid limits (change.Attack id aim) fit)))
  change_told (change.Health id health) fit = none_told kind setup state _ (health_untold setup state valid kind id health fit)
  change_told (change.Owner id owner) fit =
      let (row, found, h) = named_row state id (λ (row : Row). owner ≤ setup.players) fit in
      told_on id row _ (λ (row : Row). Owned id row.owner owner ∷ []) found
      (one_told kind setup state _ _ (owner_told setup state valid kind id owner row found (omega (arith, h, limits.players))
      (fitting_keeps setup state valid limits (change.Owner id owner) fit)))
  change_told (change.Remove id) fit = removal_told id fit
  change_told (change.Create number p owner) fit = creation_told number p owner fit
  change_told (change.Word word) fit = none_told kind setup state _ refl
  change_told change.Tick fit = none_told kind setup state _ refl

pub change_is_noted : ChangeIsNoted
change_is_noted setup state c kind limits valid fit = (change_told setup state kind limits valid c fit).gives

pub notes_fit : NotesOfAChangeFit
notes_fit setup state c kind limits valid fit = (change_told setup state kind limits valid c fit).fit
