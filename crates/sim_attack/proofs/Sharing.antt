-- Rows of one owner that stand at one point and see equally far have the same nearest enemy.
use Rattle.sim_attack.specs.{declared.finds.Find.Find, Finds.{AreFound, filled, find_places, is_shared, nearest_from, nearest_of, place_for, shared}}
use Rattle.sim_base.specs.{Commands.{is_near, seen, within}, declared.{place.Point.Point, setup.Setup.Setup, state.{Row.Row, State.State}, template.Arms.Arms}}
use Rattle.sim_base.specs.{Limits.{IsKnownRow, IsLooselyValid, IsSetup}, Places.square, Rows.{enemies_of, id_of, in_mask, is_holding, row_of}, Turn.may_take}
use Rattle.{sim_base.specs.{Turn.{same_point, square_to, target_for}, Ways.least_of}, sim_laws.proofs.{Keys.first_of_not_before, Neighbours.{Has, Has-of_map}}}
use Rattle.sim_laws.proofs.{Removing.{IsDownward, least_of-filter}, Validity.{apart, found_row, Has-of_filter, known_row, same_row}}
use Rattle.{sim_plans.proofs.Suiting.same_point-true, std.proofs.Common.{ap, arith, Bool, cond, false, filter, get_or, inl, inr, int_eq, List, nat_lt, None}}
use Rattle.std.proofs.{Common.{not, Option, refl, Some, subst, sym, true, ℕ, ℤ, [], ◌*◌, ◌<◌, ◌∙◌, ◌∷◌, ◌≡◌, ◌≤◌}, lemmas.Bool.{and_parts, eqb-true, ne_eqb}}
use Rattle.std.proofs.{lemmas.{List.Elements.{All-get_or, All-replicate}, Map.Entries.option_filter}, Math.ListN.get_or-eq_default}
use Rattle.std.specs.Prelude.{IfSome, is_some, length, nat_le, option_map, replicate, unsigned_abs, unwrap_or, ◌&&◌, ◌==◌, ◌||◌}

-- a filter that each member passes
filter_all : {X : Type 0} (p : X → Bool) (xs : List X) → ((x : X) → Has xs x → p x ≡ true) → filter p xs ≡ xs
filter_all p [] each = refl
filter_all p (x ∷ xs) each =
    let first : p x ≡ true = each x (inl refl) in
    rw first (ap (λ ys. x ∷ ys) (filter_all p xs (λ y h. each y (inr h))))

module _ (setup : Setup) (state : State) (row : Row) (limits : IsSetup setup) (valid : IsLooselyValid setup state) (known : IsKnownRow 0 setup state.rows row)
    (found : row_of state row.id ≡ Some row) where
  -- the row is none of its own enemies
  not_itself : in_mask (enemies_of setup row.owner) row.owner ≡ false
  not_itself =
      let (t, e, v) = known_row 0 setup state.rows row known in
      (limits.land.masks row.owner (omega (arith, v.owner, limits.players))).not_itself

  other_ids : (vision : ℤ) (id : ℕ) → Has (within state row.at vision (enemies_of setup row.owner)) id → not (id == row.id) ≡ true
  other_ids vision id h =
      let test : Row → Bool = λ (q : Row). is_some q.health && in_mask (enemies_of setup row.owner) q.owner && is_near q.at row.at vision in
      let (q, m, e) = Has-of_map id_of (filter test state.rows) id h in
      let (k, passes) = Has-of_filter test state.rows q m in
      let (first, near) = and_parts (is_some q.health && in_mask (enemies_of setup row.owner) q.owner) (is_near q.at row.at vision) passes in
      let (some, enemy) = and_parts (is_some q.health) (in_mask (enemies_of setup row.owner) q.owner) first in
      let differ : id ≡ row.id → ⊥ = λ same.
      let is : q ≡ row = same_row state.rows q row (apart state.rows valid.ascending) k ((found_row state row.id row found).0) (e ∙ same) in
      let itself : in_mask (enemies_of setup row.owner) row.owner ≡ true = ap (λ (r : Row). in_mask (enemies_of setup row.owner) r.owner) (sym is) ∙ enemy in
      let none = not_itself in cc in
      ap not (ne_eqb id row.id differ)

  -- the nearest of those that a row sees is what its owner finds from there
  pub seen_is_nearest : (arms : Arms) → nearest_of state row (seen setup state row arms) ≡ nearest_from setup state row.owner row.at arms.vision
  seen_is_nearest arms =
      let ids = within state row.at arms.vision (enemies_of setup row.owner) in
      ap (λ (found : List ℕ). unwrap_or (least_of (λ id. unwrap_or (option_map (λ (other : Row). square other.at row.at) (row_of state id)) 0 ∷ id ∷ []) found)
      0)
      (filter_all (λ id. not (id == row.id)) ids (other_ids arms.vision))

-- what is taken from a find is what the row's owner finds from there
pub shared_is_nearest : (setup : Setup) (state : State) (row : Row) (vision : ℤ) (o : Option Find) (target : ℕ)
    → IfSome o (λ (find : Find). find.target ≡ nearest_from setup state find.owner find.at find.vision) →
    shared row vision o ≡ Some target → target ≡ nearest_from setup state row.owner row.at vision
shared_is_nearest setup state row vision None target h e = absurd (cc)
shared_is_nearest setup state row vision (Some find) target h e = by (is_shared row vision find) refl e
  where
    by : (b : Bool) → is_shared row vision find ≡ b → cond b (Some find.target) None ≡ Some target → target ≡ nearest_from setup state row.owner row.at vision
    by false s f = absurd (cc)
    by true s f =
        let (first, far) = and_parts (find.owner == row.owner && same_point find.at row.at) (int_eq find.vision vision) s in
        let (owner, place) = and_parts (find.owner == row.owner) (same_point find.at row.at) first in
        let same_owner : find.owner ≡ row.owner = eqb-true find.owner row.owner owner in
        let same_at : find.at ≡ row.at = same_point-true find.at row.at place in
        let same_far : find.vision ≡ vision = grind arith in
        let same : find.target ≡ target = cc in
        sym same ∙ h ∙ ap (λ (n : ℕ). nearest_from setup state n find.at find.vision) same_owner ∙
        ap (λ (p : Point). nearest_from setup state row.owner p find.vision) same_at ∙
        ap (nearest_from setup state row.owner row.at) same_far

-- a find has one of the places
pub place_small : (owner : ℕ) (at : Point) → place_for owner at < find_places
place_small owner at = grind arith

-- before the first find all places are filled with none
pub filled_first : (finds : List (Option Find)) → length finds ≡ 0 → filled finds ≡ replicate find_places None
filled_first [] e = refl
filled_first (first ∷ rest) e = absurd (grind arith)

module _ (setup : Setup) (state : State) where
  abbrev Found : Option Find → Type 0
  Found o = IfSome o (λ (find : Find). find.target ≡ nearest_from setup state find.owner find.at find.vision)

  -- what is kept at a place, if anything is, is found
  pub found_at : (finds : List (Option Find)) (place : ℕ) → AreFound setup state finds → Found (get_or finds place None)
  found_at finds place all = by (nat_lt place (length finds)) refl
    where
      by : (b : Bool) → nat_lt place (length finds) ≡ b → Found (get_or finds place None)
      by true e = All-get_or Found finds place None (grind arith) all
      by false e = subst Found (sym (get_or-eq_default finds None (grind arith))) tt

  -- where places are made, nothing is kept at them
  pub filled_found : (finds : List (Option Find)) → AreFound setup state finds → AreFound setup state (filled finds)
  filled_found [] all = All-replicate Found find_places None tt
  filled_found (first ∷ rest) all = all

-- The target of a row is the nearest enemy that it sees, where it may take that one, and else none: if the nearest is out of the
-- range of a row that holds its place, so are all others.

module _ (setup : Setup) (state : State) (row : Row) (arms : Arms) where
  abbrev key : ℕ → List ℕ
  key id = square_to state row id ∷ id ∷ []

  abbrev reach : ℕ
  reach = unsigned_abs arms.range * unsigned_abs arms.range

  -- a row that may take one may take each that is not farther
  nearer_is_taken : IsDownward key (may_take state row arms)
  nearer_is_taken x y e = by (is_holding row)
    where
      nearer : square_to state row x ≤ square_to state row y
      nearer = first_of_not_before (square_to state row y) (square_to state row x) (y ∷ []) (x ∷ []) e

      by : (b : Bool) → (not b || nat_le (square_to state row y) reach) ≡ true → (not b || nat_le (square_to state row x) reach) ≡ true
      by false h = refl
      by true h = grind (arith, nearer)

  pub target_is : target_for setup state row arms ≡
      cond (may_take state row arms (nearest_of state row (seen setup state row arms))) (nearest_of state row (seen setup state row arms)) 0
  target_is =
      ap (λ (o : Option ℕ). unwrap_or o 0) (least_of-filter key (may_take state row arms) nearer_is_taken (seen setup state row arms)) ∙
      by (least_of key (seen setup state row arms))
    where
      alike : (b : Bool) (n : ℕ) → unwrap_or (cond b (Some n) None) 0 ≡ cond b n 0
      alike true n = refl
      alike false n = refl

      either : (b : Bool) (n : ℕ) → n ≡ cond b n n
      either true n = refl
      either false n = refl

      by : (o : Option ℕ) → unwrap_or (option_filter (may_take state row arms) o) 0 ≡ cond (may_take state row arms (unwrap_or o 0)) (unwrap_or o 0) 0
      by None = either (may_take state row arms 0) 0
      by (Some n) = alike (may_take state row arms n) n

  -- the target, from the nearest that the row sees
  pub target_from : (nearest : ℕ) (takes : Bool) → nearest ≡ nearest_of state row (seen setup state row arms) → may_take state row arms nearest ≡ takes
      → cond takes nearest 0 ≡ target_for setup state row arms
  target_from nearest takes is may =
      ap (λ (b : Bool). cond b nearest 0) (sym may) ∙ ap (λ (n : ℕ). cond (may_take state row arms n) n 0) is ∙ sym target_is
