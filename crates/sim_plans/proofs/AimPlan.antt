-- The plan of the phase in which fighters aim: its changes, all found from the one state before, fit and give the phase.
use Rattle.sim_base.specs.{Commands.{released, seen, within}, Rows.{enemies_of, in_mask, is_going, is_holding}, Turn.{is_idle, lets_go, looking, may_take}}
use Rattle.{sim_base.specs.{Turn.{square_to, target_for, with_releases}, Ways.least_of}, sim_laws.proofs.{Removing.target_for_is_target, Validity.map-map}}
use Rattle.sim_plans.proofs.Common.{Aim, aim_plan, aimed, aimed_at, All, All-nil, all_at, and_parts, ap, arith, Arms, arms_of, Bool, cond, false, filter, find}
use Rattle.sim_plans.proofs.Common.{found_row, halted, id_of, inl, is_near, is_some, IsKnownRow, IsLooselyValid, IsPlanOf, IsTarget, IsValidRow, known_row}
use Rattle.sim_plans.proofs.Common.{List, map, Motion, nat_le, None, not, Option, Plans, refl, Row, row_of, set_by_all, Setup, Some, square, State, subst}
use Rattle.sim_plans.proofs.Common.{Suits, sym, target_of, Template, template_of, true, unsigned_abs, ℕ, [], ◌&&◌, ◌*◌, ◌<◌, ◌==◌, ◌||◌, ◌∙◌, ◌∷◌, ◌≡◌, ◌≤◌}
use Rattle.sim_plans.proofs.{RowByRow.row_by_row_to, Suiting.{armed, target_changes-set, target_changes_suit, turn_changes-set, turn_changes_suit}}
use Rattle.{sim_plans.specs.Plans.{aim_changes_by, aim_changes_of, next_target}, std.specs.Prelude.{option_map, unwrap_or}}

filter-map : {X Y : Type 0} (p : Y → Bool) (f : X → Y) (xs : List X) → filter p (map f xs) ≡ map f (filter (λ x. p (f x)) xs)
filter-map p f [] = refl
filter-map p f (x ∷ xs) = by (p (f x)) (filter-map p f xs)
  where
    by : (b : Bool) → filter p (map f xs) ≡ map f (filter (λ x. p (f x)) xs) → cond b (f x ∷ filter p (map f xs)) (filter p (map f xs)) ≡ map f
        (cond b (x ∷ filter (λ x. p (f x)) xs) (filter (λ x. p (f x)) xs))
    by true e = ap (λ ys. f x ∷ ys) e
    by false e = e

find-map : {X Y : Type 0} (p : Y → Bool) (f : X → Y) (xs : List X) → find p (map f xs) ≡ option_map f (find (λ x. p (f x)) xs)
find-map p f [] = refl
find-map p f (x ∷ xs) = by (p (f x)) (find-map p f xs)
  where
    by : (b : Bool) → find p (map f xs) ≡ option_map f (find (λ x. p (f x)) xs) → cond b (Some (f x)) (find p (map f xs)) ≡ option_map f
        (cond b (Some x) (find (λ x. p (f x)) xs))
    by true e = refl
    by false e = e

module _ (setup : Setup) (state : State) where
  -- a row once targets are let go
  abbrev freed : Row → Row
  freed row = cond (lets_go setup row (row_of state (target_of row))) (released row) row

  -- what is asked of rows when targets are looked for is as before
  record IsAsBefore (row new : Row) : Type 0 where
    id : new.id ≡ row.id
    at : new.at ≡ row.at
    owner : new.owner ≡ row.owner
    health : new.health ≡ row.health
    template : new.template ≡ row.template
    hold : is_holding new ≡ is_holding row

  freed-as_before : (row : Row) → IsAsBefore row (freed row)
  freed-as_before row = by (lets_go setup row (row_of state (target_of row)))
    where
      holding : (a : Option Aim) → is_holding (released (record row { attack = a })) ≡ is_holding (record row { attack = a })
      holding None = refl
      holding (Some aim) = refl

      by : (b : Bool) → IsAsBefore row (cond b (released row) row)
      by true = record { id = refl; at = refl; owner = refl; health = refl; template = refl; hold = holding row.attack }
      by false = record { id = refl; at = refl; owner = refl; health = refl; template = refl; hold = refl }

  abbrev after_releases : State
  after_releases = with_releases setup state

  within-same : (row : Row) (arms : Arms) (mask : ℕ) → within after_releases row.at arms.vision mask ≡ within state row.at arms.vision mask
  within-same row arms mask =
      let test : Row → Bool = λ (q : Row). is_some q.health && in_mask mask q.owner && is_near q.at row.at arms.vision in
      let tests : (λ (q : Row). test (freed q)) ≡ test = λ i q. is_some ((freed-as_before q).health i) && in_mask mask ((freed-as_before q).owner i)
      && is_near ((freed-as_before q).at i) row.at arms.vision in
      ap (map id_of) (filter-map test freed state.rows) ∙ map-map freed id_of (filter (λ (q : Row). test (freed q)) state.rows) ∙
      (λ i. map (λ (q : Row). (freed-as_before q).id i) (filter (tests i) state.rows))

  row_of-same : (id : ℕ) → row_of after_releases id ≡ option_map freed (row_of state id)
  row_of-same id = find-map (λ (q : Row). q.id == id) freed state.rows ∙ (λ i. option_map freed (find (λ (q : Row). (freed-as_before q).id i == id) state.rows))

  square_to-same : (row : Row) (id : ℕ) → square_to after_releases row id ≡ square_to state row id
  square_to-same row id = ap (λ (o : Option Row). unwrap_or (option_map (λ (other : Row). square other.at row.at) o) 0) (row_of-same id) ∙ by (row_of state id)
    where
      by : (o : Option Row) → unwrap_or (option_map (λ (other : Row). square other.at row.at) (option_map freed o)) 0 ≡ unwrap_or
          (option_map (λ (other : Row). square other.at row.at) o) 0
      by None = refl
      by (Some other) = λ i. square ((freed-as_before other).at i) row.at

  -- the target that a row finds once targets are let go is the one that it finds before
  target_for-same : (row : Row) (arms : Arms) → target_for setup after_releases (freed row) arms ≡ target_for setup state row arms
  target_for-same row arms =
      let new = freed row in
      let same = freed-as_before row in
      let far : (id : ℕ) → square_to after_releases new id ≡ square_to state row id = λ id. moved_square (lets_go setup row (row_of state (target_of row)))
      id in
      let may : (id : ℕ) → may_take after_releases new arms id ≡ may_take state row arms id = λ id i. not (same.hold i) || nat_le (far id i)
      (unsigned_abs arms.range * unsigned_abs arms.range) in
      let ids : seen setup after_releases new arms ≡ seen setup state row arms = seen_by (lets_go setup row (row_of state (target_of row))) in
      λ i. unwrap_or (least_of (λ id. far id i ∷ id ∷ []) (filter (λ id. may id i) (ids i))) 0
    where
      moved_square : (b : Bool) (id : ℕ) → square_to after_releases (cond b (released row) row) id ≡ square_to state row id
      moved_square true id = square_to-same row id
      moved_square false id = square_to-same row id

      seen_by : (b : Bool) → seen setup after_releases (cond b (released row) row) arms ≡ seen setup state row arms
      seen_by true = λ i. filter (λ id. not (id == row.id)) (within-same row arms (enemies_of setup row.owner) i)
      seen_by false = λ i. filter (λ id. not (id == row.id)) (within-same row arms (enemies_of setup row.owner) i)

  -- what the phase makes of a row
  abbrev aimed_row : Row → Row
  aimed_row row = looking setup after_releases (freed row) (is_idle (freed row)) (arms_of setup (freed row))

  aimed-is_map : aimed setup state ≡ record state { rows = map aimed_row state.rows }
  aimed-is_map =
      ap (λ (rs : List Row). record state { rows = rs }) (map-map freed (λ (row : Row). looking setup after_releases row (is_idle row) (arms_of setup row))
      state.rows)

  -- a row that lets go of its target, or is idle, can attack
  loosing_armed : IsLooselyValid setup state → (row : Row) → lets_go setup row (row_of state (target_of row)) ≡ true → (aim : Aim) × (row.attack ≡ Some aim)
  loosing_armed valid row friend = by (row_of state (target_of row)) refl friend
    where
      aiming : (a : Option Aim) → row.attack ≡ a → 2 ≤ unwrap_or (option_map (λ (aim : Aim). aim.target) a) 0 → (aim : Aim) × (row.attack ≡ Some aim)
      aiming None e h = absurd (omega arith)
      aiming (Some aim) e h = (aim, e)

      by : (o : Option Row) → row_of state (target_of row) ≡ o → lets_go setup row o ≡ true → (aim : Aim) × (row.attack ≡ Some aim)
      by None e f = absurd (cc)
      by (Some target) e f =
          let (h, same) = found_row state (target_of row) target e in
          let ids = all_at (λ (r : Row). (2 ≤ r.id) × (r.id < state.next)) state.rows target valid.ids h in
          aiming row.attack refl (omega (arith, ids.0, same))

  idle_armed : (row : Row) → is_idle row ≡ true → (aim : Aim) × (row.attack ≡ Some aim)
  idle_armed row idle = by row.attack refl
      ((and_parts (is_some row.attack) (target_of row == 0) ((and_parts (is_some row.attack && target_of row == 0) (not (is_going row.motion)) idle).0)).0)
    where
      by : (a : Option Aim) → row.attack ≡ a → is_some a ≡ true → (aim : Aim) × (row.attack ≡ Some aim)
      by None e h = absurd (cc)
      by (Some aim) e h = (aim, e)

  -- a row that is released looks for a target, and takes it
  released_looks : (row : Row) (aim : Aim) (arms : Arms) → row.attack ≡ Some aim → arms_of setup row ≡ Some arms →
      looking setup after_releases (released row) (is_idle (released row)) (arms_of setup row) ≡ halted
      (aimed_at (target_for setup after_releases (released row) arms) row)
  released_looks row aim arms armed has_arms = by row.attack row.motion (arms_of setup row) armed has_arms
    where
      by : (a : Option Aim) (m : Option Motion) (o : Option Arms) → a ≡ Some aim → o ≡ Some arms →
          looking setup after_releases (released (record row { attack = a; motion = m })) (is_idle (released (record row { attack = a; motion = m }))) o ≡
          halted (aimed_at (target_for setup after_releases (released (record row { attack = a; motion = m })) arms) (record row { attack = a; motion = m }))
      by None m o e f = absurd (cc)
      by (Some aim_b) m None e f = absurd (cc)
      by (Some aim_b) None (Some arms_b) e f = let same : arms_b ≡ arms = cc in
          ap (λ (n : Arms). aimed_at (target_for setup after_releases (released (record row { attack = Some aim_b; motion = None })) n)
          (released (record row { attack = Some aim_b; motion = None }))) same
      by (Some aim_b) (Some motion) (Some arms_b) e f = let same : arms_b ≡ arms = cc in
          ap (λ (n : Arms). aimed_at (target_for setup after_releases (released (record row { attack = Some aim_b; motion = Some motion })) n)
          (released (record row { attack = Some aim_b; motion = Some motion }))) same

  module _ (valid : IsLooselyValid setup state) (row : Row) (t : Template) (known : template_of setup row ≡ Some t)
      (v : IsValidRow 0 setup state.rows row t) where
    next_is_target : IsTarget state.rows row (next_target setup state row (arms_of setup row))
    next_is_target = by (arms_of setup row)
      where
        by : (o : Option Arms) → IsTarget state.rows row (next_target setup state row o)
        by None = inl refl
        by (Some arms) = target_for_is_target setup state row arms

    changes_suit : All (Suits setup state.rows row) (aim_changes_of setup state row)
    changes_suit = by (lets_go setup row (row_of state (target_of row))) (is_idle row)
      where
        by : (friend idle : Bool) → All (Suits setup state.rows row) (aim_changes_by friend idle (next_target setup state row (arms_of setup row)) row)
        by true idle = turn_changes_suit 0 setup state.rows row t known v (next_target setup state row (arms_of setup row)) next_is_target
        by false true = target_changes_suit 0 setup state.rows row t known v (next_target setup state row (arms_of setup row)) next_is_target
        by false false = All-nil (Suits setup state.rows row)

    next_is : (arms : Arms) → arms_of setup row ≡ Some arms → next_target setup state row (arms_of setup row) ≡ target_for setup state row arms
    next_is arms e = ap (next_target setup state row) e

    changes_make : set_by_all (aim_changes_of setup state row) row ≡ aimed_row row
    changes_make = by (lets_go setup row (row_of state (target_of row))) (is_idle row) refl refl
      where
        by : (friend idle : Bool) → lets_go setup row (row_of state (target_of row)) ≡ friend → is_idle row ≡ idle →
            set_by_all (aim_changes_by friend idle (next_target setup state row (arms_of setup row)) row) row ≡
            looking setup after_releases (cond friend (released row) row) (is_idle (cond friend (released row) row))
            (arms_of setup (cond friend (released row) row))
        by true idle e f =
            let (aim, attacks) = loosing_armed valid row e in
            let a = armed 0 setup state.rows row t known v aim attacks in
            let free : freed row ≡ released row = ap (λ (b : Bool). cond b (released row) row) e in
            let found : target_for setup after_releases (released row) a.arms ≡ target_for setup state row a.arms =
            ap (λ (r : Row). target_for setup after_releases r a.arms) (sym free) ∙ target_for-same row a.arms in
            turn_changes-set (next_target setup state row (arms_of setup row)) row ∙ ap (λ (n : ℕ). halted (aimed_at n row))
            (next_is a.arms a.arms_is ∙ sym found) ∙ sym (released_looks row aim a.arms attacks a.arms_is)
        by false true e f =
            let (aim, attacks) = idle_armed row f in
            let a = armed 0 setup state.rows row t known v aim attacks in
            let free : freed row ≡ row = ap (λ (b : Bool). cond b (released row) row) e in
            let found : target_for setup after_releases row a.arms ≡ target_for setup state row a.arms =
            ap (λ (r : Row). target_for setup after_releases r a.arms) (sym free) ∙ target_for-same row a.arms in
            target_changes-set (next_target setup state row (arms_of setup row)) row ∙ ap (λ (n : ℕ). aimed_at n row) (next_is a.arms a.arms_is ∙ sym found) ∙
            sym (ap (λ (b : Bool). looking setup after_releases row b (arms_of setup row)) f ∙ ap (looking setup after_releases row true) a.arms_is)
        by false false e f = sym (ap (λ (b : Bool). looking setup after_releases row b (arms_of setup row)) f)

pub aim_plan_is : Plans aim_plan aimed
aim_plan_is setup state valid =
    subst (IsPlanOf setup state (aim_plan setup state)) (sym (aimed-is_map setup state))
    (row_by_row_to setup state (aim_changes_of setup state) (aimed_row setup state) valid.ascending
    (λ row h. let (t, e, v) = known_row 0 setup state.rows row (all_at (IsKnownRow 0 setup state.rows) state.rows row valid.rows h) in
    changes_suit setup state valid row t e v)
    (λ row h. let (t, e, v) = known_row 0 setup state.rows row (all_at (IsKnownRow 0 setup state.rows) state.rows row valid.rows h) in
    changes_make setup state valid row t e v))
