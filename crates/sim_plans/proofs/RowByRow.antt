-- Changes that each touch their own row, taken row by row, fit in order and give the state in which each row is changed.
use Rattle.sim_base.specs.declared.change.Change.TheVariants as change
use Rattle.sim_base.specs.{Limits.IsState, Turn.{Hit, hitting, hurt, taken_from, with_cooldown}}
use Rattle.sim_laws.proofs.{Hitting.{fought, fought_by, fought_stays, hitting-rows, hitting-word, struck}, Neighbours.Has-append_cases, Validity.map_agree}
use Rattle.sim_plans.proofs.Common.{Aim, All, All-head, All-nil, All-tail, All-weaker, all_at, AllFit, ap, Apart, apart, applied, applied_all, arith, Arms}
use Rattle.sim_plans.proofs.Common.{arms_of, Bool, Both, Change, cond, cond_both, eq-eqb, eqb-true, false, find, Fits, flat_map, fold-append, Has, has_health}
use Rattle.sim_plans.proofs.Common.{hit, hit_plan, id_of, inl, inr, ints, is_near, is_some, IsKnownRow, IsLooselyValid, IsPlanOf, IsStrictlyIncreasing, IsTrue}
use Rattle.sim_plans.proofs.Common.{IsValidAim, IsValidRow, known_row, List, list_any, map, mapped_is_state, MatchOption, most_of, ne_eqb, None, Option}
use Rattle.sim_plans.proofs.Common.{option_and_then, Plans, pos, refl, Row, row_of, set_by, set_by_all, Setup, slice_get, Some, State, subst, Suits, sym}
use Rattle.sim_plans.proofs.Common.{Template, template_of, true, with_word, ℕ, ℤ, ⊎_elim, [], ◌&&◌, ◌++◌, ◌-◌, ◌==◌, ◌||◌, ◌∙◌, ◌∷◌, ◌≡◌, ◌≢◌, ◌≤ℤ◌, ◌≤◌}
use Rattle.sim_plans.{proofs.Suiting.{attack_suits, one_suits}, specs.Plans.{cooldown_change, fight_changes_by, fight_changes_of, hurt_changes_by}}
use Rattle.{sim_plans.specs.Plans.{hurt_changes_of, RowByRow, strike_changes}, std.proofs.Common.{append_assoc, ◌-ℤ◌}}
use Rattle.std.{proofs.lemmas.{Bool.{cond-false, cond-true}, Int.clamps, List.{Folds.{flat_map-map, list_any-append}, map-append, map-id}}, specs.Int.int_max}

-- ---- plans one after another

pub fit_append : (setup : Setup) (state : State) (first second : List Change) → AllFit setup state first → AllFit setup (applied_all setup state first) second
    → AllFit setup state (first ++ second)
fit_append setup state [] second fit more = more
fit_append setup state (c ∷ first) second fit more = (fit.0, fit_append setup (applied setup state c) first second fit.1 more)

pub plan_then : (setup : Setup) (state middle after : State) (first second : List Change) → IsPlanOf setup state first middle
    → IsPlanOf setup middle second after → IsPlanOf setup state (first ++ second) after
plan_then setup state middle after first second p q =
    record {
      fit = fit_append setup state first second p.fit (subst (λ (s : State). AllFit setup s second) (sym p.give) q.fit);
      give = fold-append (applied setup) state first second ∙ ap (λ (s : State). applied_all setup s second) p.give ∙ q.give;
    }

-- ---- two rows that are one entity with the same parts

record IsAlike (row new : Row) : Type 0 where
  id : new.id ≡ row.id
  template : new.template ≡ row.template
  motion : is_some new.motion ≡ is_some row.motion
  attack : is_some new.attack ≡ is_some row.attack
  health : is_some new.health ≡ is_some row.health

alike_then : (a b c : Row) → IsAlike a b → IsAlike b c → IsAlike a c
alike_then a b c h k = record {
  id = k.id ∙ h.id;
  template = k.template ∙ h.template;
  motion = k.motion ∙ h.motion;
  attack = k.attack ∙ h.attack;
  health = k.health ∙ h.health;
}

set_by-alike : (setup : Setup) (rows : List Row) (row : Row) (c : Change) → Suits setup rows row c → IsAlike row (set_by c row)
set_by-alike setup rows row (change.Move id p) h = record { id = refl; template = refl; motion = refl; attack = refl; health = refl }
set_by-alike setup rows row (change.Motion id motion) h = record { id = refl; template = refl; motion = sym h.1; attack = refl; health = refl }
set_by-alike setup rows row (change.Attack id aim) h = record { id = refl; template = refl; motion = refl; attack = sym h.1; health = refl }
set_by-alike setup rows row (change.Health id health) h = record { id = refl; template = refl; motion = refl; attack = refl; health = sym h.1 }
set_by-alike setup rows row (change.Owner id owner) h = record { id = refl; template = refl; motion = refl; attack = refl; health = refl }
set_by-alike setup rows row (change.Remove id) h = absurd h
set_by-alike setup rows row (change.Create number p owner) h = absurd h
set_by-alike setup rows row (change.Word word) h = absurd h
set_by-alike setup rows row change.Tick h = absurd h

-- ---- what suits a row suits it still when parts were set, of itself or of others

match_weaker : {X : Type 0} (P Q : X → Type 0) → ((x : X) → P x → Q x) → (o : Option X) → MatchOption o ⊥ P → MatchOption o ⊥ Q
match_weaker P Q weaker None h = h
match_weaker P Q weaker (Some x) h = weaker x h

module _ (setup : Setup) (rows more : List Row) (kept : (id : ℕ) → has_health rows id ≡ true → has_health more id ≡ true) (row new : Row)
    (alike : IsAlike row new) where
  aim_beside : (id : ℕ) (aim : Aim) (arms : Arms) → IsValidAim rows id aim arms → IsValidAim more id aim arms
  aim_beside id aim arms v =
      record {
        target = ⊎_elim (λ (none : aim.target ≡ 0). inl none) (λ (other : (aim.target ≢ id) × IsTrue (has_health rows aim.target)). inr
            (other.0, kept aim.target other.1)) v.target;
        cooldown = v.cooldown;
      }

  suits_still : (c : Change) → Suits setup rows row c → Suits setup more new c
  suits_still (change.Move id p) h = (h.0 ∙ sym alike.id, alike.motion ∙ h.1, h.2)
  suits_still (change.Motion id motion) h = (h.0 ∙ sym alike.id, alike.motion ∙ h.1, h.2)
  suits_still (change.Attack id aim) h =
      let ok : MatchOption (arms_of setup row) ⊥ (IsValidAim more id aim) = match_weaker (IsValidAim rows id aim) (IsValidAim more id aim) (aim_beside id aim)
      (arms_of setup row) h.2 in (
        h.0 ∙ sym alike.id,
        alike.attack ∙ h.1,
        subst (λ (n : ℕ). MatchOption (option_and_then (λ (t : Template). t.arms) (slice_get setup.templates n)) ⊥ (IsValidAim more id aim))
            (sym alike.template) ok,
      )
  suits_still (change.Health id health) h = (
    h.0 ∙ sym alike.id,
    alike.health ∙ h.1,
    subst (λ (n : ℕ). MatchOption (option_and_then (λ (t : Template). t.health) (slice_get setup.templates n)) ⊥
        (λ (most : ℤ). (pos 0 ≤ℤ health) × (health ≤ℤ most))) (sym alike.template) h.2,
  )
  suits_still (change.Owner id owner) h = (h.0 ∙ sym alike.id, h.1)
  suits_still (change.Remove id) h = h
  suits_still (change.Create number p owner) h = h
  suits_still (change.Word word) h = h
  suits_still change.Tick h = h

has_health_swap : (done rest : List Row) (row new : Row) → IsAlike row new → (id : ℕ) → has_health (done ++ row ∷ rest) id ≡ true
    → has_health (done ++ new ∷ rest) id ≡ true
has_health_swap done rest row new alike id h =
    let test : Row → Bool = λ (r : Row). r.id == id && is_some r.health in
    let same : test new ≡ test row = ap (λ (n : ℕ). n == id && is_some new.health) alike.id ∙ ap (λ (b : Bool). row.id == id && b) alike.health in
    list_any-append test done (new ∷ rest) ∙ ap (λ (b : Bool). list_any test done || (b || list_any test rest)) same ∙
    sym (list_any-append test done (row ∷ rest)) ∙ h

-- ---- one row, at its place between the others

module _ (setup : Setup) (state : State) where
  abbrev pub with_rows : List Row → State
  with_rows rows = record state { rows = rows }

  applied_is : (rows others : List Row) (row : Row) (c : Change) → Suits setup others row c → applied setup (with_rows rows) c ≡ with_rows
      (map (λ (r : Row). cond (r.id == row.id) (set_by c r) r) rows)
  applied_is rows others row (change.Move id p) h = ap (λ (n : ℕ). with_rows (map (λ (r : Row). cond (r.id == n) (record r { at = p }) r) rows)) h.0
  applied_is rows others row (change.Motion id motion) h =
      ap (λ (n : ℕ). with_rows (map (λ (r : Row). cond (r.id == n) (record r { motion = Some motion }) r) rows)) h.0
  applied_is rows others row (change.Attack id aim) h = ap (λ (n : ℕ). with_rows (map (λ (r : Row). cond (r.id == n) (record r { attack = Some aim }) r) rows))
      h.0
  applied_is rows others row (change.Health id health) h =
      ap (λ (n : ℕ). with_rows (map (λ (r : Row). cond (r.id == n) (record r { health = Some health }) r) rows)) h.0
  applied_is rows others row (change.Owner id owner) h = ap (λ (n : ℕ). with_rows (map (λ (r : Row). cond (r.id == n) (record r { owner = owner }) r) rows)) h.0
  applied_is rows others row (change.Remove id) h = absurd h
  applied_is rows others row (change.Create number p owner) h = absurd h
  applied_is rows others row (change.Word word) h = absurd h
  applied_is rows others row change.Tick h = absurd h

  -- a change that suits the row that is found by its id fits
  suits_fits : (rows : List Row) (row : Row) (c : Change) → row_of (with_rows rows) row.id ≡ Some row → Suits setup rows row c → Fits setup (with_rows rows) c
  suits_fits rows row c found = by c
    where
      of_row : (id : ℕ) (P : Row → Type 0) → id ≡ row.id → P row → MatchOption (row_of (with_rows rows) id) ⊥ P
      of_row id P e h = subst (λ (n : ℕ). MatchOption (row_of (with_rows rows) n) ⊥ P) (sym e) (subst (λ (o : Option Row). MatchOption o ⊥ P) (sym found) h)

      by : (c : Change) → Suits setup rows row c → Fits setup (with_rows rows) c
      by (change.Move id p) h = of_row id _ h.0 (h.1, h.2)
      by (change.Motion id motion) h = of_row id _ h.0 (h.1, h.2)
      by (change.Attack id aim) h = of_row id _ h.0 (h.1, h.2)
      by (change.Health id health) h = of_row id _ h.0 (h.1, h.2)
      by (change.Owner id owner) h = of_row id _ h.0 h.1
      by (change.Remove id) h = absurd h
      by (change.Create number p owner) h = absurd h
      by (change.Word word) h = absurd h
      by change.Tick h = absurd h

  abbrev Elsewhere : List Row → ℕ → Type 0
  Elsewhere rows id = (r : Row) → Has rows r → r.id ≡ id → ⊥

  others_stay : (rows : List Row) (id : ℕ) (f : Row → Row) → Elsewhere rows id → map (λ (r : Row). cond (r.id == id) (f r) r) rows ≡ rows
  others_stay rows id f elsewhere =
      map_agree (λ (r : Row). cond (r.id == id) (f r) r) (λ (r : Row). r) rows (λ r h. cond-false (r.id == id) (f r) r (ne_eqb r.id id (elsewhere r h))) ∙
      map-id rows

  row_set : (done rest : List Row) (row : Row) (f : Row → Row) → Elsewhere done row.id → Elsewhere rest row.id
      → map (λ (r : Row). cond (r.id == row.id) (f r) r) (done ++ row ∷ rest) ≡ done ++ f row ∷ rest
  row_set done rest row f before after =
      let g : Row → Row = λ (r : Row). cond (r.id == row.id) (f r) r in
      let head : g row ≡ f row = cond-true (row.id == row.id) (f row) row (eq-eqb row.id row.id refl) in
      map-append g done (row ∷ rest) ∙ ap (λ (rs : List Row). rs ++ g row ∷ map g rest) (others_stay done row.id f before) ∙
      ap (λ (r : Row). done ++ r ∷ map g rest) head ∙ ap (λ (rs : List Row). done ++ f row ∷ rs) (others_stay rest row.id f after)

  row_here : (done rest : List Row) (row : Row) → Elsewhere done row.id → row_of (with_rows (done ++ row ∷ rest)) row.id ≡ Some row
  row_here [] rest row before = cond-true (row.id == row.id) (Some row) (find (λ (r : Row). r.id == row.id) rest) (eq-eqb row.id row.id refl)
  row_here (d ∷ done) rest row before =
      cond-false (d.id == row.id) (Some d) (find (λ (r : Row). r.id == row.id) (done ++ row ∷ rest)) (ne_eqb d.id row.id (before d (inl refl))) ∙
      row_here done rest row (λ r h. before r (inr h))

  -- the changes of the row at its place
  record IsRowPlan (changes : List Change) (done rest : List Row) (row : Row) : Type 0 where
    fit : AllFit setup (with_rows (done ++ row ∷ rest)) changes
    give : applied_all setup (with_rows (done ++ row ∷ rest)) changes ≡ with_rows (done ++ set_by_all changes row ∷ rest)
    alike : IsAlike row (set_by_all changes row)

  row_plan : (changes : List Change) (done rest : List Row) (row : Row) → Elsewhere done row.id → Elsewhere rest row.id
      → All (Suits setup (done ++ row ∷ rest) row) changes → IsRowPlan changes done rest row
  row_plan [] done rest row before after suits =
      record { fit = tt; give = refl; alike = record { id = refl; template = refl; motion = refl; attack = refl; health = refl } }
  row_plan (c ∷ changes) done rest row before after suits =
      let P = Suits setup (done ++ row ∷ rest) row in
      let here = All-head P c changes suits in
      let new = set_by c row in
      let alike = set_by-alike setup (done ++ row ∷ rest) row c here in
      let step : applied setup (with_rows (done ++ row ∷ rest)) c ≡ with_rows (done ++ new ∷ rest) =
      applied_is (done ++ row ∷ rest) (done ++ row ∷ rest) row c here ∙ ap with_rows (row_set done rest row (set_by c) before after) in
      let later = row_plan changes done rest new (λ r h e. before r h (e ∙ alike.id)) (λ r h e. after r h (e ∙ alike.id))
      (All-weaker P (Suits setup (done ++ new ∷ rest) new)
      (suits_still setup (done ++ row ∷ rest) (done ++ new ∷ rest) (has_health_swap done rest row new alike) row new alike) changes
      (All-tail P c changes suits)) in
      record {
        fit = (suits_fits (done ++ row ∷ rest) row c (row_here done rest row before) here, subst (λ (s : State). AllFit setup s changes) (sym step) later.fit);
        give = ap (λ (s : State). applied_all setup s changes) step ∙ later.give;
        alike = alike_then row new (set_by_all changes new) alike later.alike;
      }

  -- ---- all rows

  module _ (plan : Row → List Change) where
    abbrev planned : Row → Row
    planned row = set_by_all (plan row) row

    rows_plan : (todo done : List Row) → Apart todo → ((d r : Row) → Has done d → Has todo r → d.id ≡ r.id → ⊥)
        → ((r : Row) → Has todo r → All (Suits setup (done ++ todo) r) (plan r)) →
        IsPlanOf setup (with_rows (done ++ todo)) (flat_map plan todo) (with_rows (done ++ map planned todo))
    rows_plan [] done apart before suits = record { fit = tt; give = refl }
    rows_plan (row ∷ rest) done apart before suits =
        let new = planned row in
        let once = row_plan (plan row) done rest row (λ d h e. before d row h (inl refl) e) (λ r h e. let below = apart.0 r h in absurd (omega (arith, below)))
        (suits row (inl refl)) in
        let place : (done ++ new ∷ []) ++ rest ≡ done ++ new ∷ rest = append_assoc done (new ∷ []) rest in
        let more = rows_plan rest (done ++ new ∷ []) apart.1
        (λ d r h k e. ⊎_elim (λ (m : Has done d). before d r m (inr k) e)
        (λ (m : Has (new ∷ []) d). ⊎_elim (λ (s : new ≡ d). let below = apart.0 r k in let same : row.id ≡ r.id = sym once.alike.id ∙ ap id_of s ∙ e in
        absurd (omega (arith, below, same))) (λ (none : ⊥). none) m)
        (Has-append_cases done (new ∷ []) d h))
        (λ r k. All-weaker (Suits setup (done ++ row ∷ rest) r) (Suits setup ((done ++ new ∷ []) ++ rest) r)
        (suits_still setup (done ++ row ∷ rest) ((done ++ new ∷ []) ++ rest) (λ id h. subst (λ (rs : List Row). has_health rs id ≡ true) (sym place)
        (has_health_swap done rest row new once.alike id h))
        r r (record { id = refl; template = refl; motion = refl; attack = refl; health = refl })) (plan r) (suits r (inr k))) in
        plan_then setup (with_rows (done ++ row ∷ rest)) (with_rows (done ++ new ∷ rest)) (with_rows (done ++ new ∷ map planned rest)) (plan row)
        (flat_map plan rest)
        (record { fit = once.fit; give = once.give })
        (record {
          fit = subst (λ (rs : List Row). AllFit setup (with_rows rs) (flat_map plan rest)) place more.fit;
          give = ap (λ (rs : List Row). applied_all setup (with_rows rs) (flat_map plan rest)) (sym place) ∙ more.give ∙
              ap with_rows (append_assoc done (new ∷ []) (map planned rest));
        })

    -- the changes of all rows, row by row
    pub row_by_row : IsStrictlyIncreasing (map id_of state.rows) → ((row : Row) → Has state.rows row → All (Suits setup state.rows row) (plan row)) →
        IsPlanOf setup state (flat_map plan state.rows) (record state { rows = map (λ (row : Row). set_by_all (plan row) row) state.rows })
    row_by_row ascending suits = rows_plan state.rows [] (apart state.rows ascending) (λ d r none k e. none) suits

    -- the same for what each row is to become
    pub row_by_row_to : (f : Row → Row) → IsStrictlyIncreasing (map id_of state.rows)
        → ((row : Row) → Has state.rows row → All (Suits setup state.rows row) (plan row)) →
        ((row : Row) → Has state.rows row → set_by_all (plan row) row ≡ f row) → IsPlanOf setup state (flat_map plan state.rows)
        (record state { rows = map f state.rows })
    row_by_row_to f ascending suits becomes =
        subst (λ (rs : List Row). IsPlanOf setup state (flat_map plan state.rows) (record state { rows = rs }))
        (map_agree (λ (row : Row). set_by_all (plan row) row) f state.rows becomes) (row_by_row ascending suits)

pub row_by_row_is : RowByRow
row_by_row_is setup state changes become ascending suits makes =
    row_by_row_to setup state changes become ascending (λ row h. all_at (λ (r : Row). All (Suits setup state.rows r) (changes r)) state.rows row suits h)
    (λ row h. all_at (λ (r : Row). set_by_all (changes r) r ≡ become r) state.rows row makes h)

-- The plan of the phase in which fighters hit: its changes fit and give the phase.

-- ---- each row fights

module _ (setup : Setup) (state : State) (row : Row) (t : Template) (known : template_of setup row ≡ Some t) (v : IsValidRow 0 setup state.rows row t) where
  cooldown_suits : (aim : Aim) (arms : Arms) (cooldown : ℕ) → row.attack ≡ Some aim → arms_of setup row ≡ Some arms
      → (IsValidAim state.rows row.id aim arms → cooldown ≤ arms.repeat) →
      All (Suits setup state.rows row) (cooldown_change row.id aim cooldown ∷ [])
  cooldown_suits aim arms cooldown e f within =
      one_suits setup state.rows row (cooldown_change row.id aim cooldown)
      (attack_suits 0 setup state.rows row t known v aim (record aim { cooldown = cooldown }) e
      (λ arms_b h g. let same : arms ≡ arms_b = cc in
      record { target = h.target; cooldown = subst (λ (a : Arms). cooldown ≤ a.repeat) same (within (subst (IsValidAim state.rows row.id aim) (sym same) h)) }))

  strike_suits : (aim : Aim) (arms : Arms) → row.attack ≡ Some aim → arms_of setup row ≡ Some arms → (o : Option Row)
      → All (Suits setup state.rows row) (strike_changes row aim arms o)
  strike_suits aim arms e f None = All-nil (Suits setup state.rows row)
  strike_suits aim arms e f (Some target) =
      cond_both (is_near target.at row.at arms.range) (cooldown_change row.id aim arms.repeat ∷ []) [] (All (Suits setup state.rows row))
      (λ near. cooldown_suits aim arms arms.repeat e f (λ h. omega arith)) (λ far. All-nil (Suits setup state.rows row))

  fight_suits : All (Suits setup state.rows row) (fight_changes_of setup state row)
  fight_suits = by row.attack (arms_of setup row) refl refl
    where
      by : (a : Option Aim) (b : Option Arms) → row.attack ≡ a → arms_of setup row ≡ b → All (Suits setup state.rows row) (fight_changes_by state row a b)
      by (Some aim) (Some arms) e f =
          cond_both (aim.cooldown == 0) (strike_changes row aim arms (row_of state aim.target)) (cooldown_change row.id aim (aim.cooldown - 1) ∷ [])
          (All (Suits setup state.rows row))
          (λ ready. strike_suits aim arms e f (row_of state aim.target))
          (λ waiting. cooldown_suits aim arms (aim.cooldown - 1) e f (λ h. omega (arith, h.cooldown)))
      by (Some aim) None e f = All-nil (Suits setup state.rows row)
      by None b e f = All-nil (Suits setup state.rows row)

-- what of a row its hurts ask for
record IsSameBody (row new : Row) : Type 0 where
  id : new.id ≡ row.id
  health : new.health ≡ row.health

module _ (setup : Setup) (state : State) (row : Row) where
  strike_makes : (aim : Aim) (arms : Arms) (o : Option Row) → set_by_all (strike_changes row aim arms o) row ≡ struck row aim arms o
  strike_makes aim arms None = refl
  strike_makes aim arms (Some target) = by (is_near target.at row.at arms.range)
    where
      by : (b : Bool) → set_by_all (cond b (cooldown_change row.id aim arms.repeat ∷ []) []) row ≡ cond b (with_cooldown row aim arms.repeat) row
      by true = refl
      by false = refl

  fight_makes_by : (a : Option Aim) (b : Option Arms) → set_by_all (fight_changes_by state row a b) row ≡ fought_by state row a b
  fight_makes_by (Some aim) (Some arms) = by (aim.cooldown == 0)
    where
      by : (b : Bool) → set_by_all (cond b (strike_changes row aim arms (row_of state aim.target)) (cooldown_change row.id aim (aim.cooldown - 1) ∷ [])) row ≡
          cond b (struck row aim arms (row_of state aim.target)) (with_cooldown row aim (aim.cooldown - 1))
      by true = strike_makes aim arms (row_of state aim.target)
      by false = refl
  fight_makes_by (Some aim) None = refl
  fight_makes_by None b = refl

  struck-body : (aim : Aim) (arms : Arms) (o : Option Row) → IsSameBody row (struck row aim arms o)
  struck-body aim arms None = record { id = refl; health = refl }
  struck-body aim arms (Some target) =
      cond_both (is_near target.at row.at arms.range) (with_cooldown row aim arms.repeat) row (IsSameBody row) (λ near. record { id = refl; health = refl })
      (λ far. record { id = refl; health = refl })

  fought-body_by : (a : Option Aim) (b : Option Arms) → IsSameBody row (fought_by state row a b)
  fought-body_by (Some aim) (Some arms) =
      cond_both (aim.cooldown == 0) (struck row aim arms (row_of state aim.target)) (with_cooldown row aim (aim.cooldown - 1)) (IsSameBody row)
      (λ ready. struck-body aim arms (row_of state aim.target)) (λ waiting. record { id = refl; health = refl })
  fought-body_by (Some aim) None = record { id = refl; health = refl }
  fought-body_by None b = record { id = refl; health = refl }

  -- a row that has fought is hurt as before
  hurt_changes-fought : (hits : List Hit) → hurt_changes_of hits (fought setup state row) ≡ hurt_changes_of hits row
  hurt_changes-fought hits = let body = fought-body_by row.attack (arms_of setup row) in λ i. hurt_changes_by (body.id i) (taken_from (body.id i) hits)
      (body.health i)

-- ---- each row is hurt

module _ (setup : Setup) (rows : List Row) (row : Row) (t : Template) (known : template_of setup row ≡ Some t) (v : IsValidRow 0 setup rows row t) where
  fallen : (health : ℤ) (taken : ℕ) → row.health ≡ Some health → MatchOption (most_of setup row) ⊥ (λ most. (pos 0 ≤ℤ int_max (health -ℤ pos taken) (pos 0))
      × (int_max (health -ℤ pos taken) (pos 0) ≤ℤ most))
  fallen health taken e =
      subst (λ (o : Option Template). MatchOption (option_and_then (λ (u : Template). u.health) o) ⊥ (λ most. (pos 0 ≤ℤ int_max (health -ℤ pos taken) (pos 0))
      × (int_max (health -ℤ pos taken) (pos 0) ≤ℤ most))) (sym known)
      (by t.health (subst (λ (o : Option ℤ). Both o t.health (λ h m. (pos 0 ≤ℤ h) × (h ≤ℤ m))) e v.health))
    where
      by : (b : Option ℤ) → Both (Some health) b (λ h m. (pos 0 ≤ℤ h) × (h ≤ℤ m)) → MatchOption b ⊥ (λ most. (pos 0 ≤ℤ int_max (health -ℤ pos taken) (pos 0))
          × (int_max (health -ℤ pos taken) (pos 0) ≤ℤ most))
      by None h = absurd h
      by (Some most) h = (omega (arith, ints, clamps, h.0, h.1), omega (arith, ints, clamps, h.0, h.1))

  not_below : (health : ℤ) → row.health ≡ Some health → pos 0 ≤ℤ health
  not_below health e = by t.health (subst (λ (o : Option ℤ). Both o t.health (λ h m. (pos 0 ≤ℤ h) × (h ≤ℤ m))) e v.health)
    where
      by : (b : Option ℤ) → Both (Some health) b (λ h m. (pos 0 ≤ℤ h) × (h ≤ℤ m)) → pos 0 ≤ℤ health
      by None h = absurd h
      by (Some most) h = h.0

  hurt_suits : (hits : List Hit) → All (Suits setup rows row) (hurt_changes_of hits row)
  hurt_suits hits = by row.health refl
    where
      by : (a : Option ℤ) → row.health ≡ a → All (Suits setup rows row) (hurt_changes_by row.id (taken_from row.id hits) a)
      by None e = All-nil (Suits setup rows row)
      by (Some health) e =
          cond_both (taken_from row.id hits == 0) [] (change.Health row.id (int_max (health -ℤ pos (taken_from row.id hits)) (pos 0)) ∷ [])
          (All (Suits setup rows row)) (λ whole. All-nil (Suits setup rows row))
          (λ less. one_suits setup rows row (change.Health row.id (int_max (health -ℤ pos (taken_from row.id hits)) (pos 0)))
          (refl, ap is_some e, fallen health (taken_from row.id hits) e))

  unhurt : (health : ℤ) (taken : ℕ) → pos 0 ≤ℤ health → taken ≡ 0 → health ≡ int_max (health -ℤ pos taken) (pos 0)
  unhurt health taken low e = omega (arith, ints, clamps)

  hurt_makes : (hits : List Hit) → set_by_all (hurt_changes_of hits row) row ≡ hurt hits row
  hurt_makes hits = by row.health refl
    where
      test : (health : ℤ) (b : Bool) → row.health ≡ Some health → (taken_from row.id hits == 0) ≡ b →
          set_by_all (cond b [] (change.Health row.id (int_max (health -ℤ pos (taken_from row.id hits)) (pos 0)) ∷ [])) (record row { health = Some health }) ≡
          record row { health = Some (int_max (health -ℤ pos (taken_from row.id hits)) (pos 0)) }
      test health true e f = ap (λ (h : ℤ). record row { health = Some h })
          (unhurt health (taken_from row.id hits) (not_below health e) (eqb-true (taken_from row.id hits) 0 f))
      test health false e f = refl

      by : (a : Option ℤ) → row.health ≡ a → set_by_all (hurt_changes_by row.id (taken_from row.id hits) a) (record row { health = a }) ≡ hurt hits
          (record row { health = a })
      by None e = refl
      by (Some health) e = test health (taken_from row.id hits == 0) e refl

-- ---- the phase

module _ (setup : Setup) (state : State) (valid : IsLooselyValid setup state) where
  abbrev after_fights : State
  after_fights = record state { rows = map (fought setup state) state.rows }

  abbrev after_word : State
  after_word = record state { word = (hitting setup state).word; rows = map (fought setup state) state.rows }

  fights_plan : IsPlanOf setup state (flat_map (fight_changes_of setup state) state.rows) after_fights
  fights_plan =
      row_by_row_to setup state (fight_changes_of setup state) (fought setup state) valid.ascending
      (λ row h. let (t, e, v) = known_row 0 setup state.rows row (all_at (IsKnownRow 0 setup state.rows) state.rows row valid.rows h) in
      fight_suits setup state row t e v)
      (λ row h. fight_makes_by setup state row row.attack (arms_of setup row))

  fights_valid : IsState 0 setup after_word
  fights_valid =
      mapped_is_state 0 0 setup (record state { word = (hitting setup state).word }) (fought setup state)
      (with_word 0 setup state (hitting setup state).word (hitting-word setup state valid.word) valid)
      (λ row t h e v. fought_stays 0 setup state row t e v)

  abbrev hits : List Hit
  hits = (hitting setup state).hits

  same_hurts : flat_map (hurt_changes_of hits) (map (fought setup state) state.rows) ≡ flat_map (hurt_changes_of hits) state.rows
  same_hurts = flat_map-map (hurt_changes_of hits) (fought setup state) state.rows ∙
      (λ i. flat_map (λ (row : Row). hurt_changes-fought setup state row hits i) state.rows)

  hurts_plan : IsPlanOf setup after_word (flat_map (hurt_changes_of hits) state.rows) (hit setup state)
  hurts_plan =
      subst (λ (s : State). IsPlanOf setup after_word (flat_map (hurt_changes_of hits) state.rows) s)
      (ap (λ (rs : List Row). record state { word = (hitting setup state).word; rows = map (hurt hits) rs }) (sym (hitting-rows setup state)))
      (subst (λ (cs : List Change). IsPlanOf setup after_word cs (record after_word { rows = map (hurt hits) after_word.rows })) same_hurts
      (row_by_row_to setup after_word (hurt_changes_of hits) (hurt hits) fights_valid.ascending
      (λ row h. let (t, e, v) = known_row 0 setup after_word.rows row (all_at (IsKnownRow 0 setup after_word.rows) after_word.rows row fights_valid.rows h) in
      hurt_suits setup after_word.rows row t e v hits)
      (λ row h. let (t, e, v) = known_row 0 setup after_word.rows row (all_at (IsKnownRow 0 setup after_word.rows) after_word.rows row fights_valid.rows h) in
      hurt_makes setup after_word.rows row t e v hits)))

  word_plan : IsPlanOf setup after_fights (change.Word (hitting setup state).word ∷ flat_map (hurt_changes_of hits) state.rows) (hit setup state)
  word_plan = record { fit = (hitting-word setup state valid.word, hurts_plan.fit); give = hurts_plan.give }

pub hit_plan_is : Plans hit_plan hit
hit_plan_is setup state valid =
    plan_then setup state (after_fights setup state valid) (hit setup state) (flat_map (fight_changes_of setup state) state.rows)
    (change.Word (hitting setup state).word ∷ flat_map (hurt_changes_of (hitting setup state).hits) state.rows) (fights_plan setup state valid)
    (word_plan setup state valid)
