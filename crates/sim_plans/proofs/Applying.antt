-- A change that fits keeps a state loosely valid.
use Rattle.sim_base.specs.declared.change.Change.TheVariants as change
use Rattle.sim_base.specs.contracts.state.State as state_row
use Rattle.sim_laws.proofs.{Removing.removed_is_state, Removing.same_stays, Validity.of_has_health, Validity.same_row, Validity.with_new_is_valid}
use Rattle.sim_plans.proofs.Common.{Fits, found_row, Going, has_health, inl, inr, is_some, IsInside, IsLooselyValid, IsOwnChange, IsPlanOf, IsSetup, IsSome}
use Rattle.sim_plans.proofs.Common.{IsTrue, IsValidAim, IsValidMotion, IsValidRow, known_template, length, List, mapped_is_state, MatchOption, most_of, Motion}
use Rattle.sim_plans.proofs.Common.{None, OfRow, Option, option_and_then, Point, pos, refl, Row, row_of, Setup, slice_get, Some, State, Stays, Still, subst}
use Rattle.sim_plans.proofs.Common.{[], Aim, All, all_at, AllFit, ap, apart, applied, arith, Arms, arms_of, Both, both_same, Change, cond, cond_both, eqb-true}
use Rattle.sim_plans.proofs.Common.{sym, Template, template_of, true, with_word, ℕ, ℤ, ⊎_elim, ◌<◌, ◌==◌, ◌∙◌, ◌∷◌, ◌≡◌, ◌≢◌, ◌≤ℤ◌, ◌≤◌}
use Rattle.{sim_base.specs.Commands.with_new, sim_base.specs.Commands.with_row, sim_plans.specs.Plans.AllFittingKeepLoose}
use Rattle.{sim_plans.specs.Plans.FittingKeepsLoose, std.proofs.Props.props, std.proofs.lemmas.Option.slice_get_cases, std.specs.Prelude.◌⊎◌}
use base.Stored.{Coded-set}
use mathlib.Core.HLevel.{Unit-prop}

module _ (setup : Setup) (state : State) (valid : IsLooselyValid setup state) where
  -- the row that a change names, what is asked of it, and that it is the only one
  set_one : (id : ℕ) (P : Row → Type 0) (g : Row → Row) → OfRow state id P →
      ((row : Row) (t : Template) → row.id ≡ id → P row → template_of setup row ≡ Some t → IsValidRow 0 setup state.rows row t
      → Stays 0 setup state.rows row (g row) t) →
      IsLooselyValid setup (with_row id g state)
  set_one id P g asked each = by (row_of state id) refl asked
    where
      by : (o : Option Row) → row_of state id ≡ o → MatchOption o ⊥ P → IsLooselyValid setup (with_row id g state)
      by None e h = absurd h
      by (Some found) e h =
          let (m, is_id) = found_row state id found e in
          mapped_is_state 0 0 setup state (λ (row : Row). cond (row.id == id) (g row) row) valid
          (λ row t k known v. cond_both (row.id == id) (g row) row (λ (new : Row). Stays 0 setup state.rows row new t)
          (λ holds. let same = eqb-true row.id id holds in
          each row t same (subst P (same_row state.rows found row (apart state.rows valid.ascending) m k (is_id ∙ sym same)) h) known v)
          (λ fails. same_stays 0 setup state.rows row t v))

  module _ (row : Row) (t : Template) (v : IsValidRow 0 setup state.rows row t) where
    moved_stays : (p : Point) → IsInside setup p → Stays 0 setup state.rows row (record row { at = p }) t
    moved_stays p inside = record {
      id = refl;
      template = refl;
      valid = record { at = inside; owner = v.owner; health = v.health; motion = v.motion; attack = v.attack };
    }

    owned_stays : (owner : ℕ) → owner ≤ setup.players → Stays 0 setup state.rows row (record row { owner = owner }) t
    owned_stays owner known =
        record { id = refl; template = refl; valid = record { at = v.at; owner = known; health = v.health; motion = v.motion; attack = v.attack } }

    motion_stays : (motion : Motion) → IsSome row.motion → IsValidMotion setup motion → Stays 0 setup state.rows row (record row { motion = Some motion }) t
    motion_stays motion some ok =
        record {
          id = refl;
          template = refl;
          valid =
              record {
                at = v.at;
                owner = v.owner;
                health = v.health;
                motion =
                    by t.speed (sym (both_same (λ m s. IsValidMotion setup m) row.motion t.speed v.motion) ∙ some);
                attack = v.attack;
              };
        }
      where
        by : (s : Option ℤ) → is_some s ≡ true → Both (Some motion) s (λ m s. IsValidMotion setup m)
        by None e = absurd (cc)
        by (Some speed) e = ok

    attack_stays : (id : ℕ) (aim : Aim) → row.id ≡ id → template_of setup row ≡ Some t → MatchOption (arms_of setup row) ⊥ (IsValidAim state.rows id aim)
        → Stays 0 setup state.rows row (record row { attack = Some aim }) t
    attack_stays id aim same known ok =
        let at_t : MatchOption t.arms ⊥ (IsValidAim state.rows id aim) =
        subst (λ (o : Option Template). MatchOption (option_and_then (λ (u : Template). u.arms) o) ⊥ (IsValidAim state.rows id aim)) known ok in
        record {
          id = refl;
          template = refl;
          valid =
              record {
                at = v.at;
                owner = v.owner;
                health = v.health;
                motion = v.motion;
                attack =
                    by t.arms (subst (λ (n : ℕ). MatchOption t.arms ⊥ (IsValidAim state.rows n aim)) (sym same) at_t);
              };
        }
      where
        by : (b : Option Arms) → MatchOption b ⊥ (IsValidAim state.rows row.id aim) → Both (Some aim) b (IsValidAim state.rows row.id)
        by None h = absurd h
        by (Some arms) h = h

    health_stays : (health : ℤ) → template_of setup row ≡ Some t → MatchOption (most_of setup row) ⊥ (λ most. (pos 0 ≤ℤ health) × (health ≤ℤ most))
        → Stays 0 setup state.rows row (record row { health = Some health }) t
    health_stays health known ok =
        record {
          id = refl;
          template = refl;
          valid = record {
            at = v.at;
            owner = v.owner;
            health = by t.health (subst (λ (o : Option Template). MatchOption (option_and_then (λ (u : Template). u.health) o) ⊥
                (λ most. (pos 0 ≤ℤ health) × (health ≤ℤ most))) known ok);
            motion = v.motion;
            attack = v.attack;
          };
        }
      where
        by : (b : Option ℤ) → MatchOption b ⊥ (λ most. (pos 0 ≤ℤ health) × (health ≤ℤ most)) → Both (Some health) b (λ h m. (pos 0 ≤ℤ h) × (h ≤ℤ m))
        by None h = absurd h
        by (Some most) h = h

  module _ (limits : IsSetup setup) where
    pub fitting_keeps : (c : Change) → Fits setup state c → IsLooselyValid setup (applied setup state c)
    fitting_keeps (change.Move id p) fit =
        set_one id (λ row. IsSome row.motion × IsInside setup p) (λ row. record row { at = p }) fit (λ row t same h known v. moved_stays row t v p h.1)
    fitting_keeps (change.Motion id motion) fit =
        set_one id (λ row. IsSome row.motion × IsValidMotion setup motion) (λ row. record row { motion = Some motion }) fit
        (λ row t same h known v. motion_stays row t v motion h.0 h.1)
    fitting_keeps (change.Attack id aim) fit =
        set_one id (λ row. IsSome row.attack × MatchOption (arms_of setup row) ⊥ (IsValidAim state.rows id aim)) (λ row. record row { attack = Some aim }) fit
        (λ row t same h known v. attack_stays row t v id aim same known h.1)
    fitting_keeps (change.Health id health) fit =
        set_one id (λ row. IsSome row.health × MatchOption (most_of setup row) ⊥ (λ most. (pos 0 ≤ℤ health) × (health ≤ℤ most)))
        (λ row. record row { health = Some health }) fit
        (λ row t same h known v. health_stays row t v health known h.1)
    fitting_keeps (change.Owner id owner) fit = set_one id (λ row. owner ≤ setup.players) (λ row. record row { owner = owner }) fit
        (λ row t same h known v. owned_stays row t v owner h)
    fitting_keeps (change.Remove id) fit = removed_is_state 0 setup state id valid
    fitting_keeps (change.Create number p owner) fit =
        ⊎_elim
        (λ (inside : (t : Template) × (number < length setup.templates) × (slice_get setup.templates number ≡ Some t) × (_)).
        subst (λ (o : Option Template). IsLooselyValid setup (with_new number p owner o state)) (sym inside.2)
        (with_new_is_valid 0 setup state number p owner inside.0 valid (record { low = omega arith; inside = fit.1; known_owner = fit.2 }) inside.2
        (known_template setup number inside.0 limits inside.2) fit.3 fit.4))
        (λ past. absurd (omega (arith, fit.0, past.0)))
        ((slice_get_cases setup.templates number).1)
    fitting_keeps (change.Word word) fit = with_word 0 setup state word fit valid
    fitting_keeps change.Tick fit =
        record {
          turn = omega (arith, fit);
          next = valid.next;
          word = valid.word;
          few = valid.few;
          ascending = valid.ascending;
          ids = valid.ids;
          rows = valid.rows;
        }

pub fitting_keeps_loose : FittingKeepsLoose
fitting_keeps_loose setup state c limits valid fit = fitting_keeps setup state valid limits c fit

pub all_fitting_keep_loose : AllFittingKeepLoose
all_fitting_keep_loose setup state [] limits valid fit = valid
all_fitting_keep_loose setup state (c ∷ changes) limits valid fit =
    all_fitting_keep_loose setup (applied setup state c) changes limits (fitting_keeps setup state valid limits c fit.0) fit.1

-- That changes fit in order and give a state, and that they are a player's own, has one proof at most. So a struct may keep
-- these facts.

-- ids begin with 2, so no row has the id that stands for no target
none_is_zero : (setup : Setup) (state : State) → IsLooselyValid setup state → has_health state.rows 0 ≡ true → ⊥
none_is_zero setup state valid h =
    let (row, has, same, health) = of_has_health state.rows 0 h in
    let (least, below) = all_at (λ (row : Row). (2 ≤ row.id) × (row.id < state.next)) state.rows row valid.ids has in
    omega (arith, least, same)

target_prop : (rows : List Row) (id target : ℕ) → (has_health rows 0 ≡ true → ⊥) → IsProp ((target ≡ 0) ⊎ ((target ≢ id) × IsTrue (has_health rows target)))
target_prop rows id target none (inl p) (inl q) = let one : IsProp (target ≡ 0) = hlevel props in ap inl (one p q)
target_prop rows id target none (inl p) (inr q) = absurd (none (ap (has_health rows) (sym p) ∙ q.1))
target_prop rows id target none (inr p) (inl q) = absurd (none (ap (has_health rows) (sym q) ∙ p.1))
target_prop rows id target none (inr p) (inr q) = let one : IsProp ((target ≢ id) × IsTrue (has_health rows target)) = hlevel props in ap inr (one p q)

aim_prop : (rows : List Row) (id : ℕ) (aim : Aim) (arms : Arms) → (has_health rows 0 ≡ true → ⊥) → IsProp (IsValidAim rows id aim arms)
aim_prop rows id aim arms none x y =
    let cooldown_prop : IsProp (aim.cooldown ≤ arms.repeat) = hlevel props in
    λ i. record {
      target = target_prop rows id aim.target none x.target y.target i;
      cooldown = cooldown_prop x.cooldown y.cooldown i;
    }

motion_prop : (setup : Setup) (motion : Motion) → IsProp (IsValidMotion setup motion)
motion_prop setup Still = hlevel props
motion_prop setup (Going goal way whole) = hlevel props

fits_prop : (setup : Setup) (state : State) (c : Change) → (has_health state.rows 0 ≡ true → ⊥) → IsProp (Fits setup state c)
fits_prop setup state (change.Move id p) none = hlevel props
fits_prop setup state (change.Motion id motion) none = let one = motion_prop setup motion in hlevel (props, one)
fits_prop setup state (change.Attack id aim) none = let one = λ (arms : Arms). aim_prop state.rows id aim arms none in hlevel (props, one)
fits_prop setup state (change.Health id health) none = hlevel props
fits_prop setup state (change.Owner id owner) none = hlevel props
fits_prop setup state (change.Remove id) none = hlevel props
fits_prop setup state (change.Create number p owner) none = hlevel props
fits_prop setup state (change.Word word) none = hlevel props
fits_prop setup state change.Tick none = hlevel props

-- a fact beside another, of which the second has one proof where the first holds
both_prop : {A B : Type 0} → IsProp A → (A → IsProp B) → IsProp (A × B)
both_prop a b (p, q) (p', q') = λ i. (a p p' i, b p q q' i)

all_fit_prop : (setup : Setup) (state : State) (changes : List Change) → IsSetup setup → IsLooselyValid setup state → IsProp (AllFit setup state changes)
all_fit_prop setup state [] limits valid = Unit-prop
all_fit_prop setup state (c ∷ changes) limits valid =
    both_prop (fits_prop setup state c (none_is_zero setup state valid))
    (λ fits. all_fit_prop setup (applied setup state c) changes limits (fitting_keeps_loose setup state c limits valid fits))

own_prop : (state : State) (player : ℕ) (c : Change) → IsProp (IsOwnChange state player c)
own_prop state player (change.Move id p) = hlevel props
own_prop state player (change.Motion id motion) = hlevel props
own_prop state player (change.Attack id aim) = hlevel props
own_prop state player (change.Health id health) = hlevel props
own_prop state player (change.Owner id owner) = hlevel props
own_prop state player (change.Remove id) = hlevel props
own_prop state player (change.Create number p owner) = hlevel props
own_prop state player (change.Word word) = hlevel props
own_prop state player change.Tick = hlevel props

-- a plan of a state that is loosely valid
pub plan_prop : (setup : Setup) (state : State) (changes : List Change) (after : State) → IsSetup setup → IsLooselyValid setup state
    → IsProp (IsPlanOf setup state changes after)
plan_prop setup state changes after limits valid x y =
    λ i. record {
      fit = all_fit_prop setup state changes limits valid x.fit y.fit i;
      give = Coded-set state_row.the_row.coded _ _ x.give y.give i;
    }

-- changes that are a player's own
pub all_own_prop : (state : State) (player : ℕ) (changes : List Change) → IsProp (All (IsOwnChange state player) changes)
all_own_prop state player changes = hlevel (props, own_prop)
