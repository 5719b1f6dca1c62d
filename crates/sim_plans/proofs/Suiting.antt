-- The changes by which a row takes a target, stands still, or comes to stand and go as another one: they suit it, and make just that of it.
use Rattle.sim_base.specs.declared.change.Change.TheVariants as change
use Rattle.{sim_base.specs.Commands.with_stance, sim_plans.proofs.Common.{Aim, aimed_at, All, All-append, All-cons, All-nil, and_parts, ap, arith, Arms}}
use Rattle.sim_plans.proofs.Common.{arms_of, Bool, Both, Change, cond, cond_both, eqb-true, false, fold-append, goes_on, Going, halted, int_eq, is_some}
use Rattle.sim_plans.proofs.Common.{IsInside, IsSome, IsTarget, IsValidAim, IsValidMotion, IsValidRow, List, MatchOption, Motion, None, Option, option_and_then}
use Rattle.sim_plans.proofs.Common.{Point, refl, Row, same_point, set_by, set_by_all, Setup, Some, stance_changes, step_changes, Still, subst, Suits, sym}
use Rattle.sim_plans.proofs.Common.{Template, template_of, true, ℕ, [], ◌&&◌, ◌++◌, ◌==◌, ◌∙◌, ◌∷◌, ◌≡◌}
use Rattle.{sim_plans.specs.Plans.{halt_changes, motion_changes, stand_changes, target_changes, turn_changes}, std.specs.{Bool.beq, Cmp.booleans_Decides}}

-- a list of one change, or of none
pub one_suits : (setup : Setup) (rows : List Row) (row : Row) (c : Change) → Suits setup rows row c → All (Suits setup rows row) (c ∷ [])
one_suits setup rows row c h = All-cons (Suits setup rows row) c [] h (All-nil (Suits setup rows row))

-- ---- what the changes make of a row

pub set_by-append : (first second : List Change) (row : Row) → set_by_all (first ++ second) row ≡ set_by_all second (set_by_all first row)
set_by-append first second row = fold-append (λ (r : Row) (c : Change). set_by c r) row first second

pub target_changes-set : (target : ℕ) (row : Row) → set_by_all (target_changes target row.id row.attack) row ≡ aimed_at target row
target_changes-set target row = by row.attack
  where
    test : (aim : Aim) (b : Bool) → (aim.target == target) ≡ b →
        set_by_all (cond b [] (change.Attack row.id (record aim { target = target }) ∷ [])) (record row { attack = Some aim }) ≡
        record row { attack = Some (record aim { target = target }) }
    test aim true e = ap (λ (n : ℕ). record row { attack = Some (record aim { target = n }) }) (eqb-true aim.target target e)
    test aim false e = refl

    by : (a : Option Aim) → set_by_all (target_changes target row.id a) (record row { attack = a }) ≡ aimed_at target (record row { attack = a })
    by None = refl
    by (Some aim) = test aim (aim.target == target) refl

pub halt_changes-set : (row : Row) → set_by_all (halt_changes row.id row.motion) row ≡ halted row
halt_changes-set row = by row.motion
  where
    by : (m : Option Motion) → set_by_all (halt_changes row.id m) (record row { motion = m }) ≡ halted (record row { motion = m })
    by None = refl
    by (Some Still) = refl
    by (Some (Going goal way whole)) = refl

pub turn_changes-set : (target : ℕ) (row : Row) → set_by_all (turn_changes target row) row ≡ halted (aimed_at target row)
turn_changes-set target row =
    set_by-append (target_changes target row.id row.attack) (halt_changes row.id row.motion) row ∙ ap (set_by_all (halt_changes row.id row.motion))
    (target_changes-set target row) ∙ halt_changes-set (aimed_at target row)

pub stance_changes-set : (target : ℕ) (hold : Bool) (row : Row) → set_by_all (stance_changes target hold row.id row.attack) row ≡ with_stance hold
    (aimed_at target row)
stance_changes-set target hold row = by row.attack
  where
    test : (aim : Aim) (b : Bool) → (aim.target == target && beq aim.hold hold) ≡ b →
        set_by_all (cond b [] (change.Attack row.id (record aim { target = target; hold = hold }) ∷ [])) (record row { attack = Some aim }) ≡
        record row { attack = Some (record aim { target = target; hold = hold }) }
    test aim true e =
        let (target_same, hold_same) = and_parts (aim.target == target) (beq aim.hold hold) e in
        let t : aim.target ≡ target = eqb-true aim.target target target_same in
        let h : aim.hold ≡ hold = (booleans_Decides aim.hold hold).0 hold_same in
        λ i. record row { attack = Some (record aim { target = t i; hold = h i }) }
    test aim false e = refl

    by : (a : Option Aim) → set_by_all (stance_changes target hold row.id a) (record row { attack = a }) ≡ with_stance hold
        (aimed_at target (record row { attack = a }))
    by None = refl
    by (Some aim) = test aim (aim.target == target && beq aim.hold hold) refl

pub stand_changes-set : (target : ℕ) (hold : Bool) (row : Row) → set_by_all (stand_changes target hold row) row ≡ halted
    (with_stance hold (aimed_at target row))
stand_changes-set target hold row =
    set_by-append (stance_changes target hold row.id row.attack) (halt_changes row.id row.motion) row ∙ ap (set_by_all (halt_changes row.id row.motion))
    (stance_changes-set target hold row) ∙
    halt_changes-set (with_stance hold (aimed_at target row))

pub same_point-true : (p q : Point) → same_point p q ≡ true → p ≡ q
same_point-true p q e =
    let (x, z) = and_parts (int_eq p.x q.x) (int_eq p.z q.z) e in
    let ex : p.x ≡ q.x = grind arith in
    let ez : p.z ≡ q.z = grind arith in
    λ i. record { x = ex i; z = ez i }

-- a row that comes to stand and to go as another one; it can move exactly if the other one can, and where it goes on as it
-- went the other one does too
pub step_changes-set : (row new : Row) → is_some new.motion ≡ is_some row.motion
    → ((motion : Motion) → new.motion ≡ Some motion → goes_on row.motion motion ≡ true → row.motion ≡ Some motion) →
    set_by_all (step_changes row new) row ≡ record row { at = new.at; motion = new.motion }
step_changes-set row new same on =
    set_by-append (cond (same_point row.at new.at) [] (change.Move row.id new.at ∷ [])) (motion_changes row.id row.motion new.motion) row ∙
    ap (set_by_all (motion_changes row.id row.motion new.motion)) (placed (same_point row.at new.at) refl) ∙ by row.motion new.motion same on
  where
    placed : (b : Bool) → same_point row.at new.at ≡ b → set_by_all (cond b [] (change.Move row.id new.at ∷ [])) row ≡ record row { at = new.at }
    placed true e = ap (λ (p : Point). record row { at = p }) (same_point-true row.at new.at e)
    placed false e = refl

    set_or_same : (a : Option Motion) (motion : Motion) (b : Bool) → (b ≡ true → a ≡ Some motion) →
        set_by_all (cond b [] (change.Motion row.id motion ∷ [])) (record row { at = new.at; motion = a }) ≡ record row { at = new.at; motion = Some motion }
    set_or_same a motion true same = ap (λ (o : Option Motion). record row { at = new.at; motion = o }) (same refl)
    set_or_same a motion false same = refl

    by : (a b : Option Motion) → is_some b ≡ is_some a → ((motion : Motion) → b ≡ Some motion → goes_on a motion ≡ true → a ≡ Some motion) →
        set_by_all (motion_changes row.id a b) (record row { at = new.at; motion = a }) ≡ record row { at = new.at; motion = b }
    by None None e on = refl
    by (Some motion) None e on = absurd (cc)
    by a (Some motion) e on = set_or_same a motion (goes_on a motion) (on motion refl)

-- ---- the changes suit the row

module _ (least : ℕ) (setup : Setup) (rows : List Row) (row : Row) (t : Template) (known : template_of setup row ≡ Some t)
    (v : IsValidRow least setup rows row t) where
  pub arms_are : arms_of setup row ≡ t.arms
  arms_are = ap (λ (o : Option Template). option_and_then (λ (u : Template). u.arms) o) known

  -- a row that can attack has an aim and arms, and the aim is valid
  pub record IsArmed (aim : Aim) : Type 0 where
    pub arms : Arms
    pub arms_is : arms_of setup row ≡ Some arms
    pub valid : IsValidAim rows row.id aim arms

  pub armed : (aim : Aim) → row.attack ≡ Some aim → IsArmed aim
  armed aim e = by t.arms refl (subst (λ (o : Option Aim). Both o t.arms (IsValidAim rows row.id)) e v.attack)
    where
      by : (b : Option Arms) → t.arms ≡ b → Both (Some aim) b (IsValidAim rows row.id) → IsArmed aim
      by None f h = absurd h
      by (Some arms) f h = record { arms = arms; arms_is = arms_are ∙ f; valid = h }

  -- another aim suits it where it is a valid one
  pub attack_suits : (aim new : Aim) → row.attack ≡ Some aim → ((arms : Arms) → IsValidAim rows row.id aim arms → arms_of setup row ≡ Some arms
      → IsValidAim rows row.id new arms) → Suits setup rows row (change.Attack row.id new)
  attack_suits aim new e ok =
      let a = armed aim e in
      (refl, ap is_some e, subst (λ (o : Option Arms). MatchOption o ⊥ (IsValidAim rows row.id new)) (sym a.arms_is) (ok a.arms a.valid a.arms_is))

  pub target_changes_suit : (target : ℕ) → IsTarget rows row target → All (Suits setup rows row) (target_changes target row.id row.attack)
  target_changes_suit target may = by row.attack refl
    where
      by : (a : Option Aim) → row.attack ≡ a → All (Suits setup rows row) (target_changes target row.id a)
      by None e = All-nil (Suits setup rows row)
      by (Some aim) e =
          cond_both (aim.target == target) [] (change.Attack row.id (record aim { target = target }) ∷ []) (All (Suits setup rows row))
          (λ same. All-nil (Suits setup rows row))
          (λ other. one_suits setup rows row (change.Attack row.id (record aim { target = target }))
          (attack_suits aim (record aim { target = target }) e (λ arms h f. record { target = may; cooldown = h.cooldown })))

  pub stance_changes_suit : (target : ℕ) (hold : Bool) → IsTarget rows row target → All (Suits setup rows row) (stance_changes target hold row.id row.attack)
  stance_changes_suit target hold may = by row.attack refl
    where
      by : (a : Option Aim) → row.attack ≡ a → All (Suits setup rows row) (stance_changes target hold row.id a)
      by None e = All-nil (Suits setup rows row)
      by (Some aim) e =
          let new : Aim = record aim { target = target; hold = hold } in
          cond_both (aim.target == target && beq aim.hold hold) [] (change.Attack row.id new ∷ []) (All (Suits setup rows row))
          (λ same. All-nil (Suits setup rows row))
          (λ other. one_suits setup rows row (change.Attack row.id new) (attack_suits aim new e (λ arms h f. record { target = may; cooldown = h.cooldown })))

  pub motion_suits : (motion : Motion) → IsSome row.motion → IsValidMotion setup motion → Suits setup rows row (change.Motion row.id motion)
  motion_suits motion some ok = (refl, some, ok)

  pub halt_changes_suit : All (Suits setup rows row) (halt_changes row.id row.motion)
  halt_changes_suit = by row.motion refl
    where
      by : (m : Option Motion) → row.motion ≡ m → All (Suits setup rows row) (halt_changes row.id m)
      by None e = All-nil (Suits setup rows row)
      by (Some Still) e = All-nil (Suits setup rows row)
      by (Some (Going goal way whole)) e = one_suits setup rows row (change.Motion row.id Still) (motion_suits Still (ap is_some e) tt)

  pub turn_changes_suit : (target : ℕ) → IsTarget rows row target → All (Suits setup rows row) (turn_changes target row)
  turn_changes_suit target may =
      All-append (Suits setup rows row) (target_changes target row.id row.attack) (halt_changes row.id row.motion) (target_changes_suit target may)
      halt_changes_suit

  pub stand_changes_suit : (target : ℕ) (hold : Bool) → IsTarget rows row target → All (Suits setup rows row) (stand_changes target hold row)
  stand_changes_suit target hold may =
      All-append (Suits setup rows row) (stance_changes target hold row.id row.attack) (halt_changes row.id row.motion) (stance_changes_suit target hold may)
      halt_changes_suit

  pub step_changes_suit : (new : Row) → is_some new.motion ≡ is_some row.motion → IsInside setup new.at
      → ((motion : Motion) → new.motion ≡ Some motion → IsValidMotion setup motion) → IsSome row.motion →
      All (Suits setup rows row) (step_changes row new)
  step_changes_suit new same inside ok some =
      All-append (Suits setup rows row) (cond (same_point row.at new.at) [] (change.Move row.id new.at ∷ [])) (motion_changes row.id row.motion new.motion)
      (cond_both (same_point row.at new.at) [] (change.Move row.id new.at ∷ []) (All (Suits setup rows row)) (λ here. All-nil (Suits setup rows row))
      (λ there. one_suits setup rows row (change.Move row.id new.at) (refl, some, inside)))
      (by row.motion new.motion ok)
    where
      by : (a b : Option Motion) → ((motion : Motion) → b ≡ Some motion → IsValidMotion setup motion) → All (Suits setup rows row) (motion_changes row.id a b)
      by a None ok = All-nil (Suits setup rows row)
      by a (Some motion) ok =
          cond_both (goes_on a motion) [] (change.Motion row.id motion ∷ []) (All (Suits setup rows row)) (λ on. All-nil (Suits setup rows row))
          (λ other. one_suits setup rows row (change.Motion row.id motion) (motion_suits motion some (ok motion refl)))
