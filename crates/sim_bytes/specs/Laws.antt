-- The bytes of a row are read as that row, whatever follows. From this one law of each form follows that no row's bytes begin another's.
use Rattle.sim_base.specs.{declared.{place.Point.Point, state.{Motion.{Motion, TheVariants.{Going, Still}}, Row.Row}}, Spelling.{attack_bytes, attack_part}}
use Rattle.sim_base.specs.Spelling.{entity_bytes, entity_part, flag_bytes, health_bytes, health_part, i32_bytes, motion_bytes, motion_part, moving_bytes}
use Rattle.sim_base.specs.Spelling.{owner_bytes, owner_part, point_bytes, position_bytes, position_part, stance_bytes, stance_part, u16_bytes, u32_bytes}
use Rattle.sim_bytes.specs.{Numbers.{i32_back, length-i32_bytes, length-u16_bytes, length-u32_bytes, u16_back, u32_back}, Reading.Reader}
use Rattle.sim_bytes.specs.Rows.{attack_at, entity_at, HasShortWay, health_at, IsAttack, IsEntity, IsHealth, IsMotion, IsMoving, IsOwner, IsPoint, IsPosition}
use Rattle.sim_bytes.specs.Rows.{IsShort, IsStance, motion_at, moving_at, owner_at, point_at, points_at, position_at, stance_at, with_id}
use Rattle.std.proofs.Common.{ap, append_assoc, arith, Bool, cond, eqb, false, length, length-append, List, ltb, None, not, Option, pos, refl, rules, Some, sym}
use Rattle.std.proofs.{Common.{true, ℕ, ℤ, [], ◌*◌, ◌++◌, ◌∙◌, ◌∷◌, ◌≡◌, ◌≤◌}, lemmas.{Bool.le-ltb, List.append-nil}}
use Rattle.std.specs.{List.{AllByRecursion, flat_map}, Prelude.{IfSome, option_map}}

-- where rows are read back, no row's bytes begin another's
pub prefix_nil : {X : Type 0} (at : Reader X) (spelled : X → List ℕ) (IsRow : X → Type 0)
    → ((row : X) (rest : List ℕ) → IsRow row → at (spelled row ++ rest) ≡ Some (row, rest))
    → (row other : X) (more : List ℕ) → IsRow row → IsRow other → spelled other ≡ spelled row ++ more → more ≡ []
prefix_nil {X} at spelled IsRow back row other more fits other_fits e =
    let one : at (spelled other) ≡ Some (other, []) = ap at (sym (append-nil (spelled other))) ∙ back other [] other_fits in
    let two : at (spelled other) ≡ Some (row, more) = ap at e ∙ back row more fits in
    ap (λ (p : X × List ℕ). p.1) (equal_some (row, more) (other, []) (sym two ∙ one))
  where
    equal_some : (x y : X × List ℕ) → Some x ≡ Some y → x ≡ y
    equal_some x y e = cc

pub entity_back : (r : ℕ × ℕ) (rest : List ℕ) → IsEntity r → entity_at (entity_bytes r ++ rest) ≡ Some (r, rest)
unfolding entity_at
entity_back r rest fits =
    ap entity_at (append_assoc (u32_bytes r.0) (u16_bytes r.1) rest) ∙ rw (u32_back r.0 (u16_bytes r.1 ++ rest) fits.id, u16_back r.1 rest fits.template) refl

pub point_back : (p : Point) (rest : List ℕ) → IsPoint p → point_at (point_bytes p ++ rest) ≡ Some (p, rest)
unfolding point_at
point_back p rest fits =
    ap point_at (append_assoc (i32_bytes p.x) (i32_bytes p.z) rest) ∙ rw (i32_back p.x (i32_bytes p.z ++ rest) fits.x, i32_back p.z rest fits.z) refl

pub position_back : (r : ℕ × Point) (rest : List ℕ) → IsPosition r → position_at (position_bytes r ++ rest) ≡ Some (r, rest)
unfolding position_at
position_back r rest fits =
    ap position_at (append_assoc (u32_bytes r.0) (point_bytes r.1) rest) ∙ rw (u32_back r.0 (point_bytes r.1 ++ rest) fits.id, point_back r.1 rest fits.at) refl

pub owner_back : (r : ℕ × ℕ) (rest : List ℕ) → IsOwner r → owner_at (owner_bytes r ++ rest) ≡ Some (r, rest)
unfolding owner_at
owner_back r rest fits =
    ap owner_at (append_assoc (u32_bytes r.0) (r.1 ∷ []) rest) ∙ rw (u32_back r.0 (r.1 ∷ rest) fits.id) refl

pub health_back : (r : ℕ × ℤ) (rest : List ℕ) → IsHealth r → health_at (health_bytes r ++ rest) ≡ Some (r, rest)
unfolding health_at
health_back r rest fits =
    ap health_at (append_assoc (u32_bytes r.0) (i32_bytes r.1) rest) ∙ rw (u32_back r.0 (i32_bytes r.1 ++ rest) fits.id, i32_back r.1 rest fits.health) refl

pub attack_back : (r : ℕ × (ℕ × ℕ)) (rest : List ℕ) → IsAttack r → attack_at (attack_bytes r ++ rest) ≡ Some (r, rest)
unfolding attack_at
attack_back r rest fits =
    let regrouped : attack_bytes r ++ rest ≡ u32_bytes r.0 ++ (u32_bytes r.1.0 ++ (u16_bytes r.1.1 ++ rest)) =
    append_assoc (u32_bytes r.0) (u32_bytes r.1.0 ++ u16_bytes r.1.1) rest ∙ ap (λ (x : List ℕ). u32_bytes r.0 ++ x)
    (append_assoc (u32_bytes r.1.0) (u16_bytes r.1.1) rest) in
    ap attack_at regrouped ∙
    rw (
      u32_back r.0 (u32_bytes r.1.0 ++ (u16_bytes r.1.1 ++ rest)) fits.id,
      u32_back r.1.0 (u16_bytes r.1.1 ++ rest) fits.target,
      u16_back r.1.1 rest
          fits.cooldown,
    ) refl

flag_back : (flag : Bool) → not (eqb (cond flag 1 0) 0) ≡ flag
flag_back true = refl
flag_back false = refl

pub stance_back : (r : ℕ × Bool) (rest : List ℕ) → IsStance r → stance_at (stance_bytes r ++ rest) ≡ Some (r, rest)
unfolding stance_at
stance_back r rest fits =
    ap stance_at (append_assoc (u32_bytes r.0) (flag_bytes r.1) rest) ∙ rw (u32_back r.0 (flag_bytes r.1 ++ rest) fits.id, flag_back r.1) refl

pub points_back : (ps : List Point) (rest : List ℕ) → AllByRecursion IsPoint ps → points_at (length ps) (flat_map point_bytes ps ++ rest) ≡ Some (ps, rest)
unfolding points_at
points_back [] rest fits = refl
points_back (p ∷ ps) rest fits =
    ap (points_at (length (p ∷ ps))) (append_assoc (point_bytes p) (flat_map point_bytes ps) rest) ∙
    rw (point_back p (flat_map point_bytes ps ++ rest) fits.0, points_back ps rest fits.1) refl

going_back : (goal : Point) (way : List Point) (whole : Bool) (rest : List ℕ) → IsMotion (Going goal way whole)
    → motion_at (1 ∷ (point_bytes goal ++ (flag_bytes whole ++ length way ∷ (flat_map point_bytes way ++ rest)))) ≡ Some (Going goal way whole, rest)
unfolding motion_at points_at
going_back goal way whole rest fits =
    let short : ltb 64 (length way) ≡ false = le-ltb _ _ fits.2 in
    rw (point_back goal (flag_bytes whole ++ length way ∷ (flat_map point_bytes way ++ rest)) fits.0, short, points_back way rest fits.1, flag_back whole) refl

pub motion_back : (m : Motion) (rest : List ℕ) → IsMotion m → motion_at (motion_bytes m ++ rest) ≡ Some (m, rest)
unfolding motion_at points_at
motion_back Still rest fits =
    ap motion_at (ap (λ (x : List ℕ). 0 ∷ x) still_bytes) ∙
    rw (point_back (record { x = pos 0; z = pos 0 }) (0 ∷ 0 ∷ rest) (record { x = search rules; z = search rules })) refl
  where
    still_bytes : (i32_bytes (pos 0) ++ (i32_bytes (pos 0) ++ (0 ∷ 0 ∷ []))) ++ rest ≡ point_bytes (record { x = pos 0; z = pos 0 }) ++ 0 ∷ 0 ∷ rest
    still_bytes = simp append_assoc
motion_back (Going goal way whole) rest fits =
    let regrouped : motion_bytes (Going goal way whole) ++ rest ≡ 1 ∷
    (point_bytes goal ++ (flag_bytes whole ++ length way ∷ (flat_map point_bytes way ++ rest))) =
    ap (λ (x : List ℕ). 1 ∷ x) (append_assoc (point_bytes goal) (flag_bytes whole ++ length way ∷ flat_map point_bytes way) rest) in
    ap motion_at regrouped ∙ going_back goal way whole rest fits

pub moving_back : (r : ℕ × Motion) (rest : List ℕ) → IsMoving r → moving_at (moving_bytes r ++ rest) ≡ Some (r, rest)
unfolding moving_at
moving_back r rest fits =
    ap moving_at (append_assoc (u32_bytes r.0) (motion_bytes r.1) rest) ∙ rw (u32_back r.0 (motion_bytes r.1 ++ rest) fits.id, motion_back r.1 rest fits.motion)
    refl

-- How many bytes a row has in each section: at most 527, which a motion with a way of 64 waypoints has.

-- a row of a state is spelled in at most 527 bytes
abbrev pub IsFew : {X : Type 0} → (ℕ × X → List ℕ) → Option (ℕ × X) → Type 0
IsFew spelled o = IfSome o (λ found. length (spelled found) ≤ 527)

-- the parts of a row, by whether it has them
few_of : {X : Type 0} (spelled : ℕ × X → List ℕ) (id : ℕ) (part : Option X) → IfSome part (λ x. length (spelled (id, x)) ≤ 527)
    → IsFew spelled (option_map (λ (x : X). (id, x)) part)
few_of spelled id None h = tt
few_of spelled id (Some x) h = h

always : {X : Type 0} (spelled : ℕ × X → List ℕ) (id : ℕ) (part : Option X) → ((x : X) → length (spelled (id, x)) ≤ 527)
    → IsFew spelled (option_map (λ (x : X). (id, x)) part)
always spelled id None h = tt
always spelled id (Some x) h = h x

length-point_bytes : (p : Point) → length (point_bytes p) ≡ 8
length-point_bytes p = omega (arith, length-append (i32_bytes p.x) (i32_bytes p.z), length-i32_bytes p.x, length-i32_bytes p.z)

length-points : (way : List Point) → length (flat_map point_bytes way) ≡ 8 * length way
length-points [] = refl
length-points (p ∷ way) = omega (arith, length-append (point_bytes p) (flat_map point_bytes way), length-point_bytes p, length-points way)

pub entity_few : (row : Row) → HasShortWay row → IsFew entity_bytes (with_id entity_part row)
entity_few row short = omega (arith, length-append (u32_bytes row.id) (u16_bytes row.template), length-u32_bytes row.id, length-u16_bytes row.template)

pub position_few : (row : Row) → HasShortWay row → IsFew position_bytes (with_id position_part row)
position_few row short = omega (arith, length-append (u32_bytes row.id) (point_bytes row.at), length-u32_bytes row.id, length-point_bytes row.at)

pub owner_few : (row : Row) → HasShortWay row → IsFew owner_bytes (with_id owner_part row)
owner_few row short = omega (arith, length-append (u32_bytes row.id) (row.owner ∷ []), length-u32_bytes row.id)

pub health_few : (row : Row) → HasShortWay row → IsFew health_bytes (with_id health_part row)
health_few row short = always health_bytes row.id row.health
    (λ h. omega (arith, length-append (u32_bytes row.id) (i32_bytes h), length-u32_bytes row.id, length-i32_bytes h))

pub attack_few : (row : Row) → HasShortWay row → IsFew attack_bytes (with_id attack_part row)
attack_few row short = always attack_bytes row.id (attack_part row) (λ x. omega (
  arith,
  length-append (u32_bytes row.id) (u32_bytes x.0 ++ u16_bytes x.1),
  length-append (u32_bytes x.0) (u16_bytes x.1),
  length-u32_bytes row.id,
  length-u32_bytes x.0,
  length-u16_bytes x.1,
))

pub stance_few : (row : Row) → HasShortWay row → IsFew stance_bytes (with_id stance_part row)
stance_few row short = always stance_bytes row.id (stance_part row)
    (λ x. omega (arith, length-append (u32_bytes row.id) (flag_bytes x), length-u32_bytes row.id))

length-motion_bytes : (m : Motion) → IsShort m → length (motion_bytes m) ≤ 523
length-motion_bytes Still short =
    let rest : List ℕ = 0 ∷ 0 ∷ [] in
    omega (arith, length-append (i32_bytes (pos 0)) (i32_bytes (pos 0) ++ rest), length-append (i32_bytes (pos 0)) rest, length-i32_bytes (pos 0))
length-motion_bytes (Going goal way whole) short =
    let points = flat_map point_bytes way in
    let rest = flag_bytes whole ++ length way ∷ points in
    omega (arith, length-append (point_bytes goal) rest, length-point_bytes goal, length-append (flag_bytes whole) (length way ∷ points), length-points way)

pub length-moving_bytes : (r : ℕ × Motion) → IsShort r.1 → length (moving_bytes r) ≤ 527
length-moving_bytes r short = omega (arith, length-append (u32_bytes r.0) (motion_bytes r.1), length-u32_bytes r.0, length-motion_bytes r.1 short)

pub moving_few : (row : Row) → HasShortWay row → IsFew moving_bytes (with_id motion_part row)
moving_few row short = few_of moving_bytes row.id row.motion (by_part row.motion short)
  where
    by_part : (part : Option Motion) → IfSome part IsShort → IfSome part (λ m. length (moving_bytes (row.id, m)) ≤ 527)
    by_part None h = tt
    by_part (Some m) h = length-moving_bytes (row.id, m) h
