-- The rows of the sections as they are read: for each an id and a part, with the bytes that follow.
use Rattle.sim_base.specs.{declared.{place.Point.Point, state.{Motion.{Motion, TheVariants.{Going, Still}}, Row.Row}}, Limits.waypoint_limit}
use Rattle.sim_bytes.specs.{declared.version.Version.{TheVariants.{One, Two}, Version}, Reading.{byte_at, number_at, Reader, signed_at}}
use Rattle.sim_bytes.specs.Reading.{◌>>=◌}
use Rattle.std.specs.{Int.{cast_signed, from_le_bytes, w16, w32}, List.AllByRecursion, Prelude.{Bool, drop, false, FitsSigned, IfSome, if◌then◌else◌, length}}
use Rattle.std.specs.Prelude.{List, nat_lt, None, not, Option, option_map, Some, suc, take, true, zero, ℕ, ℤ, [], ◌<◌, ◌==◌, ◌^◌, ◌∷◌, ◌≤◌}

-- a part beside the id of its row
abbrev pub with_id : {X : Type 0} → (Row → Option X) → Row → Option (ℕ × X)
with_id part row = option_map (λ x. (row.id, x)) (part row)

-- a way of no more waypoints than it may have
abbrev pub IsShort : Motion → Type 0
IsShort Still = Unit {0}
IsShort (Going goal way whole) = length way ≤ waypoint_limit

-- a row that has no longer way
abbrev pub HasShortWay : Row → Type 0
HasShortWay row = IfSome row.motion IsShort

-- ---- entity

-- the numbers fit their bytes
pub record IsEntity (r : ℕ × ℕ) : Type 0 where
  pub id : r.0 < 2 ^ 32
  pub template : r.1 < 2 ^ 16

-- reads an id and a template
unfoldable pub entity_at : Reader (ℕ × ℕ)
entity_at bytes = number_at w32 bytes >>= λ id. number_at w16 id.1 >>= λ template. Some ((id.0, template.0), template.1)

-- ---- position

-- both coordinates fit four bytes
pub record IsPoint (p : Point) : Type 0 where
  pub x : FitsSigned w32 p.x
  pub z : FitsSigned w32 p.z

-- reads x and z
unfoldable pub point_at : Reader Point
point_at bytes = signed_at bytes >>= λ x. signed_at x.1 >>= λ z. Some (record { x = x.0; z = z.0 }, z.1)

-- the point in the eight bytes of x and z
abbrev pub point_in : List ℕ → Point
point_in bytes = record { x = cast_signed w32 (from_le_bytes w32 (take 4 bytes)); z = cast_signed w32 (from_le_bytes w32 (take 4 (drop 4 bytes))) }

-- the id and the point fit
pub record IsPosition (r : ℕ × Point) : Type 0 where
  pub id : r.0 < 2 ^ 32
  pub at : IsPoint r.1

-- reads an id and a point
unfoldable pub position_at : Reader (ℕ × Point)
position_at bytes = number_at w32 bytes >>= λ id. point_at id.1 >>= λ at. Some ((id.0, at.0), at.1)

-- ---- owner

-- the numbers fit their bytes
pub record IsOwner (r : ℕ × ℕ) : Type 0 where
  pub id : r.0 < 2 ^ 32
  pub owner : r.1 < 2 ^ 8

-- reads an id and an owner
unfoldable pub owner_at : Reader (ℕ × ℕ)
owner_at bytes = number_at w32 bytes >>= λ id. byte_at id.1 >>= λ owner. Some ((id.0, owner.0), owner.1)

-- ---- health

-- the numbers fit their bytes
pub record IsHealth (r : ℕ × ℤ) : Type 0 where
  pub id : r.0 < 2 ^ 32
  pub health : FitsSigned w32 r.1

-- reads an id and a health
unfoldable pub health_at : Reader (ℕ × ℤ)
health_at bytes = number_at w32 bytes >>= λ id. signed_at id.1 >>= λ health. Some ((id.0, health.0), health.1)

-- ---- motion

-- the points fit, and the way is short
abbrev pub IsMotion : Motion → Type 0
IsMotion Still = Unit {0}
IsMotion (Going goal way whole) = IsPoint goal × AllByRecursion IsPoint way × (length way ≤ waypoint_limit)

-- the id and the motion fit
pub record IsMoving (r : ℕ × Motion) : Type 0 where
  pub id : r.0 < 2 ^ 32
  pub motion : IsMotion r.1

-- reads so many bytes
abbrev pub front_at : ℕ → Reader (List ℕ)
front_at n bytes = if nat_lt (length bytes) n then None else Some (take n bytes, drop n bytes)

-- reads so many points
unfoldable pub points_at : ℕ → Reader (List Point)
points_at zero bytes = Some ([], bytes)
points_at (suc n) bytes = point_at bytes >>= λ first. points_at n first.1 >>= λ others. Some (first.0 ∷ others.0, others.1)

-- a motion of what was read
abbrev pub made_motion : Bool → Point → List Point → Bool → Motion
made_motion going goal way whole = if going then Going goal way whole else Still

-- every mode but 0 is read as going, and every whole but 0 as yes
unfoldable pub motion_at : Reader Motion
motion_at bytes =
    byte_at bytes >>= λ mode. point_at mode.1 >>= λ goal. byte_at goal.1 >>= λ whole. byte_at whole.1 >>= λ count.
    if nat_lt waypoint_limit count.0 then None
    else (points_at count.0 count.1 >>= λ way. Some (made_motion (not (mode.0 == 0)) goal.0 way.0 (not (whole.0 == 0)), way.1))

-- reads an id and a motion
unfoldable pub moving_at : Reader (ℕ × Motion)
moving_at bytes = number_at w32 bytes >>= λ id. motion_at id.1 >>= λ motion. Some ((id.0, motion.0), motion.1)

-- ---- attack

-- the numbers fit their bytes
pub record IsAttack (r : ℕ × (ℕ × ℕ)) : Type 0 where
  pub id : r.0 < 2 ^ 32
  pub target : r.1.0 < 2 ^ 32
  pub cooldown : r.1.1 < 2 ^ 16

-- reads an id, a target and a cooldown
unfoldable pub attack_at : Reader (ℕ × (ℕ × ℕ))
attack_at bytes = number_at w32 bytes >>= λ id. number_at w32 id.1 >>= λ target. number_at w16 target.1 >>= λ cooldown. Some
    ((id.0, (target.0, cooldown.0)), cooldown.1)

-- ---- stance

-- the id fits its bytes
pub record IsStance (r : ℕ × Bool) : Type 0 where
  pub id : r.0 < 2 ^ 32

-- reads an id and whether it holds; every byte but 0 is read as yes
unfoldable pub stance_at : Reader (ℕ × Bool)
stance_at bytes = number_at w32 bytes >>= λ id. byte_at id.1 >>= λ hold. Some ((id.0, not (hold.0 == 0)), hold.1)

-- The versions of the layout of a stored state.

-- the number that stands behind the magic
abbrev pub number_of : Version → ℕ
number_of One = 1
number_of Two = 2

-- version 2 says who holds its place
abbrev pub has_stances : Version → Bool
has_stances One = false
has_stances Two = true
