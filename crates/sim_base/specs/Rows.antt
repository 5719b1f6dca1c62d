-- What is read of a row, by itself and beside its template.
use Rattle.sim_base.specs.declared.{place.Rect.Rect, setup.{Land.Land, Setup.Setup}, state.{Aim.Aim, Motion.{Motion, TheVariants.{Going, Still}}, Row.Row}}
use Rattle.{sim_base.specs.{declared.{state.State.State, template.{Arms.Arms, Base.Base, Template.Template}}, Places.{rect_of, Size}}, std.specs.Prelude.Bool}
use Rattle.std.specs.Prelude.{false, find, None, Option, option_and_then, option_map, slice_get, slice_index, Some, true, unwrap_or, ℕ, ℤ, ◌%◌, ◌/◌, ◌==◌, ◌^◌}

abbrev pub id_of : Row → ℕ
id_of row = row.id

-- whom a row attacks, or 0
abbrev pub target_of : Row → ℕ
target_of row = unwrap_or (option_map (λ (aim : Aim). aim.target) row.attack) 0

-- a row that can attack and holds its place: it takes only targets within its range, and chases none
abbrev pub is_holding : Row → Bool
is_holding row = unwrap_or (option_map (λ (aim : Aim). aim.hold) row.attack) false

-- a motion that has a goal
abbrev pub is_going : Option Motion → Bool
is_going None = false
is_going (Some Still) = false
is_going (Some (Going goal way whole)) = true

-- the row with this id, if it is alive
abbrev pub row_of : State → ℕ → Option Row
row_of state id = find (λ row. row.id == id) state.rows

-- the template of a row, if its number is known
abbrev pub template_of : Setup → Row → Option Template
template_of setup row = slice_get setup.templates row.template

-- the speed of a row that can move
abbrev pub speed_of : Setup → Row → Option ℤ
speed_of setup row = option_and_then (λ (t : Template). t.speed) (template_of setup row)

-- the attack of a row that can attack
abbrev pub arms_of : Setup → Row → Option Arms
arms_of setup row = option_and_then (λ (t : Template). t.arms) (template_of setup row)

-- where a row lies, if it is an obstruction
abbrev pub rect_of_row : Setup → Row → Option Rect
rect_of_row setup row =
    option_map (λ (base : Base). rect_of row.at base.width base.depth) (option_and_then (λ (t : Template). t.obstruct) (template_of setup row))

-- the size of a ground
abbrev pub size_of : Land → Size
size_of land = record { width = land.width; depth = land.depth }

-- bit p of a mask stands for owner p
abbrev pub in_mask : ℕ → ℕ → Bool
in_mask mask owner = mask / 2 ^ owner % 2 == 1

-- the enemies of an owner, as a mask
abbrev pub enemies_of : Setup → ℕ → ℕ
enemies_of setup owner = slice_index setup.land.masks owner
