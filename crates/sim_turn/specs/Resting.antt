-- Rows that go through a turn as they are.
use Rattle.{sim_base.specs.{declared.state.{Aim.Aim, Motion.Motion, Row.Row}, Turn.is_spent}, std.specs.Prelude.{Bool, false, None, not, Option, Some, ℤ}}

abbrev pub is_resting_by : Option Motion → Option Aim → Option ℤ → Bool
is_resting_by None None health = not (is_spent health)
is_resting_by None (Some aim) health = false
is_resting_by (Some motion) attack health = false

-- a row that can neither move nor attack, and has not lost its health
abbrev pub is_resting : Row → Bool
is_resting row = is_resting_by row.motion row.attack row.health
