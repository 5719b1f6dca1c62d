-- The words of other crates that the files here name again and again, passed on from one place. Declares nothing.
pub use Rattle.sim_base.specs.Commands.{applied, applied_all, commanded, has_room, is_enemy, is_near, is_ordered, is_placeable, spot, trains}
pub use Rattle.sim_base.specs.declared.change.Change.{Change, TheVariants.Tick}
pub use Rattle.sim_base.specs.declared.command.{Command.{Command, TheVariants.{Attack, Delete, Place, Resign, Stop, Train, Walk}}, PlayerCommand.PlayerCommand}
pub use Rattle.sim_base.specs.declared.{place.{Cell.Cell, Point.Point}, setup.Setup.Setup, state.{Aim.Aim, Motion.{Motion, TheVariants.{Going, Still}}}}
pub use Rattle.sim_base.specs.{declared.{state.{Row.Row, State.State}, template.{Arms.Arms, Template.Template}}, Limits.{IsInside, IsLooselyValid, IsRawFrom}}
pub use Rattle.sim_base.specs.{Limits.{IsSetup, IsValid, IsValidAim, IsValidMotion, row_limit}, Places.{centre_of, is_inside, IsPlaced, Size}}
pub use Rattle.sim_base.specs.{Rows.{arms_of, enemies_of, id_of, in_mask, is_going, is_holding, row_of, size_of, speed_of, target_of, template_of}, Turn.aimed}
pub use Rattle.sim_base.specs.Turn.{gone, Hit, hit, hitting, is_idle, is_spent, lets_go, moved, moved_row, resist_of, same_point, taken_from, target_for, turn}
pub use Rattle.{sim_laws.specs.TurnLaws.IsOrderOf, std.specs.{Bool.beq, Int.int_max, List.Sorted.IsStrictlyIncreasing}}
