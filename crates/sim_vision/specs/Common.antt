-- The words of other crates that the files here name again and again, passed on from one place. Declares nothing.
pub use Rattle.sim_base.specs.declared.{place.Cell.Cell, setup.Setup.Setup, state.{Row.Row, State.State}, template.{Arms.Arms, Template.Template}}
pub use Rattle.sim_base.specs.{Limits.{IsArms, IsSetup, IsValid}, Places.{cell_of, cells_of, IsOnGround, IsRoot, Size, unit}, Rows.size_of}
pub use Rattle.sim_trail.specs.{declared.{mark.Mark.Mark, shift.Shift.{Shift, TheVariants.{Born, Gone}}}, Shifts.{born, gone, weight_born, weight_gone}}
pub use Rattle.std.specs.{Int.abs_diff, List.{list_all, list_any, range_with_len}}
