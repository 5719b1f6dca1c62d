-- The words of other crates that the files here name again and again, passed on from one place. Declares nothing.
pub use Rattle.sim_base.specs.declared.{place.Cell.Cell, setup.Setup.Setup, state.State.State, template.{Base.Base, Template.Template}}
pub use Rattle.sim_base.specs.{Limits.{IsSetup, IsValid, row_limit}, Places.{cell_at, cells_of, IsOnGround, neighbour, octile, Size}, Rows.size_of}
pub use Rattle.{sim_grid.specs.Grids.place_of, sim_trail.specs.declared.{mark.Mark.Mark, shift.Shift.{Shift, TheVariants.{Born, Gone}}}}
pub use Rattle.{sim_trail.specs.Shifts.{marks_of, weight_born, weight_gone}, std.specs.{Int.abs_diff, List.{list_all, range_with_len}}}
