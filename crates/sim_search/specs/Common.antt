-- The words of other crates that the files here name again and again, passed on from one place. Declares nothing.
pub use Rattle.sim_base.specs.{declared.place.Cell.Cell, Places.{beside_open, Field, is_free, is_straight, IsOnGround, IsStep, neighbour, octile, Size}}
pub use Rattle.{sim_base.specs.{Places.step_cost, Ways.{IsCost, Walk}}, sim_grid.specs.Grids.{field_of_grid, place_of}, std.specs.Int.bit_at}
