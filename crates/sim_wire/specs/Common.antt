-- The words of other crates that the files here name again and again, passed on from one place. Declares nothing.
pub use Rattle.sim_base.specs.{declared.command.Command.{Command, TheVariants.{Attack, Delete, Place, Resign, Stop, Train, Walk}}, Limits.HasFewIds}
pub use Rattle.{sim_base.specs.Spelling.point_bytes, sim_bytes.specs.{Reading.{byte_at, number_at, Reader, Reads}, Rows.IsPoint, Telling.Tells}}
pub use Rattle.{sim_plain.specs.{declared.message.{DownOf.DownOf, UpOf.UpOf}, Messages.{Arrival, Cut, Heard}}, std.specs.{Int.{w16, w32}, List.AllByRecursion}}
unfoldable pub use Rattle.{sim_base.specs.Spelling.{u16_bytes, u32_bytes}, sim_bytes.specs.Rows.point_at}
