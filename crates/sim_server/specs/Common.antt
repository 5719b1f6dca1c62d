-- The words of other crates that the files here name again and again, passed on from one place. Declares nothing.
pub use Rattle.sim_base.specs.{declared.{command.PlayerCommand.PlayerCommand, memory.OutOfMemory.OutOfMemory}, Limits.HasFewIds}
pub use Rattle.sim_plain.specs.declared.message.{DownOf.TheVariants.{Ask, Command, Notice, Refused, Release, State}, PostOf.PostOf, UpOf.UpOf}
pub use Rattle.sim_plain.specs.{declared.{rules.Rules.Rules, status.Status.{Status, TheVariants.{In, Out}}}, Messages.{Arrival, Cut, Heard}}
pub use Rattle.sim_plain.specs.Server.{asked, command_fault, crowd_fault, differs, done_fault, entry_done, first_of, first_or, heard, is_by, is_in, is_out}
pub use Rattle.sim_plain.specs.Server.{kept_above, least_done, least_in, lesser, nobody, post_list, posted_to, Posts, posts, posts_of, put, raised, raised_to}
pub use Rattle.sim_plain.specs.Server.{release, report_fault, seat, Server, server_after, takes_state, to_all, turn_fault, up_to, waits_for, with_status}
pub use Rattle.{sim_wire.specs.{Memory.{raw, up_carries}, Reading.{IsSmallDown, IsSmallUp, IsUpFrame}}, std.specs.List.AllByRecursion}
