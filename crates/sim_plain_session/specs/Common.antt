-- The words of other crates that the files here name again and again, passed on from one place. Declares nothing.
pub use Rattle.sim_base.specs.declared.{command.{Command.Command, PlayerCommand.PlayerCommand}, setup.Setup.Setup, state.State.State}
pub use Rattle.sim_base.specs.{declared.step.{Event.Event, Step.Step}, Rows.row_of, Spelling.{is_full_turn, mark, spelling}, Turn.{after, Bend, bent, may_bend}}
pub use Rattle.{sim_base.specs.Turn.{Past, Turn, turn, turns_in}, sim_plain.specs.declared.{message.{DownOf.DownOf, UpOf.UpOf}, rules.Rules.Rules}}
pub use Rattle.sim_plain.specs.{Messages.{Arrival, carry_arrival, carry_down, carry_up, Cut, Heard}, Server.{differs, heard, noticed, notices, opening, Posts}}
pub use Rattle.{sim_plain.specs.Server.{posts, put, report_fault, Server, server_after, up_to}, std.specs.List.enumerate_from}
unfoldable pub use Rattle.sim_base.specs.Spelling.{digest, quick}
