-- The words of other crates that the files here name again and again, passed on from one place. Declares nothing.
pub use Rattle.sim_base.specs.declared.{setup.Setup.Setup, step.Event.Event}
pub use Rattle.sim_plain.specs.declared.{message.{DownOf.DownOf, PostOf.PostOf, UpOf.UpOf}, rules.Rules.Rules}
pub use Rattle.sim_plain.specs.{Messages.{Arrival, carry_down, carry_up, Cut, Heard, sender}, Server.{heard, notice_in, noticed, posts, posts_of, put, Server}}
pub use Rattle.sim_plain_session.specs.{Clients.{Acted, Down}, Pasts.rules_of, Sessions.{acts, cut, downs_of, opened, rise_events, rises, Session, spelled}}
pub use Rattle.{sim_plain_session.specs.Sessions.ups_of, sim_server.specs.Standing.{IsClient, IsSilent, IsSmallServer, server_of, View}}
pub use Rattle.sim_wire.specs.{Memory.{down_carries, up_carries}, Reading.{IsDownFrame, IsSmallDown, IsSmallUp, IsUpFrame}}
