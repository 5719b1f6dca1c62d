-- What is recorded of a session: the kept commands of each turn that was released.
use Rattle.{sim_base.specs.declared.command.PlayerCommand.PlayerCommand, std.specs.List.range_with_len, std.specs.Prelude.List, std.specs.Prelude.map}
use Rattle.sim_plain_session.specs.Sessions.{Session}

-- the commands of the turns from 1 to the last released one
abbrev pub released_turns : Session → List (List PlayerCommand)
released_turns s = map s.server.kept (range_with_len 1 s.server.released)
