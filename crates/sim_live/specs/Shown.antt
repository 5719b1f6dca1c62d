-- What is answered to a look at a session.
use Rattle.sim_live.specs.declared.look.Look.TheVariants as look
use Rattle.{hex.specs.Hex.encode_lower, sim_base.specs.{declared.{setup.Setup.Setup, state.State.State}, Spelling.spelling}}
use Rattle.{sim_live.specs.declared.look.Look.Look, sim_plain_session.specs.Sessions.Session, sim_report.specs.Show.show_text}
use Rattle.sim_session.specs.{declared.ending.End.End, Endings.{end_line, end_of, of_client, pipe_lines}, Laws.{server_lines, state_at}}
use Rattle.std.specs.Prelude.{codes, List, None, Option, Some, ℕ, ◌++◌}

-- a client that has a state, row by row; any other as it would be in the end
abbrev pub shown_as : Setup → ℕ → End → Option State → List ℕ
shown_as setup c end None = end_line c end
shown_as setup c end (Some state) = show_text setup state

-- the bytes of a state
abbrev pub bytes_line : Setup → ℕ → State → List ℕ
bytes_line setup c state = of_client (codes "state") c ++ (encode_lower (spelling setup state) ++ codes "\n")

-- a client that has a state by its bytes; any other as it would be in the end
abbrev pub told_as : Setup → ℕ → End → Option State → List ℕ
told_as setup c end None = end_line c end
told_as setup c end (Some state) = bytes_line setup c state

-- what a session shows
abbrev pub look_text : Setup → Session → Look → List ℕ
look_text setup s (look.Digest c) = end_line c (end_of setup (s.client c))
look_text setup s (look.Show c) = shown_as setup c (end_of setup (s.client c)) (state_at setup (s.client c))
look_text setup s (look.State c) = told_as setup c (end_of setup (s.client c)) (state_at setup (s.client c))
look_text setup s look.Pipes = pipe_lines setup s
look_text setup s look.Kept = server_lines setup s.server
