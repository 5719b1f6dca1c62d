-- What is printed of a schedule: all that the server says at its arrivals, and what the server has come to.
use Rattle.sim_plain.specs.{Messages.Arrival, Server.Server, Server.served, Server.server_after, declared.rules.Rules.Rules}
use Rattle.std.specs.Prelude.{List, [], flat_map, length, map, suc, zero, ℕ, ◌++◌, ◌==◌, ◌∷◌}
use Rattle.{sim_base.specs.declared.command.PlayerCommand.PlayerCommand, sim_lists.specs.declared.schedule.Schedule.Schedule, sim_report.specs.Downs.kept_line}
use Rattle.{sim_lists.specs.Arrivals.plain_arrival, sim_report.specs.Downs.post_line, sim_report.specs.Downs.released_line, std.specs.Prelude.if◌then◌else◌}

-- arrivals behind those that came before, the newest first
abbrev pub history : {B : Type 0} → List (Arrival B) → List (Arrival B) → List (Arrival B)
history h [] = h
history h (a ∷ rest) = history (a ∷ h) rest

-- what the server must know of the match of a schedule
abbrev pub rules_of : Schedule → Rules
rules_of schedule = record { clients = schedule.clients; delay = schedule.delay; turns = schedule.turns }

-- the arrivals of a schedule, in order
abbrev pub arrivals_of : Schedule → List (Arrival (List ℕ))
arrivals_of schedule = map plain_arrival schedule.arrivals

-- the server after all of them
abbrev pub server_of : Schedule → Server
server_of schedule = server_after (rules_of schedule) schedule.active (history [] (arrivals_of schedule))

-- the line of a turn, if commands are kept of it: so many
abbrev pub kept_of : ℕ → ℕ → List ℕ
kept_of turn count = if count == 0 then [] else kept_line turn count

-- the lines of turns 1 to n
abbrev pub kept_lines : (ℕ → List PlayerCommand) → ℕ → List ℕ
kept_lines kept zero = []
kept_lines kept (suc n) = kept_lines kept n ++ kept_of (suc n) (length (kept (suc n)))

-- a line of each message, by arrival and then by receiver
abbrev pub said_lines : Rules → ℕ → List (Arrival (List ℕ)) → List (Arrival (List ℕ)) → List ℕ
said_lines rules active h arrivals = flat_map post_line (served rules active h arrivals)

-- the whole text
abbrev pub served_text : Schedule → List ℕ
served_text schedule =
    said_lines (rules_of schedule) schedule.active [] (arrivals_of schedule)
    ++ (released_line (server_of schedule).released ++ kept_lines (server_of schedule).kept schedule.turns)
