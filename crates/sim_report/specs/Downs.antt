-- The messages of the server as text, and the lines of what it has come to.
use Rattle.sim_base.specs.declared.command.Command.TheVariants as command
use Rattle.sim_plain.specs.declared.message.DownOf.TheVariants.{Ask, Command as OfTurn, Notice, Refused, Release, State}
use Rattle.std.specs.Prelude.{List, [], codes, decimal, flat_map, length, ℕ, ◌++◌, ◌∷◌}
use Rattle.{sim_base.specs.declared.command.Command.Command, sim_base.specs.declared.command.PlayerCommand.PlayerCommand, sim_report.specs.Lines.report_kind}
use Rattle.{sim_plain.specs.declared.message.DownOf.DownOf, sim_plain.specs.declared.message.PostOf.PostOf, sim_report.specs.Show.point_text}

-- a comma and an id
abbrev pub next_id : ℕ → List ℕ
next_id id = codes "," ++ decimal id

-- ids between commas, and a dash for none
abbrev pub ids_text : List ℕ → List ℕ
ids_text [] = codes "-"
ids_text (id ∷ ids) = decimal id ++ flat_map next_id ids

-- a command: its kind, and what it has
abbrev pub command_text : Command → List ℕ
command_text (command.Walk ids to) = codes "walk " ++ (ids_text ids ++ (codes " to " ++ point_text to))
command_text (command.Stop ids) = codes "stop " ++ ids_text ids
command_text (command.Attack ids target) = codes "attack " ++ (ids_text ids ++ (codes " on " ++ decimal target))
command_text (command.Delete ids) = codes "delete " ++ ids_text ids
command_text (command.Place template at) = codes "place " ++ (decimal template ++ (codes " at " ++ point_text at))
command_text (command.Train building template) = codes "train " ++ (decimal building ++ (codes " " ++ decimal template))
command_text command.Resign = codes "resign"

-- a player, and what it commands
abbrev pub order_text : PlayerCommand → List ℕ
order_text order = codes " player " ++ (decimal order.player ++ (codes " " ++ command_text order.command))

-- a turn, and what a player commands in it
abbrev pub turn_order_text : ℕ → PlayerCommand → List ℕ
turn_order_text turn order = codes "command turn " ++ (decimal turn ++ order_text order)

-- a report of this turn by this client differs from the turn's first, and of which kind such reports are
abbrev pub notice_text : ℕ → ℕ → List ℕ
notice_text turn client = codes "notice " ++ (decimal turn ++ (codes " " ++ (decimal client ++ report_kind turn)))

-- a message; of a state, how many bytes it has
abbrev pub down_text : DownOf (List ℕ) → List ℕ
down_text (Ask client) = codes "ask " ++ decimal client
down_text (State done bytes) = codes "state done " ++ (decimal done ++ (codes " bytes " ++ decimal (length bytes)))
down_text (OfTurn turn order) = turn_order_text turn order
down_text (Release turn) = codes "release " ++ decimal turn
down_text (Notice turn client) = notice_text turn client
down_text (Refused code) = codes "refused " ++ decimal code

-- a line of who is told a message
abbrev pub post_line : PostOf (List ℕ) → List ℕ
post_line post = codes "to " ++ (decimal post.to ++ (codes " " ++ (down_text post.down ++ codes "\n")))

-- how many turns are released
abbrev pub released_line : ℕ → List ℕ
released_line released = codes "released " ++ (decimal released ++ codes "\n")

-- of which turn how many commands are kept
abbrev pub kept_line : ℕ → ℕ → List ℕ
kept_line turn count = codes "kept " ++ (decimal turn ++ (codes " " ++ (decimal count ++ codes "\n")))
