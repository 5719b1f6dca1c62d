-- The server as a talk: what is answered to a line behind all that has arrived, and what a whole talk is.
use Rattle.{hex.specs.Hex.encode_lower, sim_base.specs.Limits.IsFrom, sim_live.specs.Arrived.{arriving_of, plain_of}}
use Rattle.{sim_live.specs.declared.{arriving.Arriving.Arriving, relaying.RelayRules.RelayRules}, sim_plain.specs.declared.message.PostOf.PostOf}
use Rattle.{sim_plain.specs.{declared.rules.Rules.Rules, Messages.Arrival, Server.{posts_of, Server, server_after}}, sim_report.specs.Downs.released_line}
use Rattle.{sim_server.specs.Standing.{StandsFor, View}, sim_session.specs.Served.kept_lines, sim_talk.specs.declared.fault.TalkFault.TalkFault}
use Rattle.{sim_talk.specs.{Dialogues.{after_lines, AnswersLines, Converses}, Marks.{ok_line, refused_line}, Talks.History}, sim_wire.specs.Reading.down_frame}
use Rattle.std.specs.Prelude.{codes, decimal, Err, flat_map, length, List, None, Ok, Option, Result, Some, ℕ, ⊤, [], ◌++◌, ◌+◌, ◌∷◌, ◌≡◌, ◌≤◌}

-- who gets a message, and its frame
abbrev pub frame_line : PostOf (List ℕ) → List ℕ
frame_line post = codes "post " ++ (decimal post.to ++ (codes " " ++ (encode_lower (down_frame post.down) ++ codes "\n")))

-- what is answered to an arrival behind others, the newest of which is the first here; anything else is refused
abbrev pub answer_to : Rules → ℕ → List (Arrival (List ℕ)) → Option Arriving → List ℕ
answer_to rules active h None = refused_line (length h + 1)
answer_to rules active h (Some a) = flat_map frame_line (posts_of rules (server_after rules active h) (plain_of a)) ++ ok_line (length h + 1)

-- all that has arrived then
abbrev pub heard_with : List (Arrival (List ℕ)) → Option Arriving → List (Arrival (List ℕ))
heard_with h None = h
heard_with h (Some a) = plain_of a ∷ h

-- the same of the bytes of a line
abbrev pub answer : Rules → ℕ → List (Arrival (List ℕ)) → List ℕ → List ℕ
answer rules active h line = answer_to rules active h (arriving_of rules.clients line)

abbrev pub next : Rules → List (Arrival (List ℕ)) → List ℕ → List (Arrival (List ℕ))
next rules h line = heard_with h (arriving_of rules.clients line)

-- what the server has released, and how many commands it keeps of which turn
abbrev pub end_lines : Server → ℕ → List ℕ
end_lines s turns = released_line s.released ++ kept_lines s.kept turns

abbrev pub last_text : Rules → ℕ → List (Arrival (List ℕ)) → List ℕ
last_text rules active h = end_lines (server_after rules active h) rules.turns

-- what is released in the beginning
abbrev pub first_text : Rules → ℕ → List ℕ
first_text rules active = released_line (server_after {B = List ℕ} rules active []).released

-- the rules of the server
abbrev pub rules_of : RelayRules → Rules
rules_of relay = record { clients = relay.clients; delay = relay.delay; turns = relay.turns }

-- the limits of a schedule
pub record IsRelay (relay : RelayRules) : Type 0 where
  pub clients : IsFrom 1 8 relay.clients
  pub active : relay.active ≤ relay.clients
  pub delay : IsFrom 1 8 relay.delay
  pub turns : relay.turns ≤ 65535

-- a talk with the server
abbrev pub Relays : Result ⊤ TalkFault → RelayRules → History → History → Type 0
Relays result relay old new =
    Converses result (answer (rules_of relay) relay.active) (next (rules_of relay)) (last_text (rules_of relay) relay.active) []
    (first_text (rules_of relay) relay.active) old new

-- where all lines were answered, the server stands for all that has arrived
abbrev pub StandsAfter : Result ⊤ TalkFault → RelayRules → View → List (List ℕ) → Type 0
StandsAfter (Ok done) relay server lines = (server.rules ≡ rules_of relay) × StandsFor server relay.active (after_lines (next (rules_of relay)) [] lines)
StandsAfter (Err fault) relay server lines = Unit {0}

-- some lines were answered; or it stopped, with at most one line more
abbrev pub AnswersAll : Result ⊤ TalkFault → RelayRules → View → History → History → Type 0
AnswersAll result relay server old new =
    (lines : List (List ℕ)) × StandsAfter result relay server lines × AnswersLines result (answer (rules_of relay) relay.active) (next (rules_of relay)) []
    lines old new
