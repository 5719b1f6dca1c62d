-- The words of a talk, and what they ask for.
use Rattle.sim_edge.specs.declared.asking.Asked.{Asked, TheVariants.{Live, Relay}}
use Rattle.std.specs.{Prelude.{codes, if◌then◌else◌, List, nat_le, None, Option, option_and_then, option_map, Some, ℕ, [], ◌&&◌, ◌∷◌}, Str.bytes_eq}
use Rattle.{sim_json.specs.Commands.next_or, sim_live.specs.declared.relaying.RelayRules.RelayRules as Rules, sim_top.specs.Words.turn_in}

-- what is asked for: a session of the match of a file, that begins with so many clients; or the server
pub data Talk : Type 0 where
  to_live : List ℕ → ℕ → Talk
  to_relay : Rules → Talk

-- the request of the code, with its name as bytes
abbrev pub talk_of : Asked → Talk
talk_of (Live game clients) = to_live game.now clients
talk_of (Relay rules) = to_relay rules

-- a number, where it is within the limits
abbrev pub if_within : ℕ → ℕ → ℕ → Option ℕ
if_within low high n = if nat_le low n && nat_le n high then Some n else None

-- a word of one to nine digits, where its number is within the limits
abbrev pub number_in : ℕ → ℕ → List ℕ → Option ℕ
number_in low high word = option_and_then (if_within low high) (turn_in word)

-- a server of 1 to 8 clients, some of whom are in from the beginning, with a delay of 1 to 8 and at most 65,535 turns
abbrev pub relay_by : List ℕ → List ℕ → List ℕ → List ℕ → Option Talk
relay_by clients active delay turns =
    next_or (number_in 1 8 clients) None (λ c. next_or (number_in 0 c active) None (λ a.
    next_or (number_in 1 8 delay) None (λ d. next_or (number_in 0 65535 turns) None (λ t.
    Some (to_relay (record { clients = c; active = a; delay = d; turns = t }))))))

-- two words of one command, and four of the other
abbrev pub asked_of_two : List ℕ → List ℕ → List ℕ → Option Talk
asked_of_two command game clients = if bytes_eq command (codes "live") then option_map (to_live game) (number_in 1 8 clients) else None

abbrev pub asked_of_four : List ℕ → List ℕ → List ℕ → List ℕ → List ℕ → Option Talk
asked_of_four command clients active delay turns = if bytes_eq command (codes "relay") then relay_by clients active delay turns else None

-- what the words ask for, if they are those of a talk
abbrev pub talk_by : List (List ℕ) → Option Talk
talk_by (command ∷ game ∷ clients ∷ []) = asked_of_two command game clients
talk_by (command ∷ clients ∷ active ∷ delay ∷ turns ∷ []) = asked_of_four command clients active delay turns
talk_by other = None

-- how many bytes a line of it may have
abbrev pub most_in : Talk → ℕ
most_in (to_live game clients) = 1048576
most_in (to_relay rules) = 5242880
