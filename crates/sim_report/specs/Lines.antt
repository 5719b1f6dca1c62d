-- The texts of one piece: how the program is called, and the lines that name a turn by its digest.
use Rattle.sim_base.specs.declared.step.Event.TheVariants.{Bend, Cut, Join, Load, Notice, Order, Play, Refused, Start}
use Rattle.std.specs.Prelude.{codes, decimal, if◌then◌else◌, ℕ, ◌++◌}
use Rattle.{hex.specs.Hex.encode_lower, sim_base.specs.Spelling.is_full_turn, sim_base.specs.declared.step.Event.Event, std.specs.Prelude.List}

-- how the program is called
abbrev pub usage_text : List ℕ
usage_text =
    codes "usage: simcore play MATCH\n" ++
    (codes "       simcore state MATCH TURN OUT\n" ++
    (codes "       simcore resume MATCH STATE\n" ++
    (codes "       simcore rejoin MATCH TURN\n" ++
    (codes "       simcore serve SCHEDULE\n" ++
    (codes "       simcore session MATCH STEPS\n" ++
    (codes "       simcore compare MATCH A B\n" ++
    (codes "       simcore show MATCH STATE\n" ++
    (codes "       simcore trial SEED UNITS TURNS\n" ++
    (codes "       simcore sight MATCH TURN OUT\n" ++
    (codes "       simcore resight MATCH STATE MAP\n" ++
    (codes "       simcore log MATCH OUT\n" ++
    (codes "       simcore record MATCH STEPS OUT\n" ++
    (codes "       simcore check MATCH LOG\n" ++
    (codes "       simcore stock MATCH ECONOMY\n" ++
    (codes "       simcore realm MATCH TURN\n" ++
    (codes "       simcore film MATCH EVERY\n" ++
    (codes "       simcore parts MATCH\n" ++
    (codes "       simcore live MATCH CLIENTS\n" ++
    codes "       simcore relay CLIENTS ACTIVE DELAY TURNS\n"))))))))))))))))))

-- whether a report of a turn carries a whole or a quick digest
abbrev pub report_kind : ℕ → List ℕ
report_kind turn = if is_full_turn turn then codes " full" else codes " quick"

-- a number behind a space
abbrev pub spaced_number : ℕ → List ℕ
spaced_number n = codes " " ++ decimal n

-- a digest behind a space, at the end of a line
abbrev pub line_end : List ℕ → List ℕ
line_end digest = codes " " ++ (encode_lower digest ++ codes "\n")

-- a word, a turn and a digest
abbrev pub turn_line : List ℕ → ℕ → List ℕ → List ℕ
turn_line word turn digest = word ++ (spaced_number turn ++ line_end digest)

-- a stored state: its turn, how many bytes it has, and its digest
abbrev pub saved_line : ℕ → ℕ → List ℕ → List ℕ
saved_line turn length digest = codes "state" ++ (spaced_number turn ++ (spaced_number length ++ line_end digest))

-- what a player holds of the ground: how many cells, and how many of these are rooted
abbrev pub holding_line : ℕ → ℕ → ℕ → List ℕ
holding_line player held rooted =
    codes "realm" ++ (spaced_number player ++ (codes " held" ++ (spaced_number held ++ (codes " rooted" ++ (spaced_number rooted ++ codes "\n")))))

-- what a player has in the end, of food and of metal
abbrev pub stock_line : ℕ → ℕ → ℕ → List ℕ
stock_line player food metal = codes "stock" ++ (spaced_number player ++ (spaced_number food ++ (spaced_number metal ++ codes "\n")))

-- who holds which cell, by the digest of the holders
abbrev pub map_line : List ℕ → List ℕ
map_line digest = codes "map" ++ line_end digest

-- The lines about logs of a match.

-- a log that was stored: the word that asked for it, how many turns it has, and how many bytes
abbrev pub logged_line : List ℕ → ℕ → ℕ → List ℕ
logged_line word turns length = word ++ (spaced_number turns ++ (spaced_number length ++ codes "\n"))

-- a log agrees up to its last turn
abbrev pub agree_line : ℕ → List ℕ
agree_line turn = codes "agree" ++ (spaced_number turn ++ codes "\n")

-- the first turn at which a log does not agree
abbrev pub apart_line : ℕ → List ℕ
apart_line turn = codes "differ turn" ++ (spaced_number turn ++ codes "\n")

-- a digest behind a word
abbrev pub named_line : List ℕ → List ℕ → List ℕ
named_line word digest = word ++ line_end digest

-- the first turn at which a log does not agree, its digest there, and the one that was played
abbrev pub apart_lines : ℕ → List ℕ → List ℕ → List ℕ
apart_lines turn told played = apart_line turn ++ (named_line (codes "log") told ++ named_line (codes "play") played)

-- The lines of the events of a session.

-- the client of an event, before what it did
abbrev pub client_text : ℕ → List ℕ
client_text client = codes "client" ++ (spaced_number client ++ codes " ")

-- a word and a number
abbrev pub number_line : List ℕ → ℕ → List ℕ
number_line word number = word ++ (spaced_number number ++ codes "\n")

-- a report of this turn by this client differs from the turn's first, and of which kind such reports are
abbrev pub notice_line : ℕ → ℕ → List ℕ
notice_line turn client = codes "notice" ++ (spaced_number turn ++ (spaced_number client ++ (report_kind turn ++ codes "\n")))

-- an event: for a state that a client came to, its turn and its digest
abbrev pub event_line : Event → List ℕ
event_line (Start client digest) = client_text client ++ turn_line (codes "start") 0 digest
event_line (Order client turn) = client_text client ++ number_line (codes "order") turn
event_line (Play client turn digest) = client_text client ++ turn_line (codes "play") turn digest
event_line (Join client) = client_text client ++ codes "join\n"
event_line (Load client turn digest) = client_text client ++ turn_line (codes "load") turn digest
event_line (Refused client code) = client_text client ++ number_line (codes "refused") code
event_line (Cut client) = client_text client ++ codes "cut\n"
event_line (Bend client turn digest) = client_text client ++ turn_line (codes "bend") turn digest
event_line (Notice turn client) = notice_line turn client
