-- Lines that only look, as JSON spells them: a word, the client that it is about, and behind `state` maybe a name, which is for who
-- keeps the bytes.
use Rattle.{serde_json.specs.{Data.Data, Find.as_str}, sim_base.specs.Limits.IsFrom, sim_json.specs.{Commands.next_or, Values.{list_of, natural_in}}}
use Rattle.sim_live.specs.declared.look.Look.{Look, TheVariants.{Digest, Kept, Pipes, Show, State}}
use Rattle.std.specs.{Prelude.{codes, if◌then◌else◌, List, None, Option, option_and_then, Some, ℕ, [], ◌∷◌}, Str.bytes_eq}

-- a look at the server or at the pipes
abbrev pub bare_look : List ℕ → Option Look
bare_look word =
    if bytes_eq word (codes "pipes") then Some Pipes
    else if bytes_eq word (codes "kept") then Some Kept
    else None

-- a look at a client, by its word
abbrev pub look_by : List ℕ → ℕ → Option Look
look_by word client =
    if bytes_eq word (codes "digest") then Some (Digest client)
    else if bytes_eq word (codes "show") then Some (Show client)
    else if bytes_eq word (codes "state") then Some (State client)
    else None

-- a look at one of so many players
abbrev pub look_at : ℕ → List ℕ → Data → Option Look
look_at players word client = next_or (natural_in 1 players client) None (look_by word)

-- of the state a name may stand behind
abbrev pub named_look : ℕ → List ℕ → Data → Option Look
named_look players word client = if bytes_eq word (codes "state") then look_at players word client else None

-- a look from the items of a list
abbrev pub look_in : ℕ → List Data → Option Look
look_in players (word ∷ []) = next_or (as_str word) None bare_look
look_in players (word ∷ client ∷ []) = next_or (as_str word) None (λ text. look_at players text client)
look_in players (word ∷ client ∷ name ∷ []) = next_or (as_str word) None (λ text. next_or (as_str name) None (λ to. named_look players text client))
look_in players other = None

-- a look from its list
abbrev pub look_of : ℕ → Data → Option Look
look_of players d = option_and_then (look_in players) (list_of d)

-- it is at one of so many players
abbrev pub IsLook : ℕ → Look → Type 0
IsLook players (Digest client) = IsFrom 1 players client
IsLook players (Show client) = IsFrom 1 players client
IsLook players (State client) = IsFrom 1 players client
IsLook players Pipes = Unit {0}
IsLook players Kept = Unit {0}
