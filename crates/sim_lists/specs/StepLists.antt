-- The list of steps that bytes spell, or the number of what is refused. Its clients are players of a match.
use Rattle.{serde_json.specs.{Data.Data, Find.as_str}, sim_base.specs.declared.step.Step.{Step, TheVariants.{Bend, Cut, Down, Join, Order, Play, Up}}}
use Rattle.{sim_base.specs.Limits.{HasFewIds, IsFrom}, sim_json.specs.{Commands.{command_of, id_in, IsLeast, next_or, numbered}, Keys.other_key}}
use Rattle.{sim_json.specs.Values.{fixed, front_two, list_at, list_of, natural_at, natural_in, two, value_of}, sim_lists.specs.Arrivals.arrival_of}
use Rattle.sim_lists.specs.{Arrivals.{arrival_takes, step_takes}, declared.{schedule.{Arrival.Arrival, Schedule.Schedule}, step_list.StepList.StepList}}
use Rattle.std.specs.Prelude.{All, Bool, codes, Err, if◌then◌else◌, is_some, length, List, nat_le, None, Ok, Option, option_and_then, option_map, Result, Some}
use Rattle.std.specs.{Prelude.{ℕ, [], ◌+◌, ◌∷◌, ◌≡◌, ◌≤◌}, Str.bytes_eq}

-- The steps of a session as a list spells them: a word, a client, and what follows them.

-- a step that nothing follows
abbrev pub alone : Step → List Data → Option Step
alone step [] = Some step
alone step other = None

-- to bend a health, what follows is the entity and its new health
abbrev pub bend_from : ℕ → List Data → Option Step
bend_from client rest = next_or (two rest) None
    (λ p. next_or (id_in p.0) None (λ entity. next_or (fixed p.1) None (λ health. Some (Bend client entity health))))

-- a step that gives no command, by its word
abbrev pub plain_step_by : List ℕ → ℕ → List Data → Option Step
plain_step_by word client rest =
    if bytes_eq word (codes "up") then alone (Up client) rest
    else if bytes_eq word (codes "down") then alone (Down client) rest
    else if bytes_eq word (codes "play") then alone (Play client) rest
    else if bytes_eq word (codes "join") then alone (Join client) rest
    else if bytes_eq word (codes "cut") then alone (Cut client) rest
    else if bytes_eq word (codes "bend") then bend_from client rest
    else None

-- a step by its word; behind an order stands its command, from the kind on
abbrev pub step_by : List ℕ → ℕ → List Data → Option Step
step_by word client rest = if bytes_eq word (codes "order") then option_map (Order client) (command_of rest) else plain_step_by word client rest

-- a step of one of so many players
abbrev pub step_from : ℕ → Data × Data × List Data → Option Step
step_from players p = next_or (as_str p.0) None (λ word. next_or (natural_in 1 players p.1) None (λ client. step_by word client p.2))

-- a step from its list
unfoldable pub step_of : ℕ → Data → Option Step
step_of players d = option_and_then (step_from players) (option_and_then front_two (list_of d))

-- What the index of a refused list says.

-- the arrivals before the refused one are read, and it is not
abbrev pub ArrivalIndexIsLeast : Type 0
ArrivalIndexIsLeast = (clients : ℕ) (ds : List Data) (i : ℕ) → numbered (λ done. arrival_of clients) [] ds ≡ Err i
    → IsLeast (λ done. arrival_of clients) [] ds i

-- the same of steps
abbrev pub StepIndexIsLeast : Type 0
StepIndexIsLeast = (players : ℕ) (ds : List Data) (i : ℕ) → numbered (λ done. step_of players) [] ds ≡ Err i → IsLeast (λ done. step_of players) [] ds i

-- The schedule that bytes spell, or the number of what is refused.

-- the five keys
abbrev pub keys : List (List ℕ)
keys = codes "clients" ∷ codes "active" ∷ codes "delay" ∷ codes "turns" ∷ codes "arrivals" ∷ []

-- items, where there are at most so many
abbrev pub few : ℕ → List Data → Option (List Data)
few most ds = if nat_le (length ds) most then Some ds else None

-- the number of an item, counted from 1
abbrev pub counted : {X : Type 0} → Result X ℕ → Result X ℕ
counted (Ok x) = Ok x
counted (Err index) = Err (index + 1)

-- the arrivals, or the number of the first that is none
abbrev pub arrivals_from : ℕ → List Data → Result (List Arrival) ℕ
arrivals_from clients ds = counted (numbered (λ done. arrival_of clients) [] ds)

-- a schedule with these arrivals
abbrev pub with_arrivals : ℕ → ℕ → ℕ → ℕ → Result (List Arrival) ℕ → Result Schedule ℕ
with_arrivals clients active delay turns (Ok arrivals) = Ok (record { clients = clients; active = active; delay = delay; turns = turns; arrivals = arrivals })
with_arrivals clients active delay turns (Err index) = Err index

-- each number and the length of the list within its limits
abbrev pub schedule_within : Data → Result Schedule ℕ
schedule_within d =
    next_or (natural_at 1 8 (codes "clients") d) (Err 0) (λ clients. next_or (natural_at 0 clients (codes "active") d) (Err 0) (λ active.
    next_or (natural_at 1 8 (codes "delay") d) (Err 0) (λ delay. next_or (natural_at 0 65535 (codes "turns") d) (Err 0) (λ turns.
    next_or (option_and_then (few 100000) (list_at (codes "arrivals") d)) (Err 0) (λ ds.
    with_arrivals clients active delay turns (arrivals_from clients ds))))))

-- the schedule of an object with exactly the five keys
abbrev pub schedule_in : Data → Result Schedule ℕ
schedule_in d = if other_key keys d then Err 0 else schedule_within d

-- the schedule of the bytes of a file
abbrev pub schedule_of : List ℕ → Result Schedule ℕ
schedule_of bytes = next_or (value_of bytes) (Err 0) schedule_in

-- an arrival is from one of so many clients
abbrev pub IsFromClient : ℕ → Arrival → Type 0
IsFromClient clients arrival = IsFrom 1 clients arrival.from

-- the limits of a schedule
pub record IsSchedule (schedule : Schedule) : Type 0 where
  pub clients : IsFrom 1 8 schedule.clients
  pub active : schedule.active ≤ schedule.clients
  pub delay : IsFrom 1 8 schedule.delay
  pub turns : schedule.turns ≤ 65535
  pub arrivals : All (IsFromClient schedule.clients) schedule.arrivals

-- the two keys
abbrev pub step_keys : List (List ℕ)
step_keys = codes "clients" ∷ codes "steps" ∷ []

-- the steps, or the number of the first that is none
abbrev pub steps_from : ℕ → List Data → Result (List Step) ℕ
steps_from players ds = counted (numbered (λ done. step_of players) [] ds)

-- a list with these steps
abbrev pub with_steps : ℕ → Result (List Step) ℕ → Result StepList ℕ
with_steps clients (Ok steps) = Ok (record { clients = clients; steps = steps })
with_steps clients (Err index) = Err index

-- the number of clients and the length of the list within their limits
abbrev pub steps_within : ℕ → Data → Result StepList ℕ
steps_within players d =
    next_or (natural_at 1 players (codes "clients") d) (Err 0) (λ clients.
    next_or (option_and_then (few 100000) (list_at (codes "steps") d)) (Err 0) (λ ds. with_steps clients (steps_from players ds)))

-- the list of an object with exactly the two keys
abbrev pub steps_in : ℕ → Data → Result StepList ℕ
steps_in players d = if other_key step_keys d then Err 0 else steps_within players d

-- the list of the bytes of a file
abbrev pub steps_of : ℕ → List ℕ → Result StepList ℕ
steps_of players bytes = next_or (value_of bytes) (Err 0) (steps_in players)

-- whose step it is
abbrev pub client_of : Step → ℕ
client_of (Order client command) = client
client_of (Up client) = client
client_of (Down client) = client
client_of (Play client) = client
client_of (Join client) = client
client_of (Cut client) = client
client_of (Bend client entity health) = client

-- an order names few entities
abbrev pub OrdersFew : Step → Type 0
OrdersFew (Order client command) = HasFewIds command
OrdersFew (Up client) = Unit {0}
OrdersFew (Down client) = Unit {0}
OrdersFew (Play client) = Unit {0}
OrdersFew (Join client) = Unit {0}
OrdersFew (Cut client) = Unit {0}
OrdersFew (Bend client entity health) = Unit {0}

-- a step is of one of so many players, and an order of few entities
pub record IsStep (players : ℕ) (step : Step) : Type 0 where
  pub client : IsFrom 1 players (client_of step)
  pub few : OrdersFew step

-- the limits of a list of steps in a match of so many players
pub record IsStepList (players : ℕ) (list : StepList) : Type 0 where
  pub clients : IsFrom 1 players list.clients
  pub steps : All (IsStep players) list.steps

-- What of a list is refused before memory is taken for its items: the object, its numbers, too many items, and a first item that
-- asks for no memory. The number is that of the refusal.

-- of items, by what one is read as and whether it asks for memory
abbrev pub early_items : {X : Type 0} → (Data → Option X) → (Data → Bool) → List Data → Option ℕ
early_items read takes [] = None
early_items read takes (d ∷ ds) = if takes d then None else if is_some (read d) then None else Some 1

-- of a schedule whose keys are right
abbrev pub early_schedule_within : Data → Option ℕ
early_schedule_within d =
    next_or (natural_at 1 8 (codes "clients") d) (Some 0) (λ clients. next_or (natural_at 0 clients (codes "active") d) (Some 0) (λ active.
    next_or (natural_at 1 8 (codes "delay") d) (Some 0) (λ delay. next_or (natural_at 0 65535 (codes "turns") d) (Some 0) (λ turns.
    next_or (option_and_then (few 100000) (list_at (codes "arrivals") d)) (Some 0) (early_items (arrival_of clients) (arrival_takes clients))))))

-- of a schedule
abbrev pub early_schedule : Data → Option ℕ
early_schedule d = if other_key keys d then Some 0 else early_schedule_within d

-- of steps whose keys are right
abbrev pub early_steps_within : ℕ → Data → Option ℕ
early_steps_within players d =
    next_or (natural_at 1 players (codes "clients") d) (Some 0) (λ clients.
    next_or (option_and_then (few 100000) (list_at (codes "steps") d)) (Some 0) (early_items (step_of players) (step_takes players)))

-- of a list of steps
abbrev pub early_steps : ℕ → Data → Option ℕ
early_steps players d = if other_key step_keys d then Some 0 else early_steps_within players d
