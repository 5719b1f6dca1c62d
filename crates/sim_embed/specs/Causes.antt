-- Why a call has no answer. The causes come in the order in which the bytes are handed in; want of memory may come before each of them,
-- but for bytes of a match that are no text, since that is found without any.
use Rattle.sim_codec.specs.declared.fault.StateFault.{StateFault, TheVariants.OutOfMemory as no_memory}
use Rattle.{serde_json.specs.Data.Data, sim_base.specs.{declared.{command.PlayerCommand.PlayerCommand, setup.Setup.Setup}, Limits.IsFrom}}
use Rattle.{sim_codec.specs.Loading.{RefusedFor, Stands}, sim_embed.specs.{Bytes.{OfMatch, OfState}, declared.refused.Refused.{Refused, TheVariants.Commands}}}
use Rattle.{sim_embed.specs.declared.refused.Refused.TheVariants.{Match, OutOfMemory, Over, State}, sim_json.specs.Commands.{command_of, next_or, numbered}}
use Rattle.{sim_json.specs.Values.{list_of, natural_in, value_of}, sim_setup.specs.{Refusals.refusal, Setups.setup_of}, std.specs.declared.alloc.Global.Global}
use Rattle.std.specs.{Prelude.{Err, List, None, Ok, Option, option_and_then, Result, Some, true, Vec, ℕ, [], ◌+◌, ◌<◌, ◌∷◌, ◌≡◌, ◌≢◌, ◌≤◌, ◌⊎◌}, Str.is_utf8}

-- The commands that bytes spell: a list in JSON of which each item has a player, the kind and what follows it.

-- a command is given by one of so many players
abbrev pub IsOrderFor : ℕ → PlayerCommand → Type 0
IsOrderFor players order = IsFrom 1 players order.player

-- a command of one of so many players, from the items of its list
abbrev pub order_from : ℕ → List Data → Option PlayerCommand
order_from players [] = None
order_from players (player ∷ rest) = next_or (natural_in 1 players player) None (λ player. next_or (command_of rest) None
    (λ command. Some (record { player = player; command = command })))

-- a command from its list
unfoldable pub order_of : ℕ → Data → Option PlayerCommand
order_of players d = option_and_then (order_from players) (list_of d)

-- the number of an item, counted from 1
abbrev pub counted : {X : Type 0} → Result X ℕ → Result X ℕ
counted (Ok x) = Ok x
counted (Err index) = Err (index + 1)

-- the commands, or the number of the first item that is none
abbrev pub orders_from : ℕ → List Data → Result (List PlayerCommand) ℕ
orders_from players ds = counted (numbered (λ done. order_of players) [] ds)

-- the commands of bytes, or the number of the first item that is none, or 0 where they are no list
abbrev pub orders_of : ℕ → List ℕ → Result (List PlayerCommand) ℕ
orders_of players bytes = next_or (value_of bytes) (Err 0) (λ d. next_or (list_of d) (Err 0) (orders_from players))

-- an answer is the wanted one, or memory ran out
abbrev pub MeetsOrders : Result (Vec PlayerCommand Global) Refused → Result (List PlayerCommand) ℕ → Type 0
MeetsOrders (Ok orders) wanted = wanted ≡ Ok orders.items
MeetsOrders (Err (Match code index)) wanted = ⊥
MeetsOrders (Err (State fault place)) wanted = ⊥
MeetsOrders (Err Over) wanted = ⊥
MeetsOrders (Err (Commands index)) wanted = wanted ≡ Err index
MeetsOrders (Err OutOfMemory) wanted = Unit {0}

-- a refusal is that of this item, counted from 1, or memory ran out
abbrev pub TellsItem : Refused → ℕ → Type 0
TellsItem (Match code index) item = ⊥
TellsItem (State fault place) item = ⊥
TellsItem Over item = ⊥
TellsItem (Commands index) item = index ≡ item + 1
TellsItem OutOfMemory item = Unit {0}

-- the bytes stand for no state of the match, for this cause, which is no want of memory
pub record StandForNone (setup : Setup) (bytes : List ℕ) (fault : StateFault) : Type 0 where
  pub cause : RefusedFor setup bytes fault
  pub no_want : fault ≢ no_memory

-- the bytes are no match
abbrev pub IsNoMatch : List ℕ → Refused → Type 0
IsNoMatch game (Match code index) = setup_of game ≡ Err (refusal code index)
IsNoMatch game (State fault place) = ⊥
IsNoMatch game Over = ⊥
IsNoMatch game (Commands index) = ⊥
IsNoMatch game OutOfMemory = is_utf8 game ≡ true

-- the bytes stand for no state of the match, being those of the state at this place; memory is wanted only where they do
abbrev pub IsNoState : Setup → List ℕ → ℕ → Refused → Type 0
IsNoState setup bytes place (Match code index) = ⊥
IsNoState setup bytes place (State fault at) = (at ≡ place) × StandForNone setup bytes fault
IsNoState setup bytes place Over = ⊥
IsNoState setup bytes place (Commands index) = ⊥
IsNoState setup bytes place OutOfMemory = Stands setup bytes

-- the bytes are no match, or the others stand for no state of it
abbrev pub IsNoStateOf : List ℕ → List ℕ → Refused → Type 0
IsNoStateOf game bytes (Match code index) = setup_of game ≡ Err (refusal code index)
IsNoStateOf game bytes (State fault place) = (place ≡ 0) × OfMatch game (λ setup. StandForNone setup bytes fault)
IsNoStateOf game bytes Over = ⊥
IsNoStateOf game bytes (Commands index) = ⊥
IsNoStateOf game bytes OutOfMemory = is_utf8 game ≡ true

-- the first of two stands for no state of the match, or it does and the second does not
abbrev pub OneStandsForNone : List ℕ → List ℕ → List ℕ → StateFault → ℕ → Type 0
OneStandsForNone game left right fault place = ((place ≡ 0) × OfMatch game (λ setup. StandForNone setup left fault))
    ⊎ ((place ≡ 1) × OfState game left (λ setup state. StandForNone setup right fault))

-- the bytes are no match, or one of the others stands for no state of it
abbrev pub AreNoStatesOf : List ℕ → List ℕ → List ℕ → Refused → Type 0
AreNoStatesOf game left right (Match code index) = setup_of game ≡ Err (refusal code index)
AreNoStatesOf game left right (State fault place) = OneStandsForNone game left right fault place
AreNoStatesOf game left right Over = ⊥
AreNoStatesOf game left right (Commands index) = ⊥
AreNoStatesOf game left right OutOfMemory = is_utf8 game ≡ true

-- there is no turn: no match, no state of it, none behind this state, or no commands
abbrev pub IsNoTurn : List ℕ → List ℕ → List ℕ → Refused → Type 0
IsNoTurn game old commands (Match code index) = setup_of game ≡ Err (refusal code index)
IsNoTurn game old commands (State fault place) = (place ≡ 0) × OfMatch game (λ setup. StandForNone setup old fault)
IsNoTurn game old commands Over = OfState game old (λ setup state. setup.turns ≤ state.turn)
IsNoTurn game old commands (Commands index) =
    OfState game old (λ setup state. (state.turn < setup.turns) × (orders_of setup.players commands ≡ Err index))
IsNoTurn game old commands OutOfMemory = is_utf8 game ≡ true
