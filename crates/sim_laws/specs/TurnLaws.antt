-- What the laws of turns and pasts say.
use Rattle.sim_base.specs.Turn.{Bend, Item, Past, Turn, after, bent, from, own_turns, turn, turns_in}
use Rattle.sim_base.specs.declared.{command.PlayerCommand.PlayerCommand, setup.Setup.Setup, state.Row.Row, state.State.State}
use Rattle.sim_base.specs.{Commands.commanded, Limits.IsFrom, Limits.IsLooselyValid, Limits.IsSetup, Limits.IsValid, Rows.id_of, Rows.row_of, Rows.target_of}
use Rattle.std.specs.Prelude.{All, Bool, filter, IsSome, List, map, Some, ℕ, ℤ, ◌++◌, ◌+◌, ◌<◌, ◌≡◌, ◌≢◌, ◌≤◌, ◌⊎◌}

-- What the laws of commands say.

-- a command is given by a player of the match
abbrev pub IsOrderOf : Setup → PlayerCommand → Type 0
IsOrderOf setup order = IsFrom 1 setup.players order.player

-- a command keeps a state valid
abbrev pub CommandKeepsValid : Type 0
CommandKeepsValid = (setup : Setup) (state : State) (order : PlayerCommand) → IsSetup setup → IsOrderOf setup order → IsValid setup state
    → IsValid setup (commanded setup state order)

-- and one that is loosely valid it keeps so
abbrev pub CommandKeepsLoose : Type 0
CommandKeepsLoose =
    (setup : Setup) (state : State) (order : PlayerCommand) → IsSetup setup → IsOrderOf setup order → IsLooselyValid setup state
    → IsLooselyValid setup (commanded setup state order)

-- a command is no turn
abbrev pub CommandKeepsTurn : Type 0
CommandKeepsTurn = (setup : Setup) (state : State) (order : PlayerCommand) → (commanded setup state order).turn ≡ state.turn

-- the rows are old ones in their old order, and after them new ones
pub record KeepsOrder (old new : State) : Type 0 where
  pub stays : ℕ → Bool
  pub made : List ℕ
  pub ids : map id_of new.rows ≡ filter stays (map id_of old.rows) ++ made
  pub made_later : All (λ id. old.next ≤ id) made

-- a command keeps the order of the rows
abbrev pub CommandKeepsOrder : Type 0
CommandKeepsOrder = (setup : Setup) (state : State) (order : PlayerCommand) → KeepsOrder state (commanded setup state order)

-- a row of another owner stays as it is, unless its target left
abbrev pub CommandLeavesOthers : Type 0
CommandLeavesOthers =
    (setup : Setup) (state : State) (order : PlayerCommand) (row : Row) → IsSetup setup → IsOrderOf setup order → IsLooselyValid setup state
    → row_of state row.id ≡ Some row → row.owner ≢ order.player → (target_of row ≡ 0) ⊎ IsSome (row_of (commanded setup state order) (target_of row))
    → row_of (commanded setup state order) row.id ≡ Some row

-- a turn below the last one, with commands of players of the match, keeps a state valid
abbrev pub TurnKeepsValid : Type 0
TurnKeepsValid =
    (setup : Setup) (state : State) (orders : List PlayerCommand) → IsSetup setup → All (IsOrderOf setup) orders → IsValid setup state
    → state.turn < setup.turns → IsValid setup (turn setup state orders)

-- a turn is counted
abbrev pub TurnIsCounted : Type 0
TurnIsCounted = (setup : Setup) (state : State) (orders : List PlayerCommand) → (turn setup state orders).turn ≡ state.turn + 1

-- a bend keeps a state valid
abbrev pub BendKeepsValid : Type 0
BendKeepsValid = (setup : Setup) (state : State) (id : ℕ) (health : ℤ) → IsValid setup state → IsValid setup (bent setup state id health)

-- and is no turn
abbrev pub BendKeepsTurn : Type 0
BendKeepsTurn = (setup : Setup) (state : State) (id : ℕ) (health : ℤ) → (bent setup state id health).turn ≡ state.turn

-- the commands of a turn are of players of the match
abbrev pub IsItemOf : Setup → Item → Type 0
IsItemOf setup (Turn orders) = All (IsOrderOf setup) orders
IsItemOf setup (Bend id health) = Unit {0}

-- and so are those of each turn of a past
abbrev pub IsPastOf : Setup → Past → Type 0
IsPastOf setup past = All (IsItemOf setup) past

-- a past that does not lead beyond the last turn keeps a state valid
abbrev pub FromKeepsValid : Type 0
FromKeepsValid =
    (setup : Setup) (state : State) (past : Past) → IsSetup setup → IsPastOf setup past → IsValid setup state → state.turn + turns_in past ≤ setup.turns
    → IsValid setup (from setup state past)

-- its turns are counted
abbrev pub FromCountsTurns : Type 0
FromCountsTurns = (setup : Setup) (state : State) (past : Past) → (from setup state past).turn ≡ state.turn + turns_in past

-- after a past that has no more turns than the match, the state is valid
abbrev pub AfterIsValid : Type 0
AfterIsValid = (setup : Setup) (past : Past) → IsSetup setup → IsPastOf setup past → turns_in past ≤ setup.turns → IsValid setup (after setup past)

-- and it has come to as many turns
abbrev pub AfterCountsTurns : Type 0
AfterCountsTurns = (setup : Setup) (past : Past) → (after setup past).turn ≡ turns_in past

-- the match's own turns are such a past
abbrev pub OwnTurnsAreOfPlayers : Type 0
OwnTurnsAreOfPlayers = (setup : Setup) (start n : ℕ) → IsSetup setup → IsPastOf setup (own_turns setup start n)

-- and there are as many as were asked for
abbrev pub OwnTurnsAreSoMany : Type 0
OwnTurnsAreSoMany = (setup : Setup) (start n : ℕ) → turns_in (own_turns setup start n) ≡ n
