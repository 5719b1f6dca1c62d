-- When a client that has a state stands for one that has a past.
use Rattle.std.specs.Prelude.{◌≡◌, ℕ, suc, ◌<◌, List, [], ◌∷◌, ◌++◌, ℤ}
use Rattle.sim_plain_session.specs.Clients.{begun, bent_seat, digest_of, mark_of, played, Seat}
use Rattle.sim_plain_session.specs.Common.{after, bent, digest, mark, Past, PlayerCommand, put, Setup, State, turn, turns_in}

-- a client with its state, and with no past
pub record Player : Type 0 where
  pub state : State
  pub known : ℕ → List PlayerCommand
  pub released : ℕ
  pub done : ℕ
  pub orders : ℕ

-- its state is that after the past, and it knows the same of the turns that it has not played
pub record IsPlayerOf (setup : Setup) (player : Player) (seat : Seat) : Type 0 where
  pub state : player.state ≡ after setup seat.past
  pub known : (t : ℕ) → turns_in seat.past < t → player.known t ≡ seat.known t
  pub released : player.released ≡ seat.released
  pub done : player.done ≡ seat.done
  pub orders : player.orders ≡ seat.orders

-- it is at the turn of the past, with its digest
abbrev pub SameTurn : Type 0
SameTurn = (setup : Setup) (player : Player) (seat : Seat) → IsPlayerOf setup player seat → (player.state.turn ≡ turns_in seat.past)
    × (digest setup player.state ≡ digest_of setup seat)

-- and with its mark
abbrev pub SameMark : Type 0
SameMark = (setup : Setup) (player : Player) (seat : Seat) → IsPlayerOf setup player seat → mark setup player.state ≡ mark_of setup seat

-- a client that begins at the state after a past
abbrev pub BeginningStands : Type 0
BeginningStands =
    (setup : Setup) (done released : ℕ) (past : Past)
    → IsPlayerOf setup (record { state = after setup past; known = λ t. []; released = released; done = done; orders = 0 }) (begun done released past)

-- a client that plays a turn with what it knows of it, and forgets what it will
abbrev pub PlayingStands : Type 0
PlayingStands =
    (setup : Setup) (player : Player) (seat : Seat) (known : ℕ → List PlayerCommand) → IsPlayerOf setup player seat
    → ((t : ℕ) → suc player.state.turn < t → known t ≡ player.known t)
    → IsPlayerOf setup (record player { state = turn setup player.state (player.known (suc player.state.turn)); known = known }) (played seat)

-- a client that is bent
abbrev pub BendingStands : Type 0
BendingStands =
    (setup : Setup) (player : Player) (seat : Seat) (id : ℕ) (health : ℤ) → IsPlayerOf setup player seat
    → IsPlayerOf setup (record player { state = bent setup player.state id health }) (bent_seat id health seat)

-- a client that hears a command
abbrev pub LearningStands : Type 0
LearningStands =
    (setup : Setup) (player : Player) (seat : Seat) (t : ℕ) (order : PlayerCommand) → IsPlayerOf setup player seat → turns_in seat.past < t
    → IsPlayerOf setup (record player { known = put t (player.known t ++ order ∷ []) player.known })
    (record seat { known = put t (seat.known t ++ order ∷ []) seat.known })
