-- A match that is held in memory, and what a call makes of it.
use Rattle.sim_embed.specs.declared.refused.Refused.TheVariants as cause
use Rattle.sim_base.specs.declared.{command.PlayerCommand.PlayerCommand, memory.OutOfMemory.OutOfMemory, setup.Setup.Setup, state.State.State}
use Rattle.{sim_base.specs.{Limits.{IsSetup, IsValid}, Turn.{from, own_turns, turn}}, sim_embed.specs.{Causes.orders_of, declared.refused.Refused.Refused}}
use Rattle.std.specs.{Prelude.{Err, false, IfErr, List, min, Ok, OnErr, OnOk, Result, true, ℕ, ◌-◌, ◌<◌, ◌≡◌, ◌≤◌}, Str.is_utf8}

-- the match, and the state to which it has come
pub record GameView : Type 0 where
  pub setup : Setup
  pub state : State

-- the match is within its limits, and the state is one of it
pub record IsGame (setup : Setup) (state : State) : Type 0 where
  pub limits : IsSetup setup
  pub valid : IsValid setup state

-- the match at another state
abbrev pub at_state : GameView → State → GameView
at_state game state = record { setup = game.setup; state = state }

-- there is a turn, bytes spell its commands, and the state is the one behind it
pub record PlaysTurn (old : GameView) (bytes : List ℕ) (new : GameView) : Type 0 where
  pub below : old.state.turn < old.setup.turns
  pub orders : List PlayerCommand
  pub spelled : orders_of old.setup.players bytes ≡ Ok orders
  pub state : new ≡ at_state old (turn old.setup old.state orders)

-- why no turn is played: the match has none behind this state, or the bytes spell no commands; memory is wanted only where there
-- is a turn and the bytes are a text
abbrev pub IsNoTurnOf : GameView → List ℕ → Refused → Type 0
IsNoTurnOf old bytes (cause.Match code index) = ⊥
IsNoTurnOf old bytes (cause.State fault place) = ⊥
IsNoTurnOf old bytes cause.Over = old.setup.turns ≤ old.state.turn
IsNoTurnOf old bytes (cause.Commands index) = (old.state.turn < old.setup.turns) × (orders_of old.setup.players bytes ≡ Err index)
IsNoTurnOf old bytes cause.OutOfMemory = (old.state.turn < old.setup.turns) × (is_utf8 bytes ≡ true)

-- a match plays a turn with the commands that bytes spell, or says why there is none and is as it was
pub record PlaysGame (bytes : List ℕ) (old : GameView) (answer : Result (Unit {0}) Refused) (new : GameView) : Type 0 where
  pub plays : OnOk answer (PlaysTurn old bytes new)
  pub err : OnErr answer (new ≡ old)
  pub refused : IfErr answer (IsNoTurnOf old bytes)
  pub over : old.setup.turns ≤ old.state.turn → answer ≡ Err cause.Over
  pub no_text : old.state.turn < old.setup.turns → is_utf8 bytes ≡ false → answer ≡ Err (cause.Commands 0)

-- how many of so many turns the match still has
abbrev pub turns_left : GameView → ℕ → ℕ
turns_left game most = min most (game.setup.turns - game.state.turn)

-- so many of the match's own turns are played
abbrev pub after_own : GameView → ℕ → GameView
after_own game turns = at_state game (from game.setup game.state (own_turns game.setup game.state.turn turns))

-- a call plays what turns are left, and answers how many these were; where memory was refused nothing has changed
abbrev pub PlaysOwn : GameView → ℕ → Result ℕ OutOfMemory → GameView → Type 0
PlaysOwn old most (Ok turns) new = (turns ≡ turns_left old most) × (new ≡ after_own old (turns_left old most))
PlaysOwn old most (Err e) new = new ≡ old

-- a match plays turns of its own
pub record PlaysOwnTurns (most : ℕ) (old : GameView) (answer : Result ℕ OutOfMemory) (new : GameView) : Type 0 where
  pub plays : PlaysOwn old most answer new
  pub none : turns_left old most ≡ 0 → answer ≡ Ok 0
