-- What a board is asked for a turn or a part of it, and what becomes of it: the facts of each call by name. A clause passes
-- ⟦<dyn System as System>⟧ for `sys`.
use Rattle.sim_board.specs.{Boards.AreKept, Boards.IsWholeBy, Boards.setup_in, Boards.state_in, declared.board.Board.Board}
use Rattle.std.specs.Prelude.{All, List, OnOk, Result, ℕ, ◌<◌, ◌≡◌, ◌≤◌}
use Rattle.{sim_base.specs.Limits.IsValid, sim_base.specs.declared.state.State.State, sim_laws.specs.TurnLaws.IsOrderOf, sim_system.specs.Meanings.Meaning}
use Rattle.{sim_base.specs.declared.command.PlayerCommand.PlayerCommand, sim_system.specs.RigWords.systems_by, sim_system.specs.declared.system.System.Ghosts}

-- ---- before

-- a command may be obeyed: the board is whole, and a player of its match gives it
pub record MayObeyBy {X : Type 0} {F : X → Type 0} (board : Board X F) (order : PlayerCommand) (meaning : (i : X) → F i → Meaning) : Type 0 where
  pub whole : IsWholeBy board meaning
  pub player : IsOrderOf (setup_in board) order

-- so may several
pub record MayObeyAllBy {X : Type 0} {F : X → Type 0} (board : Board X F) (orders : List PlayerCommand) (meaning : (i : X) → F i → Meaning) : Type 0 where
  pub whole : IsWholeBy board meaning
  pub players : All (IsOrderOf (setup_in board)) orders

-- a turn may end: the match has one more
pub record MayEndTurnBy {X : Type 0} {F : X → Type 0} (board : Board X F) (meaning : (i : X) → F i → Meaning) : Type 0 where
  pub whole : IsWholeBy board meaning
  pub below : (state_in board).turn < (setup_in board).turns

-- a whole turn may be played with these commands
pub record MayPlayBy {X : Type 0} {F : X → Type 0} (board : Board X F) (orders : List PlayerCommand) (meaning : (i : X) → F i → Meaning) : Type 0 where
  pub whole : IsWholeBy board meaning
  pub valid : IsValid (setup_in board) (state_in board)
  pub below : (state_in board).turn < (setup_in board).turns
  pub players : All (IsOrderOf (setup_in board)) orders

-- the match's own turns may be played until one, which it has
pub record MayPlayUntilBy {X : Type 0} {F : X → Type 0} (board : Board X F) (until : ℕ) (meaning : (i : X) → F i → Meaning) : Type 0 where
  pub whole : IsWholeBy board meaning
  pub valid : IsValid (setup_in board) (state_in board)
  pub ahead : (state_in board).turn ≤ until
  pub within : until ≤ (setup_in board).turns

-- ---- behind

-- A board that goes on ends in a state, if there was memory, and is whole then. However it ends, no system was built since, and its
-- match is the same.
pub record GoesOnToBy {X : Type 0} {F : X → Type 0} {A E : Type 0} (outcome : Result A E) (last : State) (old new : Board X F)
    (meaning : (i : X) → F i → Meaning) : Type 0 where
  pub state : OnOk outcome (state_in new ≡ last)
  pub whole : OnOk outcome (IsWholeBy new meaning)
  pub kept : AreKept (systems_by old.rig meaning) (systems_by new.rig meaning)
  pub setup : setup_in new ≡ setup_in old

-- one that is played comes to its last state in the same way, which is valid
pub record PlaysToBy {X : Type 0} {F : X → Type 0} {A E : Type 0} (outcome : Result A E) (last : State) (old new : Board X F)
    (meaning : (i : X) → F i → Meaning) : Type 0 where
  pub state : OnOk outcome (state_in new ≡ last)
  pub valid : OnOk outcome (IsValid (setup_in old) (state_in new))
  pub whole : OnOk outcome (IsWholeBy new meaning)
  pub kept : AreKept (systems_by old.rig meaning) (systems_by new.rig meaning)
  pub setup : setup_in new ≡ setup_in old

-- ---- the same, as a clause has them

abbrev pub MayObey : {X : Type 0} {F : X → Type 0} → Board X F → PlayerCommand → ((i : X) → Ghosts (F i)) → Type 0
MayObey board order sys = MayObeyBy board order (λ i v. (sys i).meaning v)

abbrev pub MayObeyAll : {X : Type 0} {F : X → Type 0} → Board X F → List PlayerCommand → ((i : X) → Ghosts (F i)) → Type 0
MayObeyAll board orders sys = MayObeyAllBy board orders (λ i v. (sys i).meaning v)

abbrev pub MayEndTurn : {X : Type 0} {F : X → Type 0} → Board X F → ((i : X) → Ghosts (F i)) → Type 0
MayEndTurn board sys = MayEndTurnBy board (λ i v. (sys i).meaning v)

abbrev pub MayPlay : {X : Type 0} {F : X → Type 0} → Board X F → List PlayerCommand → ((i : X) → Ghosts (F i)) → Type 0
MayPlay board orders sys = MayPlayBy board orders (λ i v. (sys i).meaning v)

abbrev pub MayPlayUntil : {X : Type 0} {F : X → Type 0} → Board X F → ℕ → ((i : X) → Ghosts (F i)) → Type 0
MayPlayUntil board until sys = MayPlayUntilBy board until (λ i v. (sys i).meaning v)

abbrev pub GoesOnTo : {X : Type 0} {F : X → Type 0} {A E : Type 0} → Result A E → State → Board X F → Board X F → ((i : X) → Ghosts (F i)) → Type 0
GoesOnTo outcome last old new sys = GoesOnToBy outcome last old new (λ i v. (sys i).meaning v)

abbrev pub PlaysTo : {X : Type 0} {F : X → Type 0} {A E : Type 0} → Result A E → State → Board X F → Board X F → ((i : X) → Ghosts (F i)) → Type 0
PlaysTo outcome last old new sys = PlaysToBy outcome last old new (λ i v. (sys i).meaning v)
