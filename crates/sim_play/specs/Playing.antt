-- With what a match may be played, and what becomes of the board and the rig that play it: the facts of each call by name. A clause
-- passes ⟦<dyn System as System>⟧ for `sys`.
use Rattle.std.specs.Prelude.{◌≡◌, ℕ, ◌≤◌, OnOk, Result}
use Rattle.sim_play.specs.Common.{AreBuiltOnceAtMost, AreFed, AreKept, HaveKinds, IsSetup, IsValid, IsWholeBy, Setup, setup_in, State, state_in}
use Rattle.{sim_board.specs.declared.board.Board.Board, sim_system.specs.Meanings.Meaning, sim_system.specs.Meanings.Systems}
use Rattle.sim_system.specs.{RigWords.systems_by, declared.rig.Rig.Rig, declared.system.System.Ghosts}

-- ---- before

-- a match may begin with these systems: it is within its limits, and they are in their places
pub record MayBegin (setup : Setup) (s : Systems) : Type 0 where
  pub limits : IsSetup setup
  pub kinds : HaveKinds s

-- it may be played to a turn, which it has
pub record MayReach (setup : Setup) (turn : ℕ) (s : Systems) : Type 0 where
  pub limits : IsSetup setup
  pub within : turn ≤ setup.turns
  pub kinds : HaveKinds s

-- it may be played on from a state, which is valid
pub record MayResume (setup : Setup) (state : State) (s : Systems) : Type 0 where
  pub limits : IsSetup setup
  pub valid : IsValid setup state
  pub kinds : HaveKinds s

-- a board may be played on: it is whole, and its state is valid
pub record MayGoOnBy {X : Type 0} {F : X → Type 0} (meaning : (i : X) → F i → Meaning) (board : Board X F) : Type 0 where
  pub whole : IsWholeBy board meaning
  pub valid : IsValid (setup_in board) (state_in board)

-- ---- behind

-- A board that goes on ends in a state, if there was memory, and is whole then. However it ends, no system was built since, and its
-- match is the same.
pub record GoesOnToBy {X : Type 0} {F : X → Type 0} {A E : Type 0} (meaning : (i : X) → F i → Meaning) (last : State) (outcome : Result A E)
    (old new : Board X F) : Type 0 where
  pub state : OnOk outcome (state_in new ≡ last)
  pub whole : OnOk outcome (IsWholeBy new meaning)
  pub kept : AreKept (systems_by old.rig meaning) (systems_by new.rig meaning)
  pub setup : setup_in new ≡ setup_in old

-- A board that begins, or takes a state, comes to its last state in the same way. However it ends, its systems are in their places, each
-- was built once at most, and its match is the same.
pub record ComesToBy {X : Type 0} {F : X → Type 0} {A E : Type 0} (meaning : (i : X) → F i → Meaning) (last : State) (outcome : Result A E)
    (old new : Board X F) : Type 0 where
  pub state : OnOk outcome (state_in new ≡ last)
  pub whole : OnOk outcome (IsWholeBy new meaning)
  pub kinds : HaveKinds (systems_by new.rig meaning)
  pub most : AreBuiltOnceAtMost (systems_by old.rig meaning) (systems_by new.rig meaning)
  pub setup : setup_in new ≡ setup_in old

-- A rig with which a match was played stands for its last state, if there was memory. However that ended, its systems are in their places,
-- and each was built once at most.
pub record HasPlayedBy {X : Type 0} {F : X → Type 0} {A E : Type 0} (meaning : (i : X) → F i → Meaning) (setup : Setup) (last : State)
    (outcome : Result A E) (old new : Rig X F) : Type 0 where
  pub fed : OnOk outcome (AreFed setup last (systems_by new meaning))
  pub kinds : HaveKinds (systems_by new meaning)
  pub most : AreBuiltOnceAtMost (systems_by old meaning) (systems_by new meaning)

-- ---- the same, as a clause has them

abbrev pub MayGoOn : {X : Type 0} {F : X → Type 0} → ((i : X) → Ghosts (F i)) → Board X F → Type 0
MayGoOn sys board = MayGoOnBy (λ i v. (sys i).meaning v) board

abbrev pub GoesOnTo : {X : Type 0} {F : X → Type 0} {A E : Type 0} → ((i : X) → Ghosts (F i)) → State → Result A E → Board X F → Board X F → Type 0
GoesOnTo sys last outcome old new = GoesOnToBy (λ i v. (sys i).meaning v) last outcome old new

abbrev pub ComesTo : {X : Type 0} {F : X → Type 0} {A E : Type 0} → ((i : X) → Ghosts (F i)) → State → Result A E → Board X F → Board X F → Type 0
ComesTo sys last outcome old new = ComesToBy (λ i v. (sys i).meaning v) last outcome old new

abbrev pub HasPlayed : {X : Type 0} {F : X → Type 0} {A E : Type 0} → ((i : X) → Ghosts (F i)) → Setup → State → Result A E → Rig X F → Rig X F → Type 0
HasPlayed sys setup last outcome old new = HasPlayedBy (λ i v. (sys i).meaning v) setup last outcome old new
