-- What becomes of a board that begins or goes on: the facts of each call by name. A clause passes ⟦<dyn System as System>⟧ for `sys`.
use Rattle.sim_base.specs.declared.change.Change.TheVariants as change
use Rattle.sim_base.specs.{Commands.{applied, applied_all}, declared.{change.Change.Change, setup.Setup.Setup, state.{Row.Row, State.State}}}
use Rattle.{sim_base.specs.{Limits.{IsLooselyValid, IsSetup}, Rows.{row_of, target_of}}, sim_board.specs.declared.board.Board.Board}
use Rattle.sim_plans.specs.{RowChanges.{AllFit, Fits}, SceneWords.IsStanding}
use Rattle.sim_system.specs.{declared.{rig.Rig.Rig, system.System.Ghosts}, Meanings.AreBuiltOnce}
use Rattle.sim_system.specs.{Meanings.{AreBuiltOnceAtMost, AreFed, HaveKinds, HaveSameRebuilds, Meaning, Systems}, RigWords.{systems_by, systems_of}}
use Rattle.std.specs.Prelude.{Bool, false, IsOk, List, MatchOption, OnErr, OnOk, Result, true, ◌≡◌}

-- What a board is to its callers. A clause passes ⟦<dyn System as System>⟧ for `sys`.

-- the match that it is about
abbrev pub setup_in : {X : Type 0} {F : X → Type 0} → Board X F → Setup
setup_in board = board.setup.now

-- its state
abbrev pub state_in : {X : Type 0} {F : X → Type 0} → Board X F → State
state_in board = board.state

-- whether it may be changed and asked
abbrev pub is_whole : {X : Type 0} {F : X → Type 0} → Board X F → Bool
is_whole board = board.whole

-- its systems, in their boxes
abbrev pub rig_in : {X : Type 0} {F : X → Type 0} → Board X F → Rig X F
rig_in board = board.rig

-- the meanings of its systems
abbrev pub systems : {X : Type 0} {F : X → Type 0} → Board X F → ((i : X) → Ghosts (F i)) → Systems
systems board sys = systems_of board.rig sys

-- the systems are in their places, and none was built since
pub record AreKept (s t : Systems) : Type 0 where
  pub kinds : HaveKinds t
  pub rebuilds : HaveSameRebuilds s t

-- the setup is within its limits, and the state is loosely valid
pub record IsLooseIn (setup : Setup) (state : State) : Type 0 where
  pub limits : IsSetup setup
  pub valid : IsLooselyValid setup state

-- it is whole, and its scene stands
pub record IsWholeBy {X : Type 0} {F : X → Type 0} (board : Board X F) (meaning : (i : X) → F i → Meaning) : Type 0 where
  pub whole : board.whole ≡ true
  pub standing : IsStanding board.setup.now board.state (systems_by board.rig meaning)

-- the same, as a clause has it
abbrev pub IsWhole : {X : Type 0} {F : X → Type 0} → Board X F → ((i : X) → Ghosts (F i)) → Type 0
IsWhole board sys = IsWholeBy board (λ i v. (sys i).meaning v)

-- Changes that are made in one way or another.

-- a motion, a health, the word and the turn are set without memory, and no system is told
abbrev pub NeedsNoMemory : Change → Type 0
NeedsNoMemory (change.Move id p) = ⊥
NeedsNoMemory (change.Motion id motion) = Unit {0}
NeedsNoMemory (change.Attack id aim) = ⊥
NeedsNoMemory (change.Health id health) = Unit {0}
NeedsNoMemory (change.Owner id owner) = ⊥
NeedsNoMemory (change.Remove id) = ⊥
NeedsNoMemory (change.Create number p owner) = ⊥
NeedsNoMemory (change.Word word) = Unit {0}
NeedsNoMemory change.Tick = Unit {0}

-- a row takes the target that it has: its cooldown is set, or whether it holds its place, and no system is told
abbrev pub KeepsTarget : State → Change → Type 0
KeepsTarget state (change.Move id p) = ⊥
KeepsTarget state (change.Motion id motion) = ⊥
KeepsTarget state (change.Attack id aim) = MatchOption (row_of state id) ⊥ (λ (row : Row). target_of row ≡ aim.target)
KeepsTarget state (change.Health id health) = ⊥
KeepsTarget state (change.Owner id owner) = ⊥
KeepsTarget state (change.Remove id) = ⊥
KeepsTarget state (change.Create number p owner) = ⊥
KeepsTarget state (change.Word word) = ⊥
KeepsTarget state change.Tick = ⊥

-- no row leaves
abbrev pub IsNoRemoval : Change → Type 0
IsNoRemoval (change.Move id p) = Unit {0}
IsNoRemoval (change.Motion id motion) = Unit {0}
IsNoRemoval (change.Attack id aim) = Unit {0}
IsNoRemoval (change.Health id health) = Unit {0}
IsNoRemoval (change.Owner id owner) = Unit {0}
IsNoRemoval (change.Remove id) = ⊥
IsNoRemoval (change.Create number p owner) = Unit {0}
IsNoRemoval (change.Word word) = Unit {0}
IsNoRemoval change.Tick = Unit {0}

-- no row is made
abbrev pub IsNoCreation : Change → Type 0
IsNoCreation (change.Move id p) = Unit {0}
IsNoCreation (change.Motion id motion) = Unit {0}
IsNoCreation (change.Attack id aim) = Unit {0}
IsNoCreation (change.Health id health) = Unit {0}
IsNoCreation (change.Owner id owner) = Unit {0}
IsNoCreation (change.Remove id) = Unit {0}
IsNoCreation (change.Create number p owner) = ⊥
IsNoCreation (change.Word word) = Unit {0}
IsNoCreation change.Tick = Unit {0}

-- Its systems were built once, and it is whole and has come to this state; without memory it is not whole. However it ends, the systems are
-- in their places, each was built once at most, and its match is the same.
pub record BeginsBy {X : Type 0} {F : X → Type 0} {A E : Type 0} (outcome : Result A E) (last : State) (old new : Board X F)
    (meaning : (i : X) → F i → Meaning) : Type 0 where
  pub state : OnOk outcome (state_in new ≡ last)
  pub whole : OnOk outcome (IsWholeBy new meaning)
  pub err : OnErr outcome (is_whole new ≡ false)
  pub kinds : HaveKinds (systems_by new.rig meaning)
  pub once : OnOk outcome (AreBuiltOnce (systems_by old.rig meaning) (systems_by new.rig meaning))
  pub most : AreBuiltOnceAtMost (systems_by old.rig meaning) (systems_by new.rig meaning)
  pub setup : setup_in new ≡ setup_in old

-- It has made the change and is whole; without memory it is not whole, and some changes take none. However it ends, no system was built, and
-- its match is the same.
pub record MakesBy {X : Type 0} {F : X → Type 0} {A E : Type 0} (outcome : Result A E) (change : Change) (old new : Board X F)
    (meaning : (i : X) → F i → Meaning) : Type 0 where
  pub state : OnOk outcome (state_in new ≡ applied (setup_in old) (state_in old) change)
  pub whole : OnOk outcome (IsWholeBy new meaning)
  pub err : OnErr outcome (is_whole new ≡ false)
  pub sure : NeedsNoMemory change → IsOk outcome
  pub untold : KeepsTarget (state_in old) change → IsOk outcome
  pub kept : AreKept (systems_by old.rig meaning) (systems_by new.rig meaning)
  pub setup : setup_in new ≡ setup_in old

-- it has made these changes in the same way
pub record MakesAllBy {X : Type 0} {F : X → Type 0} {A E : Type 0} (outcome : Result A E) (changes : List Change) (old new : Board X F)
    (meaning : (i : X) → F i → Meaning) : Type 0 where
  pub state : OnOk outcome (state_in new ≡ applied_all (setup_in old) (state_in old) changes)
  pub whole : OnOk outcome (IsWholeBy new meaning)
  pub err : OnErr outcome (is_whole new ≡ false)
  pub kept : AreKept (systems_by old.rig meaning) (systems_by new.rig meaning)
  pub setup : setup_in new ≡ setup_in old

-- ---- the same, as a clause has them

abbrev pub Begins : {X : Type 0} {F : X → Type 0} {A E : Type 0} → Result A E → State → Board X F → Board X F → ((i : X) → Ghosts (F i)) → Type 0
Begins outcome last old new sys = BeginsBy outcome last old new (λ i v. (sys i).meaning v)

abbrev pub Makes : {X : Type 0} {F : X → Type 0} {A E : Type 0} → Result A E → Change → Board X F → Board X F → ((i : X) → Ghosts (F i)) → Type 0
Makes outcome change old new sys = MakesBy outcome change old new (λ i v. (sys i).meaning v)

abbrev pub MakesAll : {X : Type 0} {F : X → Type 0} {A E : Type 0} → Result A E → List Change → Board X F → Board X F → ((i : X) → Ghosts (F i)) → Type 0
MakesAll outcome changes old new sys = MakesAllBy outcome changes old new (λ i v. (sys i).meaning v)

-- What a step of a board asks, and what becomes of the board: the facts of each call by name. A clause passes
-- ⟦<dyn System as System>⟧ for `sys`.

-- the systems may be told of a change: the scene stands, and the change fits
pub record MayTellBy {X : Type 0} {F : X → Type 0} (board : Board X F) (change : Change) (meaning : (i : X) → F i → Meaning) : Type 0 where
  pub stands : IsStanding (setup_in board) (state_in board) (systems_by board.rig meaning)
  pub fits : Fits (setup_in board) (state_in board) change

-- They know the state after the change, if there was memory. However it ends, none was built, and all else is as it was.
pub record TellsBy {X : Type 0} {F : X → Type 0} {A E : Type 0} (outcome : Result A E) (change : Change) (old new : Board X F)
    (meaning : (i : X) → F i → Meaning) : Type 0 where
  pub fed : OnOk outcome (AreFed (setup_in old) (applied (setup_in old) (state_in old) change) (systems_by new.rig meaning))
  pub kept : AreKept (systems_by old.rig meaning) (systems_by new.rig meaning)
  pub setup : setup_in new ≡ setup_in old
  pub state : state_in new ≡ state_in old
  pub whole : is_whole new ≡ is_whole old

-- The board has made the change, if there was memory, and its scene stands. However it ends, no system was built, and the match is
-- the same.
pub record StepsBy {X : Type 0} {F : X → Type 0} {A E : Type 0} (outcome : Result A E) (change : Change) (old new : Board X F)
    (meaning : (i : X) → F i → Meaning) : Type 0 where
  pub state : OnOk outcome (state_in new ≡ applied (setup_in old) (state_in old) change)
  pub stands : OnOk outcome (IsStanding (setup_in old) (state_in new) (systems_by new.rig meaning))
  pub sure : NeedsNoMemory change → IsOk outcome
  pub untold : KeepsTarget (state_in old) change → IsOk outcome
  pub kept : AreKept (systems_by old.rig meaning) (systems_by new.rig meaning)
  pub setup : setup_in new ≡ setup_in old
  pub whole : is_whole new ≡ is_whole old

-- ---- the same, as a clause has them

abbrev pub MayTell : {X : Type 0} {F : X → Type 0} → Board X F → Change → ((i : X) → Ghosts (F i)) → Type 0
MayTell board change sys = MayTellBy board change (λ i v. (sys i).meaning v)

abbrev pub Tells : {X : Type 0} {F : X → Type 0} {A E : Type 0} → Result A E → Change → Board X F → Board X F → ((i : X) → Ghosts (F i)) → Type 0
Tells outcome change old new sys = TellsBy outcome change old new (λ i v. (sys i).meaning v)

abbrev pub Steps : {X : Type 0} {F : X → Type 0} {A E : Type 0} → Result A E → Change → Board X F → Board X F → ((i : X) → Ghosts (F i)) → Type 0
Steps outcome change old new sys = StepsBy outcome change old new (λ i v. (sys i).meaning v)

-- Changes of which no system is told, made while the rows are out of the state.

-- the rows before and after a change by which a row keeps its target
pub record AreAroundKept (before after : List Row) (c : Change) : Type 0 where
  pub keeps : (state : State) → state.rows ≡ before → KeepsTarget state c
  pub gives : (setup : Setup) (state : State) → state.rows ≡ before → record state { rows = after } ≡ applied setup state c

-- the rest of these changes fit a later state and lead where all of them led, and systems that were told of the earlier one know it
pub record LeadsOn (setup : Setup) (before after : State) (changes rest : List Change) : Type 0 where
  pub valid : IsLooselyValid setup after
  pub fit : AllFit setup after rest
  pub give : applied_all setup after rest ≡ applied_all setup before changes
  pub fed : (s : Systems) → AreFed setup before s → AreFed setup after s
