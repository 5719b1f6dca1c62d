-- What the laws of facts, notes and answers say.
use Rattle.sim_base.specs.{Commands.applied, Limits.IsLooselyValid, Limits.IsSetup, Rows.id_of, declared.change.Change.Change, declared.setup.Land.Land}
use Rattle.sim_system.specs.{Meanings.answer, Meanings.kind_for, Notes.AreInRange, Notes.NoteFits, Notes.facts_of, Notes.noted, Notes.posts, Notes.told_of}
use Rattle.sim_system.specs.{Meanings.answer_over, Notes.hears, declared.ask.Ask.Ask, declared.fact.Fact.Fact, declared.kind.Kind.Kind, declared.note.Note.Note}
use Rattle.std.specs.{List.Sorted.IsStrictlyIncreasing, Prelude.List, Prelude.[], Prelude.false, Prelude.fold, Prelude.map, Prelude.◌∷◌, Prelude.◌≡◌}
use Rattle.{sim_base.specs.declared.setup.Setup.Setup, sim_base.specs.declared.state.State.State, sim_plans.specs.RowChanges.Fits}

-- the facts of the changed state are the facts after the notes
abbrev pub ChangeIsNoted : Type 0
ChangeIsNoted = (setup : Setup) (state : State) (c : Change) (kind : Kind) → IsSetup setup → IsLooselyValid setup state → Fits setup state c
    → facts_of kind setup (applied setup state c) ≡ fold (noted kind) (facts_of kind setup state) (posts setup state c)

-- each note fits the facts which those before it leave
abbrev pub AllNotesFit : Kind → Land → List Fact → List Note → Type 0
AllNotesFit kind land facts [] = Unit {0}
AllNotesFit kind land facts (note ∷ notes) = NoteFits kind land facts note × AllNotesFit kind land (noted kind facts note) notes

-- so it is with the notes of a change
abbrev pub NotesOfAChangeFit : Type 0
NotesOfAChangeFit = (setup : Setup) (state : State) (c : Change) (kind : Kind) → IsSetup setup → IsLooselyValid setup state → Fits setup state c
    → AllNotesFit kind setup.land (facts_of kind setup state) (posts setup state c)

-- a note outside the table of subscriptions changes nothing
abbrev pub UnheardChangesNothing : Type 0
UnheardChangesNothing = (kind : Kind) (facts : List Fact) (note : Note) → hears kind note ≡ false → noted kind facts note ≡ facts

-- what is told of a state is in range
abbrev pub StateIsInRange : Type 0
StateIsInRange = (setup : Setup) (state : State) → IsSetup setup → IsLooselyValid setup state → AreInRange setup.land (told_of setup state)

-- the answer over the facts of a state is the answer over its rows, where its ids ascend
abbrev pub AnswersAgree : Type 0
AnswersAgree = (setup : Setup) (state : State) (ask : Ask) → IsStrictlyIncreasing (map id_of state.rows)
    → answer setup.land (facts_of (kind_for ask) setup state) ask ≡ answer_over setup state ask
