-- What passed in a talk in memory.
use Rattle.sim_store.specs.declared.fault.Failed.{Failed}
use Rattle.sim_talk.specs.{declared.{fault.{HearFault.HearFault, TalkFault.TalkFault}, mem_talk.Piece.Piece}, Talks.{heard, History, Passed, told}}
use Rattle.std.specs.{declared.alloc.Global.Global, Prelude.{Bool, Err, false, List, map, None, Ok, Option, Result, Some, true, Vec, ℕ, ⊤, [], ◌++◌, ◌∷◌, ◌≡◌}}
use Rattle.sim_talk.specs.declared.fault.HearFault.TheVariants as fault
use Rattle.sim_talk.specs.declared.fault.TalkFault.TheVariants as ends
use Rattle.sim_talk.specs.declared.mem_talk.Piece.TheVariants as piece

-- a piece as what passed
abbrev pub passed_of : Piece → Passed
passed_of (piece.Heard line) = heard line.items
passed_of (piece.Told text) = told text.items

-- all of them
abbrev pub passed_in : List Piece → List Passed
passed_in = map passed_of

-- it tells all that passed and what failed, and its input and output are no bytes, so it keeps none
abbrev pub history_of : List Passed → ℕ → ℕ → History
history_of passed unread unwritten =
    record { passed = Some passed; coming = None; written = None; kept = []; longest = 0; unread = unread; unwritten = unwritten }

-- ---- what it was given

-- the lines that are to be heard, the last of which is heard first
abbrev pub lines_in : List (Vec ℕ Global) → List (List ℕ)
lines_in = map (λ (line : Vec ℕ Global). line.items)

-- which line is heard, and when the input ends or has its fault; want of memory may come between
abbrev pub HearsGiven : Result Bool TalkFault → Option HearFault → List ℕ → List (List ℕ) → List (List ℕ) → Type 0
HearsGiven (Ok true) end line old new = old ≡ new ++ line ∷ []
HearsGiven (Ok false) end line old new = (end ≡ None) × (old ≡ []) × (new ≡ [])
HearsGiven (Err (ends.Unheard fault.OutOfMemory)) end line old new = Unit {0}
HearsGiven (Err (ends.Unheard cause)) end line old new = (end ≡ Some cause) × (old ≡ []) × (new ≡ [])
HearsGiven (Err other) end line old new = ⊥

-- a text was kept as told, or nothing was
abbrev pub KeepsTold : Result ⊤ Failed → List ℕ → List Passed → List Passed → Type 0
KeepsTold (Ok done) text old new = new ≡ old ++ told text ∷ []
KeepsTold (Err failed) text old new = new ≡ old
