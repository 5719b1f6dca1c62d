-- How many commands each player has in each turn, as a table.
use Rattle.{sim_setup.specs.{Common.{Command, OutOfMemory, Timed}, Setups.crowd}, std.specs.Prelude.Bool}
use Rattle.std.specs.Prelude.{Err, false, length, List, nat_lt, None, Ok, Option, Result, slice_index, Some, true, ℕ, [], ◌*◌, ◌++◌, ◌+◌, ◌<◌, ◌∷◌, ◌≡◌, ◌≤◌}

-- a table has a count for Gaia and eight players in each turn
abbrev pub place_of : ℕ → ℕ → ℕ
place_of turn player = turn * 9 + player

-- each count that stands in the table is that of the commands so far
pub record Tallies (table : List ℕ) (done : List Timed) : Type 0 where
  pub right : (turn player : ℕ) → player ≤ 8 → place_of turn player < length table → slice_index table (place_of turn player) ≡ crowd turn player done

-- the table has all counts of this turn
abbrev pub Covers : List ℕ → ℕ → Type 0
Covers table turn = place_of turn 8 < length table

abbrev pub timed : ℕ → ℕ → Command → Timed
timed turn player command = record { turn = turn; order = record { player = player; command = command } }

-- a command of that player in that turn is counted where there is room for it, and else nothing is
abbrev pub Counts : Bool → ℕ → ℕ → List ℕ → List Timed → Type 0
Counts true turn player table done = (nat_lt (crowd turn player done) 64 ≡ true)
    × ((command : Command) → Tallies table (done ++ timed turn player command ∷ []))
Counts false turn player table done = (nat_lt (crowd turn player done) 64 ≡ false) × Tallies table done

-- a command is the wanted one and is counted, or none is wanted, or memory ran out
abbrev pub FindsTimed : Result (Option Timed) OutOfMemory → Option Timed → List ℕ → List Timed → Type 0
FindsTimed (Ok (Some t)) wanted table done = (wanted ≡ Some t) × Tallies table (done ++ t ∷ [])
FindsTimed (Ok None) wanted table done = wanted ≡ None
FindsTimed (Err e) wanted table done = Unit {0}
