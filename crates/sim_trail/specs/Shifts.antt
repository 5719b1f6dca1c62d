-- How two lists of marks differ: for each id the old mark that is gone, and then the new one that is born.
use Rattle.sim_base.specs.{Places.IsPlaced, Places.cell_of, Places.same_cell, declared.state.Row.Row, declared.state.State.State}
use Rattle.sim_trail.specs.declared.{mark.Mark.Mark, shift.Shift.Shift, shift.Shift.TheVariants.Born, shift.Shift.TheVariants.Gone}
use Rattle.std.specs.Prelude.{None, Option, Some, [], find, fold, if◌then◌else◌, map, max, ℕ, ◌&&◌, ◌++◌, ◌+◌, ◌==◌, ◌∷◌, ◌≡◌, ◌≤◌}
use Rattle.std.specs.{List.Sorted.IsStrictlyIncreasing, List.flat_map, List.range_with_len, List.sum_by, Option.option_eq, Prelude.Bool, Prelude.List}

-- the two marks are one
abbrev pub same_mark : Mark → Mark → Bool
same_mark a b = a.id == b.id && same_cell a.cell b.cell && a.owner == b.owner && a.template == b.template

-- the mark of this id, if there is one
abbrev pub mark_at : List Mark → ℕ → Option Mark
mark_at marks id = find (λ mark. mark.id == id) marks

-- an old mark is gone, if there is one
abbrev pub gone : Option Mark → List Shift
gone None = []
gone (Some mark) = Gone mark ∷ []

-- a new mark is born, if there is one
abbrev pub born : Option Mark → List Shift
born None = []
born (Some mark) = Born mark ∷ []

-- the change of one entity: none where both marks are the same
abbrev pub change_of : Option Mark → Option Mark → List Shift
change_of old new = if option_eq same_mark old new then [] else gone old ++ born new

-- one more than the greatest id
abbrev pub end_of : List Mark → ℕ
end_of marks = fold (λ end mark. max end (mark.id + 1)) 0 marks

-- the changes of each id, ascending
unfoldable pub shifts_between : List Mark → List Mark → List Shift
shifts_between old new = flat_map (λ id. change_of (mark_at old id) (mark_at new id)) (range_with_len 0 (max (end_of old) (end_of new)))

-- The marks of a state: what of each row a trail keeps.

-- the id, the cell, the owner and the template of a row
abbrev pub mark_of : Row → Mark
mark_of row = record { id = row.id; cell = cell_of row.at; owner = row.owner; template = row.template }

-- one mark for each row of a state
abbrev pub marks_of : State → List Mark
marks_of state = map mark_of state.rows

-- the id of a mark
abbrev pub id_of_mark : Mark → ℕ
id_of_mark mark = mark.id

-- the ids of the marks ascend strictly
abbrev pub IsAscending : List Mark → Type 0
IsAscending marks = IsStrictlyIncreasing (map id_of_mark marks)

-- the row stands on the largest ground
abbrev pub IsPlacedRow : Row → Type 0
IsPlacedRow row = IsPlaced row.at

-- Sums over marks, and what shifts make of them: the law by which whatever is a sum over marks can be kept.

-- the weight of a mark that is gone, and none of one that is born
abbrev pub weight_gone : (Mark → ℕ) → Shift → ℕ
weight_gone weight (Gone mark) = weight mark
weight_gone weight (Born mark) = 0

-- the weight of a mark that is born, and none of one that is gone
abbrev pub weight_born : (Mark → ℕ) → Shift → ℕ
weight_born weight (Gone mark) = 0
weight_born weight (Born mark) = weight mark

-- the sum over the new marks is that over the old ones, less all that are gone and with all that are born
pub record SumFollows (weight : Mark → ℕ) (old new : List Mark) (shifts : List Shift) : Type 0 where
  pub balance : sum_by weight old + sum_by (weight_born weight) shifts ≡ sum_by weight new + sum_by (weight_gone weight) shifts
  pub gone : sum_by (weight_gone weight) shifts ≤ sum_by weight old
  pub born : sum_by (weight_born weight) shifts ≤ sum_by weight new
