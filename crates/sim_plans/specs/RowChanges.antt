-- Changes of one row: which it may take beside the others, and what they make of it.
use Rattle.sim_base.specs.declared.change.Change.TheVariants as change
use Rattle.sim_plans.specs.Common.{applied, arms_of, Change, IsInside, IsValidAim, IsValidMotion, Row, row_limit, row_of, Setup, State, Template, template_of}
use Rattle.std.specs.Prelude.{[], fold, IsSome, length, List, MatchOption, Option, option_and_then, pos, Some, ℕ, ℤ, ◌<◌, ◌^◌, ◌∷◌, ◌≡◌, ◌≤ℤ◌, ◌≤◌}

-- Which changes a state may take: the condition of a call that makes one.

-- the greatest health of a row that has health
abbrev pub most_of : Setup → Row → Option ℤ
most_of setup row = option_and_then (λ (t : Template). t.health) (template_of setup row)

-- the row with this id is alive, and this holds of it
abbrev pub OfRow : State → ℕ → (Row → Type 0) → Type 0
OfRow state id P = MatchOption (row_of state id) ⊥ P

-- the id is alive and has the part that is set, and the value is one that the state may have, where a health may be 0;
-- only a row with motion moves; a new row needs an id and a place among the rows
abbrev pub Fits : Setup → State → Change → Type 0
Fits setup state (change.Move id p) = OfRow state id (λ row. IsSome row.motion × IsInside setup p)
Fits setup state (change.Motion id motion) = OfRow state id (λ row. IsSome row.motion × IsValidMotion setup motion)
Fits setup state (change.Attack id aim) = OfRow state id (λ row. IsSome row.attack × MatchOption (arms_of setup row) ⊥ (IsValidAim state.rows id aim))
Fits setup state (change.Health id health) =
    OfRow state id (λ row. IsSome row.health × MatchOption (most_of setup row) ⊥ (λ most. (pos 0 ≤ℤ health) × (health ≤ℤ most)))
Fits setup state (change.Owner id owner) = OfRow state id (λ row. owner ≤ setup.players)
Fits setup state (change.Remove id) = IsSome (row_of state id)
Fits setup state (change.Create number p owner) = (number < length setup.templates) × IsInside setup p × (owner ≤ setup.players)
    × (length state.rows < row_limit) × (state.next < 0x20000000)
Fits setup state (change.Word word) = word < 2 ^ 48
Fits setup state change.Tick = state.turn < setup.turns

-- each change fits the state which those before it leave
abbrev pub AllFit : Setup → State → List Change → Type 0
AllFit setup state [] = Unit {0}
AllFit setup state (c ∷ changes) = Fits setup state c × AllFit setup (applied setup state c) changes

-- what a change makes of the row that it names
abbrev pub set_by : Change → Row → Row
set_by (change.Move id p) row = record row { at = p }
set_by (change.Motion id motion) row = record row { motion = Some motion }
set_by (change.Attack id aim) row = record row { attack = Some aim }
set_by (change.Health id health) row = record row { health = Some health }
set_by (change.Owner id owner) row = record row { owner = owner }
set_by (change.Remove id) row = row
set_by (change.Create number p owner) row = row
set_by (change.Word word) row = row
set_by change.Tick row = row

-- what several make of it, in order
abbrev pub set_by_all : List Change → Row → Row
set_by_all changes row = fold (λ r c. set_by c r) row changes

-- the change sets a part of this row, one that it has, to a value that it may have beside these rows
abbrev pub Suits : Setup → List Row → Row → Change → Type 0
Suits setup rows row (change.Move id p) = (id ≡ row.id) × IsSome row.motion × IsInside setup p
Suits setup rows row (change.Motion id motion) = (id ≡ row.id) × IsSome row.motion × IsValidMotion setup motion
Suits setup rows row (change.Attack id aim) = (id ≡ row.id) × IsSome row.attack × MatchOption (arms_of setup row) ⊥ (IsValidAim rows id aim)
Suits setup rows row (change.Health id health) = (id ≡ row.id) × IsSome row.health × MatchOption (most_of setup row) ⊥
    (λ most. (pos 0 ≤ℤ health) × (health ≤ℤ most))
Suits setup rows row (change.Owner id owner) = (id ≡ row.id) × (owner ≤ setup.players)
Suits setup rows row (change.Remove id) = ⊥
Suits setup rows row (change.Create number p owner) = ⊥
Suits setup rows row (change.Word word) = ⊥
Suits setup rows row change.Tick = ⊥
