-- The rows of a valid state lie on the largest ground.
use Rattle.sim_base.{proofs.GroundPoints.inside_placed, specs.declared.{setup.Setup.Setup, state.{Row.Row, State.State}, template.Template.Template}}
use Rattle.{sim_base.specs.{Limits.{IsKnownRow, IsSetup, IsValid, IsValidRow}, Rows.template_of}, sim_trail.specs.Shifts.IsPlacedRow}
use Rattle.std.proofs.{Common.{All, List, MatchOption, None, Option, Some}, lemmas.List.Elements.All-weaker}

-- a row's template is known
pub known_row : {P : Template → Type 0} (o : Option Template) → MatchOption o ⊥ P → (t : Template) × P t
known_row None h = absurd h
known_row (Some t) h = (t, h)

pub row_placed : (setup : Setup) (rows : List Row) (row : Row) → IsSetup setup → IsKnownRow 1 setup rows row → IsPlacedRow row
row_placed setup rows row limits known = let (t, valid) = known_row {P = IsValidRow 1 setup rows row} (template_of setup row) known in
    inside_placed setup row.at limits valid.at

pub rows_placed : (setup : Setup) (state : State) → IsSetup setup → IsValid setup state → All IsPlacedRow state.rows
rows_placed setup state limits valid = All-weaker (IsKnownRow 1 setup state.rows) IsPlacedRow (λ row known. row_placed setup state.rows row limits known)
    state.rows valid.rows
