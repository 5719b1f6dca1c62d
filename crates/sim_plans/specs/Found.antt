-- The row with an id.
use Rattle.{sim_plans.specs.Common.Row, std.specs.Prelude.List, std.specs.Prelude.Option, std.specs.Prelude.find, std.specs.Prelude.ℕ, std.specs.Prelude.◌==◌}

-- the row with this id among the rows; among those of a state it is the row of that id
abbrev pub found : List Row → ℕ → Option Row
found rows id = find (λ row. row.id == id) rows
