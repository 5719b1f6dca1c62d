-- Influence: what the buildings of a player weigh at each cell.
use Rattle.std.specs.Prelude.{ℕ, ◌+◌, ◌-◌, ◌*◌, List, if◌then◌else◌, ◌==◌, slice_get, sum_by, Option, unwrap_or, option_map, option_and_then}
use Rattle.sim_territory.specs.Common.{Base, Cell, Mark, octile, Setup, Template}

-- the template of an entity, if its number is known
abbrev pub template_of : Setup → Mark → Option Template
template_of setup mark = slice_get setup.templates mark.template

-- the obstruction of an entity, if it has one
abbrev pub base_of : Setup → Mark → Option Base
base_of setup mark = option_and_then (λ (t : Template). t.obstruct) (template_of setup mark)

-- the octile distance at which the strength of an obstruction has come to nothing
abbrev pub reach_of : Base → ℕ
reach_of base = 40 * (base.width + base.depth)

-- the strength of an entity at a cell: its reach less the octile distance from its own cell, at least 0, and 0 without an obstruction
abbrev pub strength : Setup → Mark → Cell → ℕ
strength setup mark c = unwrap_or (option_map (λ base. reach_of base - octile mark.cell c) (base_of setup mark)) 0

-- what an entity gives to a player's influence at a cell: its strength where he owns it
abbrev pub share : Setup → ℕ → Cell → Mark → ℕ
share setup player c mark = if mark.owner == player then strength setup mark c else 0

-- the influence of a player at a cell is the sum of the strengths of his entities
abbrev pub influence : Setup → List Mark → ℕ → Cell → ℕ
influence setup marks player c = sum_by (share setup player c) marks
