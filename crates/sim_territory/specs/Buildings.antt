-- Buildings, as the table of influences takes them.
use Rattle.std.specs.Prelude.{◌≡◌, ℕ, ◌-◌, ◌≤◌, if◌then◌else◌, ◌==◌}
use Rattle.sim_territory.specs.{Common.Cell, Common.Mark, Common.octile, Common.Setup, Influence.share, declared.building.Building.Building}

-- the strength of a building at a cell
abbrev pub strength_of : Building → Cell → ℕ
strength_of building c = building.reach - octile building.cell c

-- what a building gives to a player's influence at a cell
abbrev pub share_of : Building → ℕ → Cell → ℕ
share_of building player c = if building.owner == player then strength_of building c else 0

-- the building stands where the entity does, is of the same owner, and gives what the entity gives
pub record IsBuildingOf (setup : Setup) (mark : Mark) (building : Building) : Type 0 where
  pub owner : building.owner ≡ mark.owner
  pub cell : building.cell ≡ mark.cell
  pub player : 1 ≤ building.owner
  pub near : building.reach ≤ 1280
  pub shares : (player : ℕ) (c : Cell) → share setup player c mark ≡ share_of building player c

-- the entity gives nothing to any player
abbrev pub GivesNothing : Setup → Mark → Type 0
GivesNothing setup mark = (player : ℕ) (c : Cell) → 1 ≤ player → share setup player c mark ≡ 0
