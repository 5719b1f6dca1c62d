-- What the counts and the explored cells of a sight stand for.
use Rattle.std.specs.Prelude.{◌≡◌, ℕ, ◌≤◌, List, length, All, count_by}
use Rattle.sim_vision.specs.{Common.Cell, Common.IsSetup, Common.Mark, Common.Setup, Common.size_of, Fogs.extent_of, Vision.reaches_of}
use Rattle.sim_vision.specs.{Watching.AreLit, Watching.count_in, Watching.Extent, Watching.IsAt, Watching.IsKnownMark, Watching.mark_sees, declared.fog.Fog.Fog}

-- the ground of a match and its players
abbrev pub extent_in : Setup → Extent
extent_in setup = record { size = size_of setup.land; players = setup.players }

-- a fog counts the marks of a trail, and what it counts is explored
pub record Keeps (setup : Setup) (marks : List Mark) (discs : List ℕ) (fog : Fog) : Type 0 where
  pub limits : IsSetup setup
  pub reaches : discs ≡ reaches_of setup
  pub extent : extent_of fog ≡ extent_in setup
  pub few : length marks ≤ 4096
  pub known : All (IsKnownMark (extent_in setup) (reaches_of setup)) marks
  pub counts : (player : ℕ) (c : Cell) → IsAt (extent_in setup) player c →
      count_in (extent_in setup) fog.counts.items player c ≡ count_by (mark_sees (reaches_of setup) player c) marks
  pub lit : AreLit (extent_in setup) fog.counts.items fog.flags.items
