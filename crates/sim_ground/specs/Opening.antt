-- What a ground keeps beside its obstructions.
use Rattle.{sim_base.specs.{declared.setup.Land.Land, Rows.size_of}, sim_ground.specs.{declared.opened.Opened.Opened, Layers.AreLayersOf}}
use Rattle.sim_system.specs.declared.{fact.Fact.Fact, note.Note.{Note, TheVariants.{Aimed, Born, Gone, Moved, Owned}}}
use Rattle.std.specs.Prelude.{Bool, false, is_some, List, Option, Some, ◌≡◌}

-- the size is that of the land, and the layers are those of the facts
pub record IsOpened (land : Land) (facts : List Fact) (o : Opened) : Type 0 where
  pub size : o.cover.grid.size ≡ size_of land
  pub layers : AreLayersOf land facts o.cover.layers.items

-- both are kept where there is a land, and only there
pub record IsKept (land : Option Land) (facts : List Fact) (kept : Option Opened) : Type 0 where
  pub same : is_some kept ≡ is_some land
  pub each : (l : Land) (o : Opened) → land ≡ Some l → kept ≡ Some o → IsOpened l facts o

-- whether an obstruction comes or goes
abbrev pub builds : Note → Bool
builds (Born fact) = is_some fact.rect
builds (Gone fact) = is_some fact.rect
builds (Moved id from to) = false
builds (Owned id from to) = false
builds (Aimed id from to) = false
