-- The words of other crates that the files here name again and again, passed on from one place. Declares nothing.
pub use Rattle.sim_base.specs.{Commands.is_near, declared.{place.Point.Point, setup.Land.Land}, Limits.IsLand, Places.{cell_of, is_inside, IsPlaced, square}}
pub use Rattle.{sim_base.specs.Rows.{in_mask, size_of}, sim_fact_lists.specs.{Changes.{Ascend, Holds, IsHeld, with_only}, Ids.{with_id, without_id}}}
pub use Rattle.sim_system.specs.{declared.{fact.Fact.Fact, kind.Kind.TheVariants.Range}, Meanings.{built, cleared, counted, MayHear, seen_among, told}}
pub use Rattle.{sim_system.specs.{Meanings.within_among, Notes.{AreInRange, fact_with, id_of_fact}}, std.specs.List.{list_any, Sorted.IsStrictlyIncreasing}}
