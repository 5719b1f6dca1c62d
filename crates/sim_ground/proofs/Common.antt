-- The words that the proofs here name again and again, passed on from one place. Declares nothing.
pub use Rattle.sim_base.specs.{Commands.rect_covers, declared.{place.{Cell.Cell, Point.Point, Rect.Rect}, setup.Land.Land}}
pub use Rattle.sim_base.specs.Places.{cells_of, centre_of, covers, entry, Field, is_inside, is_rect_inside, IsOnGround, IsPlaced, IsStep, same_cell, Size}
pub use Rattle.{sim_base.specs.{Rows.size_of, Ways.{least_of, stay, Walk}}, sim_fact_lists.proofs.{Holding.holds_where, OneFact.{count_after, missing_without}}}
pub use Rattle.sim_fact_lists.{proofs.OneFact.{not_found, noted_only, part_is, rising}, specs.Changes.{Holds, HoldsIfAny, id_in, one_if, part_noted, passes}}
pub use Rattle.{sim_grid.specs.Grids.{field_of_grid, is_open_at, IsGrid, OpenCells, place_of}, sim_ground.specs.Cells.{IsSmall, IsSmallIfAny, meet, nearer}}
pub use Rattle.sim_ground.specs.{Cells.{overlap, overlaps_any, row_of, rows_of, spot_key}, Closing.{in_row, in_rows, IsOver}, declared.opened.Opened.Opened}
pub use Rattle.sim_ground.specs.Layers.{AreAtMost, AreLayers, AreLayersOf, AreOpenWhereNone, AreRegions, layers_among, layers_at, LayersChange, LayersRise}
pub use Rattle.sim_ground.specs.{Layers.{LayersTurn, MayChange, MayStep, most_layers, no_part, part_covers, Steps}, Opening.{builds, IsKept, IsOpened}}
pub use Rattle.sim_laws.proofs.{Neighbours.{Has, Has-cells_of, Has-of_cells_of, neighbour-on, same_by_parts, same_cell-true}, Rounds.{costs, costs-le}}
pub use Rattle.{sim_laws.proofs.Rounds.{IsCost-from_costs, way_of-same}, sim_path.specs.Answers.way_in, sim_search.proofs.Regions.{ashore, from-on, from-open}}
pub use Rattle.sim_search.{proofs.Regions.{IsAshore, joined-chain, joined-on, joined-reached}, specs.Floods.{alone, AreLabels, beside, IsJoined, IsLabel}}
pub use Rattle.{sim_search.specs.Floods.{IsShore, itself, label_in, on}, sim_system.specs.declared.ask.{Answer.TheVariants.{Found, Place, Truth}, Ask.Ask}}
pub use Rattle.sim_system.specs.declared.{fact.Fact.Fact, kind.Kind.TheVariants.Ground, note.Note.{Note, TheVariants.{Aimed, Born, Gone, Moved, Owned}}}
pub use Rattle.sim_system.specs.{declared.Way.Way, Meanings.{answer, AskFits, field_among, is_free_among, is_open_among, kind_for, spot_among, way_told}}
pub use Rattle.sim_system.specs.Notes.{fact_with, kept, noted, NoteFits, part_for, with_kept}
pub use Rattle.std.proofs.Common.{ap, arith, Bool, cond, drop, false, filter, flat_map, fold, get_or, inl, inr, int_le, int_lt, length, length-set, length-take}
pub use Rattle.std.proofs.Common.{List, map, negsuc, None, not, Option, pos, refl, replicate, rules, set, Some, subst, suc, sym, take, true, zero, ℕ, ℤ, ⊎_elim}
pub use Rattle.std.proofs.{Common.{[], ◌%◌, ◌*◌, ◌++◌, ◌+◌, ◌/◌, ◌<ℤ◌, ◌<◌, ◌∙◌, ◌∷◌, ◌≡◌, ◌≤ℤ◌, ◌≤◌, ◌⊎◌}, lemmas.Bool.{and_from, and_parts}}
pub use Rattle.std.proofs.lemmas.{Bool.{Decides.nat_tests, or_cases, or_left, or_right}, Int.{ints, to_z-of_z}, List.{append-nil, Concat.flat_map-append}}
pub use Rattle.std.proofs.lemmas.List.{Elements.filter-append, get_or-replicate, get_or-set_other, get_or-set_same, get_or_default, length-replicate}
pub use Rattle.std.proofs.lemmas.{List.{map-append, Sums.{count_by-le-length, count_by_more_no, count_by_more_yes, fold-append, sum_by-cons}}, Nat.mul-add-lt}
pub use Rattle.std.{proofs.{lemmas.Nat.same_from_place, Math.Logic.{∥∥₁_elim, ∥∥₁_prop}, Props.props}, specs.List.{list_all, list_any, range_with_len}}
pub use Rattle.std.specs.Prelude.{count_by, Err, is_some, IsOk, IsTrue, MatchOption, nat_le, nat_lt, Ok, OnErr, OnOk, option_map, Result, ◌&&◌, ◌==◌, ◌||◌}
pub use mir.{Syntax.w32, Val.SFits}
unfoldable pub use Rattle.sim_base.specs.Ways.{way_of}
