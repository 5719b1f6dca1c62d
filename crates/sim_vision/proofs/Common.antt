-- The words that the proofs here name again and again, passed on from one place. Declares nothing.
pub use Rattle.sim_base.{proofs.AppendedTexts.IsSplitPoint-appended, specs.declared.{memory.OutOfMemory.OutOfMemory, place.Point.Point}}
pub use Rattle.sim_base.specs.{Limits.{IsKnownRow, IsTemplate, IsValidRow}, Places.{is_inside, IsPlaced}, Rows.template_of}
pub use Rattle.sim_trail.proofs.Merging.{marks_ascend, sum_follows}
pub use Rattle.sim_trail.specs.Shifts.{change_of, end_of, IsAscending, IsPlacedRow, mark_at, mark_of, marks_of, same_mark, SumFollows}
pub use Rattle.sim_vision.specs.Common.{Born, born, Cell, cell_of, cells_of, Gone, gone, IsOnGround, IsRoot, IsSetup, IsValid, list_all, list_any, Mark}
pub use Rattle.sim_vision.specs.Common.{range_with_len, Row, Setup, Shift, Size, size_of, State, Template, weight_born, weight_gone}
pub use Rattle.sim_vision.specs.declared.{crossing.Crossing.Crossing, fault.SightFault.{SightFault, TheVariants.{Length, NotBit, Unseen}}, fog.Fog.Fog}
pub use Rattle.sim_vision.specs.{declared.span.Span.Span, Fogs.{extent_of, IsSameExtent}, Keeping.{extent_in, Keeps}, Told.{cells_where, explored_in}}
pub use Rattle.sim_vision.specs.{Told.{sight_line, sight_lines, sight_text, visible_in}, Vision.{all_counts, all_seen, all_visible, blind, cells_in, count_at}}
pub use Rattle.sim_vision.specs.Vision.{counts_of, explored_with, HasReach, is_bit, is_in_disc, is_missed, is_set, is_unseen, is_visible, joined_at, last_of}
pub use Rattle.sim_vision.specs.Vision.{part_of, players_of, reach_of, reaches_of, refusal_of, sees, visible_of, Vision, vision_after, vision_next, was_visible}
pub use Rattle.sim_vision.specs.Watching.{area_of, AreLit, BeginsWith, CanFollow, CanTurn, CanTurnAt, count_in, Extent, flag_in, HasFollowed, is_in_row}
pub use Rattle.sim_vision.specs.Watching.{is_in_span, is_near, is_watched, is_within, IsAt, IsKnownCrossing, IsKnownMark, IsKnownShift, IsOwnedBy, IsRowTurned}
pub use Rattle.sim_vision.specs.Watching.{IsTurned, IsTurnedAt, IsTurnedBelow, mark_sees, one_if, place_of, start_of, weight_at}
pub use Rattle.std.proofs.Common.{All, ap, append-nil, append_assoc, arith, Bool, cond, count_by, drop, eqb, false, get_or, get_or-set_other, get_or-set_same}
pub use Rattle.std.proofs.Common.{inl, inr, int_le, int_lt, leb, length, length-append, length-drop, List, ltb, map, max, min, None, not, Option, pos, refl}
pub use Rattle.std.proofs.Common.{rules, set, Some, subst, suc, sym, take, true, zero, ℕ, ℤ, ⊎_elim, [], ◌%◌, ◌*◌, ◌++◌, ◌+◌, ◌-◌, ◌/◌, ◌<ℤ◌, ◌<◌, ◌∙◌, ◌∷◌}
pub use Rattle.std.proofs.{Common.{◌≡◌, ◌≤ℤ◌, ◌≤◌, ◌⊎◌}, lemmas.Bool.{and_from, and_left, and_parts, and_right, cases_Bool, cases_eq, cases_lt, cases_order}}
pub use Rattle.std.proofs.lemmas.Bool.{Decides.same_from_decides, eq-eqb, eqb-true, le-leb, le-ltb, leb-true, lt-leb, lt-ltb, ltb-true, ne_eqb, or_left}
pub use Rattle.std.proofs.lemmas.{Bool.{or_parts, or_right, true≢false}, Int.ints, List.Elements.{All-append, All-cons, All-get_or, All-head, All-map, All-nil}}
pub use Rattle.std.proofs.lemmas.List.{Elements.{All-tail, All-weaker}, ext_get_or, FromFn.{get_or-map-range_with_len, length-map-range_with_len}, get_or-drop}
pub use Rattle.std.proofs.lemmas.List.{get_or-map, get_or-replicate, get_or-take, get_or_past, length-map, length-replicate, length-take-le}
pub use Rattle.std.proofs.lemmas.{List.{Sums.{count_by-le-length, sum_by-cons}, take-append-drop, take_all}, Nat.mul-le, Option.slice_get_within}
pub use Rattle.std.{proofs.Math.{Nat.{div-add-mod, mod-lt}, Seq.{drop-append-add, take-append_seam}}, specs.declared.alloc.Global.Global}
pub use Rattle.std.specs.{List.{flat_map, sum_by, zip}, Prelude.{Err, IfOk, IfSome, MatchOption, Ok, replicate, Result, string_bytes, Vec, ◌&&◌, ◌||◌}}
unfoldable pub use Rattle.sim_trail.specs.Shifts.{shifts_between}
