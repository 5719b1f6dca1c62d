-- The words that the proofs here name again and again, passed on from one place. Declares nothing.
pub use Rattle.sim_base.{proofs.ExampleMatches.{hut, no_id}, specs.{declared.state.Row.Row, Limits.{IsFrom, IsKnownRow, IsTemplate, IsValidRow}}}
pub use Rattle.{sim_base.specs.{Places.same_cell, Rows.template_of}, sim_grid.proofs.Beside.{place-below, places-apart, same_or_not}}
pub use Rattle.sim_laws.proofs.{Commanding.inside-on_ground, Neighbours.{neighbour-on, same_cell-self, same_cell-true}}
pub use Rattle.sim_territory.specs.Buildings.{GivesNothing, IsBuildingOf, share_of, strength_of}
pub use Rattle.sim_territory.specs.Common.{abs_diff, Base, Born, Cell, cells_of, Gone, IsOnGround, IsSetup, IsValid, list_all, Mark, marks_of, neighbour}
pub use Rattle.sim_territory.specs.Common.{octile, place_of, range_with_len, row_limit, Setup, Shift, Size, size_of, State, Template, weight_born, weight_gone}
pub use Rattle.sim_territory.specs.declared.{building.Building.Building, flood.Flood.Flood, sums.Sums.Sums}
pub use Rattle.sim_territory.specs.Holders.{AllWait, AreFound, AreFoundNear, AreHolders, AreInfluences, AreRooted, Fills, first, flag_at, GivesNoneAt}
pub use Rattle.sim_territory.specs.Holders.{ground_of, ground_size, has_most, held_ground, HeldGround, holder, holder_at, holder_by, is_root, is_root_under}
pub use Rattle.sim_territory.specs.Holders.{IsFoundOr, IsHeldRight, IsHeldStep, IsHolder, IsInBlock, IsReachedFrom, IsRooted, IsStayed, IsStepped, IsWet}
pub use Rattle.sim_territory.specs.Holders.{IsWetAt, IsWetted, on, roots_among, roots_of, Spreads, StepsOn, Waits, Wets, work_left}
pub use Rattle.sim_territory.specs.{Influence.{base_of, influence, reach_of, share, strength}, Realms.{holders_in, influences_in, RealmOf}, Spans.SpansNear}
pub use Rattle.sim_territory.specs.Tables.{AreShifted, coming, FitShifts, FitsShift, HasShapeOf, in_part, IsMarkIn, IsPlaceIn, IsShifted, IsSummed, leaving}
pub use Rattle.sim_territory.specs.Tables.{mark_in, MayMove, MaySumsMove, Moves, share_by, share_where, size_in, sum_at, sum_place, SumsMove}
pub use Rattle.sim_trail.{proofs.Merging.{marks_ascend, sum_follows}, specs.Shifts.{IsAscending, mark_of, SumFollows}}
pub use Rattle.std.proofs.Common.{All, ap, arith, Bool, cond, Contains, div-add-mod', drop, false, get_or, inl, inr, length, length-append, length-take}
pub use Rattle.std.proofs.Common.{length-take-le, List, lit<, map, max, min, mod-lt, mul-le-mul_right, mul_comm, None, Option, refl, replicate, set, Some}
pub use Rattle.std.proofs.Common.{subst, suc, sym, take, true, zero, zero-add, ℕ, ⊎_elim, [], ◌%◌, ◌*◌, ◌++◌, ◌+◌, ◌-◌, ◌/◌, ◌<◌, ◌↔◌, ◌∙◌, ◌∷◌, ◌≡◌, ◌≢◌, ◌≤◌}
pub use Rattle.std.proofs.{Common.◌⊎◌, lemmas.Bool.{and_from, and_left, and_parts, and_right, cases_Bool, cases_eq, cases_lt, cond-false, cond-true}}
pub use Rattle.std.proofs.lemmas.Bool.{Decides.nat_tests, eq-eqb, eqb-true, le-leb, le-ltb, leb-true, lt-leb, lt-ltb, ltb-true, ne_eqb}
pub use Rattle.std.proofs.lemmas.List.{append-nil, Concat.{flat_map-cons, get_or-flat_map}, Elements.{All-cons, All-get_or, All-head, All-map, All-nil}}
pub use Rattle.std.proofs.lemmas.List.Elements.{All-tail, All-weaker, Contains-append_left, Contains-push, Contains-push_cases, filter_more}
pub use Rattle.std.proofs.lemmas.List.FromFn.{get_or-map-range_with_len, get_or-range_with_len, length-map-range_with_len, length-range_with_len}
pub use Rattle.std.proofs.lemmas.List.{get_or-drop, get_or-map, get_or-replicate, get_or-set_other, get_or-set_same, get_or-take, get_or_default, length-drop}
pub use Rattle.std.proofs.lemmas.List.{length-map, length-replicate, length-set, map-append, nil_from_length, same_lists, Sums.sum_by-cons}
pub use Rattle.std.proofs.lemmas.{List.{Sums.{sum_by-set, sum_by_more, sum_by_more_le}, take_all}, Nat.{mul-add-lt, same_from_place}, Option.slice_get_cases}
pub use Rattle.std.{proofs.Math.Nat.{div-lt_iff_lt-mul, eq-or-lt_of_le}, specs.{List.flat_map, Prelude.{codes, count_by, filter, find, IfSome, nat_le, nat_lt}}}
pub use Rattle.std.specs.Prelude.{not, option_and_then, option_map, slice_get, slice_range, sum_by, unwrap_or, vec_len, ◌&&◌, ◌==◌, ◌||◌}
unfoldable pub use Rattle.sim_trail.specs.Shifts.{shifts_between}
