-- The words that the proofs here name again and again, passed on from one place. Declares nothing.
pub use Rattle.sim_base.specs.{declared.{memory.OutOfMemory.OutOfMemory, place.{Cell.Cell, Point.Point}}, Places.{back, cell_of, centre_of, Field, forward}}
pub use Rattle.sim_base.specs.{Places.{is_free, IsOnGround, IsStep, level, neighbour, octile, same_cell, Size, step_cost}, Ways.{end_key, first_points, go}}
pub use Rattle.sim_base.specs.Ways.{is_before, IsCost, IsEnd, IsFound, IsPredecessor, IsTrail, IsWay, LeadsTo, lesser_of, stay, Walk, Way, waypoints}
pub use Rattle.sim_grid.{proofs.{Beside.same_or_not, Bits.{AreBits, bits_more, bits_past}}, specs.Grids.{field_of_grid, is_open_at, IsGroundSize}}
pub use Rattle.sim_laws.proofs.{Commanding.inside-on_ground, Neighbours.{cell_at-some, neighbour-back, neighbour-below_eight, neighbour-on, same_by_parts}}
pub use Rattle.sim_laws.proofs.{Neighbours.{same_cell-self, same_cell-true}, Rounds.{least_step, way-is_way_of}, Trips.walk-on}
pub use Rattle.sim_path.specs.{Answers.way_in, declared.{front.Front.Front, nearest.{Ends.Ends, Window.Window}, reached.Reached.Reached}}
pub use Rattle.sim_path.specs.Nearest.{AreAway, Considers, IsAbout, IsInPart, IsInRows, IsInWindow, IsScanned, leads_away, shore_label}
pub use Rattle.sim_path.specs.Questions.{AreDead, floor_cost, floor_of, HasTightStep, IsAcross, IsAlong, IsFirstTight, IsFloor, IsFront, IsTight, IsTightStep}
pub use Rattle.sim_path.specs.Questions.{IsTightTrail, IsTightWay, IsUnknown, known_or, LeadsAcross, LeadsAlong, left_of, marked_in, marks_of, octile_from}
pub use Rattle.sim_path.specs.{Questions.size_of_marks, WayEnds.{AreEnds, HasGoneTo, IsBeforeCell, IsBeforeRow, IsBest, IsBestOf, IsFirstLead, IsNoneOf}}
pub use Rattle.{sim_path.specs.WayEnds.{IsTrailToEnd, IsWayEnd, key_to, LeadBack, LeadsBy}, sim_search.proofs.{Beginning.entry_at-all, Moves.back_step}}
pub use Rattle.sim_search.proofs.Moves.{beside_of, estimate-falls, estimate-guides, even_step, free-of_walk, move-of, octile-near, octile-none, octile-self}
pub use Rattle.sim_search.proofs.{Moves.{step_back, turned}, Regions.labels-tell, Rows.{entry_at-off, entry_at-set_other, entry_at-set_same, has_cell-true}}
pub use Rattle.sim_search.specs.{declared.{aim.Aim.Aim, costs.Costs.Costs, search.Search.Search}, Estimates.{estimate_to, IsEstimate, IsGuide, IsNarrow}}
pub use Rattle.sim_search.specs.{Floods.{AreLabels, beside, IsReached, IsShore, itself, label_in}, Moves.step_to, Queues.{AreCosts, cost_in, entry_at}}
pub use Rattle.{sim_search.specs.Queues.{has_cell, HasCost, HasStopped, IsSearch, IsSearched, known, Ready, size_of, taken_in}, std.proofs.Common.{All, ap}}
pub use Rattle.std.proofs.Common.{append-nil, append_assoc, ap₂, arith, Bool, cond, Contains, eq-eqb, eqb, Equal, Err, false, get_or, Greater, IfOk, inl, inr}
pub use Rattle.std.proofs.Common.{leb, length, length-append, Less, List, lt-ltb, ltb, ltb-true, map, max, min, nat_eq, ne_eqb, None, not, Ok, Option, Ordering}
pub use Rattle.std.proofs.Common.{pos, refl, Result, reverse, rules, set, Some, subst, suc, sym, take, true, true≢false, zero, ℕ, ⊎_elim, [], ◌%◌, ◌&&◌, ◌*◌}
pub use Rattle.std.proofs.{Common.{◌++◌, ◌+ℤ◌, ◌+◌, ◌-◌, ◌/◌, ◌<◌, ◌^◌, ◌∙◌, ◌∷◌, ◌≡◌, ◌≢◌, ◌≤◌, ◌⊎◌}, lemmas.Bool.{and_from, and_parts, cases_Bool, cases_lt}}
pub use Rattle.std.proofs.lemmas.{Bool.{cond-false, cond-true, eqb-true, false≢true, le-leb, leb-true}, Int.ints, List.Elements.{All-cons, All-get_or, All-nil}}
pub use Rattle.std.proofs.lemmas.List.{Elements.{All-replicate, All-take, All-weaker, Contains-append_left, Contains-push, Contains-push_cases}, length-map}
pub use Rattle.std.proofs.lemmas.List.{length-take-le, map-append, map-set, MinMax.ranks_by, same_from_push, Sorted.{All-permutation, IsPermutation-reverse}}
pub use Rattle.std.proofs.lemmas.{List.{take-map, take_all, take_min, take_more}, Nat.Bits.shr_and_one, Option.{none-some, same_Some}, Result.IfOk-from_err}
pub use Rattle.std.{proofs.Math.Nat.eq-or-lt_of_le, specs.Cmp.{IsStrictWeakOrder, Lexicographic.{nat_list_cmp_total, slice_cmp, slice_partial_cmp}}}
pub use Rattle.std.specs.{Int.{abs_diff, bit_at}, Option.{is_some, option_and_then, option_eq, SomeIff}}
pub use Rattle.std.specs.{Ordering.{as_partial_cmp, is_lt, is_some_and, nat_cmp, ordering_then, partial_lt, partial_ordering_then}, Prelude.nat_le}
unfoldable pub use Rattle.sim_base.specs.Ways.{way_of}
