-- The words that the proofs here name again and again, passed on from one place. Declares nothing.
pub use Rattle.sim_base.specs.{Places.{back, cell_at, forward, level, same_cell}, Ways.{go, IsLeastCost, stay}}
pub use Rattle.sim_grid.{proofs.Bits.{AreBits, bits_more, bits_past}, specs.Grids.{AreStepsFrom, is_open_at, is_open_to}}
pub use Rattle.sim_laws.proofs.Neighbours.{cell_at-is, cell_at-some, neighbour-back, neighbour-below_eight, neighbour-on, same_by_parts, same_cell-self}
pub use Rattle.{sim_laws.proofs.{Neighbours.{same_cell-true, straight-in_line}, Trips.walk-on}, sim_search.specs.Common.{beside_open, bit_at, Cell, Field}}
pub use Rattle.sim_search.specs.Common.{field_of_grid, is_free, is_straight, IsCost, IsOnGround, IsStep, neighbour, octile, place_of, Size, step_cost, Walk}
pub use Rattle.sim_search.specs.declared.{aim.Aim.Aim, costs.Costs.Costs, entry.Entry.Entry, labels.Flood.Flood, search.Search.Search, table.Table.Table}
pub use Rattle.sim_search.specs.{Estimates.{estimate_to, IsEstimate, IsGuide}, Floods.{alone, AreLabels, beside, entry_in, Fills, Flooded, Floods, HasLabel}}
pub use Rattle.sim_search.specs.Floods.{HasShoreLabel, is_late, is_none_late, IsJoined, IsLabel, IsOpenStep, IsReached, IsShore, itself, LabelsTell, Marks}
pub use Rattle.sim_search.specs.{Floods.{NoLabelIsClosed, on, place_at, size_in, Spreads, unlabelled, work_left}, Moves.{AreMoves, may_go, step_to}}
pub use Rattle.sim_search.specs.Queues.{AreCosts, AreCostsUpTo, Begins, bucket_in, cost_in, Drains, Empties, entry_at, Expands, has_cell, HasCost, HasStopped}
pub use Rattle.sim_search.specs.Queues.{is_lower_than, IsComeTo, IsEarly, IsKept, IsLowered, IsSearch, known, LoweringKeeps, Lowers, Progress, read_entry}
pub use Rattle.sim_search.specs.Queues.{Ready, size_of, taken_in, TakenInOrder, TakenIsLeast, takens, Takes, TakingKeeps, untaken, Waits}
pub use Rattle.std.proofs.Common.{All, ap, ap₂, arith, Bool, cond, Contains, count_by, drop, eq-eqb, eqb, Err, false, get_or, inl, inr, length, length-append}
pub use Rattle.std.proofs.Common.{List, lt-ltb, ltb, ltb-true, map, max, min, nat_eq, ne_eqb, None, not, Ok, OnOk, Option, option_and_then, pos, refl}
pub use Rattle.std.proofs.Common.{replicate, Result, rules, set, Some, subst, suc, sum_by, sym, take, true, true≢false, zero, ℕ, ℤ, ⊎_elim, [], ◌%◌, ◌&&◌, ◌*◌}
pub use Rattle.std.proofs.{Common.{◌++◌, ◌+ℤ◌, ◌+◌, ◌-◌, ◌/◌, ◌<◌, ◌||◌, ◌∙◌, ◌∷◌, ◌≡◌, ◌≢◌, ◌≤◌, ◌⊎◌}, lemmas.Bool.{and_from, and_parts, cases_Bool, cases_eq}}
pub use Rattle.std.proofs.lemmas.{Bool.{cases_lt, cond-false, cond-true, cond_both, eqb-true}, Int.ints, List.{at_drop_more, drop_all, Elements.All-get_or}}
pub use Rattle.std.proofs.lemmas.List.Elements.{All-replicate, All-weaker, Contains-append_left, Contains-get_or, Contains-push, Contains-push_cases}
pub use Rattle.std.proofs.lemmas.List.{get_or-map, get_or-replicate, get_or-set_other, get_or-set_same, get_or_default, get_or_past, length-map}
pub use Rattle.std.proofs.lemmas.List.{length-replicate, map-set, nil_from_length, replicate_more, set-get_or, Sums.{count_by-le-length, sum_by-set}, take_all}
pub use Rattle.std.proofs.lemmas.{List.take_more, Nat.{Bits.shr_and_one, same_from_place}, Option.{cond_some, option_and_then_some}, Result.IfOk-from_err}
pub use Rattle.std.{proofs.Math.Nat.eq-or-lt_of_le, specs.{Int.abs_diff, Option.{is_none, is_some}}}
