-- The words that the proofs here name again and again, passed on from one place. Declares nothing.
pub use Rattle.sim_base.specs.Commands.{commanded, commanded_by, created, has_room, is_enemy, is_near, is_ordered, is_placeable, new_row, placed_on, released}
pub use Rattle.sim_base.specs.Commands.{removed, sent, set_on, spot, stopped, trained, trains, with_new, with_ordered}
pub use Rattle.sim_base.specs.declared.{command.Command.{Command, TheVariants.{Attack, Delete, Place, Resign, Stop, Train}}, place.{Cell.Cell, Point.Point}}
pub use Rattle.sim_base.specs.declared.{setup.{First.First, Setup.Setup}, state.{Aim.Aim, Motion.{Motion, TheVariants.{Going, Still}}, Row.Row, State.State}}
pub use Rattle.sim_base.specs.{declared.template.{Arms.Arms, Template.Template}, Limits.{Both, has_health, IsInside, IsKnownRow, IsLooselyValid, IsSetup}}
pub use Rattle.sim_base.specs.{Limits.{IsState, IsTemplate, IsValid, IsValidAim, IsValidMotion, IsValidRow}, Places.{beside_open, cell_of, cells_of, centre_of}}
pub use Rattle.sim_base.specs.Places.{entry, Field, is_free, is_inside, is_straight, is_within, IsOnGround, IsStep, neighbour, same_cell, Size, square}
pub use Rattle.sim_base.specs.{Places.{step_cost, Table, table_of}, Rows.{arms_of, enemies_of, id_of, in_mask, row_of, size_of, target_of, template_of}}
pub use Rattle.sim_base.specs.{Turn.{aimed, first_state, hit, moved}, Ways.{cost_by, Costs, end_key, first_points, go, is_before, IsCost, IsEnd, IsFound}}
pub use Rattle.sim_base.specs.Ways.{IsPredecessor, IsTrail, least_of, Reached, Source, stay, step_from, steps_of, trail_of, Walk, way_between, waypoints}
pub use Rattle.std.proofs.Common.{All, ap, append-nil, ap₂, arith, Bool, cond, eq-eqb, eqb, eqb-true, false, filter, filter_map, find, fold, get_or, inl, inr}
pub use Rattle.std.proofs.Common.{int_le, int_lt, le-leb, leb, length, List, lt-ltb, ltb, ltb-true, map, MatchBool, MatchOption, nat_eq, ne_eqb, negsuc, None}
pub use Rattle.std.proofs.Common.{not, Option, option_and_then, option_map, pos, refl, reverse, slice_get, Some, subst, suc, sym, true, true≢false}
pub use Rattle.std.proofs.Common.{unsigned_abs, zero, ℕ, ℤ, ⊎_elim, [], ◌&&◌, ◌*◌, ◌++◌, ◌+ℤ◌, ◌+◌, ◌-ℤ◌, ◌-◌, ◌/◌, ◌<◌, ◌||◌, ◌∙◌, ◌∷◌, ◌≡◌, ◌≢◌, ◌≤ℤ◌, ◌≤◌}
pub use Rattle.std.proofs.{Common.◌⊎◌, lemmas.Bool.{and_from, and_parts, cases_Bool, cases_lt, cond-true, cond_both, eqb-false, not-true, or_cases, or_left}}
pub use Rattle.std.proofs.lemmas.{Int.ints, List.{Elements.{All-cons, All-head, All-map, All-nil, All-tail, All-weaker}, length-map, map-append}, Nat.mul-le}
pub use Rattle.std.{proofs.lemmas.Option.{cond_some, slice_get_within}, specs.Cmp.Lexicographic.nat_list_cmp_total}
pub use Rattle.std.specs.{List.{list_any, range_with_len, Sorted.IsStrictlyIncreasing}, Option.option_eq, Prelude.{is_some, IsTrue, unwrap_or, ◌==◌}}
unfoldable pub use Rattle.sim_base.specs.{Places.root, Ways.way_of}
