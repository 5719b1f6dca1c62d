-- The words that the proofs here name again and again, passed on from one place. Declares nothing.
pub use Rattle.sim_base.specs.{Commands.{has_room, is_enemy, is_ordered, spot, trains}, declared.change.Change.{Change, TheVariants.{Create, Owner, Remove}}}
pub use Rattle.sim_base.specs.declared.command.{Command.{Command, TheVariants.{Attack, Delete, Place, Resign, Stop, Train, Walk}}, PlayerCommand.PlayerCommand}
pub use Rattle.sim_base.specs.declared.{memory.OutOfMemory.OutOfMemory, place.{Cell.Cell, Point.Point}, setup.Setup.Setup, state.{Row.Row, State.State}}
pub use Rattle.sim_base.specs.{Limits.IsSetup, Places.{centre_of, is_inside}, Rows.{id_of, row_of, size_of, template_of}}
pub use Rattle.{sim_laws.proofs.Commanding.spot_on_ground, sim_orders.specs.{declared.task.Task.Task, Orders.{Fulfils, IsGiven, IsPlanned, kind_of, plan_for}}}
pub use Rattle.{sim_orders.specs.Orders.spot_for, sim_plans.proofs.{Answered.of_answer, Bounds.{found_inside, found_owned}, CommandPlan.command_is_own}}
pub use Rattle.sim_plans.{proofs.CommandPlan.command_is_planned, specs.Plans.{command_plan_by, ordered_changes, place_changes, sent_changes, set_on_changes}}
pub use Rattle.{sim_plans.specs.Plans.{stop_changes, train_changes}, std.proofs.Common.{ap, arith, Bool, cond, count_by, Err, false, filter, flat_map, get_or}}
pub use Rattle.std.proofs.Common.{inl, inr, length, List, map, None, Ok, Option, refl, Result, rules, Some, subst, sym, take, true, ℕ, [], ◌-◌, ◌<◌, ◌==◌, ◌∙◌}
pub use Rattle.std.proofs.{Common.{◌∷◌, ◌≡◌, ◌≤◌}, lemmas.{Bool.{cases_lt, cond-true, eq-eqb, leb-false, ne_eqb}, List.Folds.{list_any_at, list_any_none}}}
pub use Rattle.std.proofs.lemmas.{List.{get_or_default, Sorted.{IsNonDecreasingBy-from_sort, list_any-IsPermutation, searched}}, Option.get_or_from_slice_get}
pub use Rattle.std.specs.{List.{list_any, Sorted.{IsBinarySearchResult, IsNonDecreasing, IsPermutation}}, Ordering.nat_cmp}
pub use Rattle.std.specs.Prelude.{IfOk, is_ok, nat_lt, option_and_then, slice_get, ◌&&◌}
