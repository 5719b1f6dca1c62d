-- The words that the proofs here name again and again, passed on from one place. Declares nothing.
pub use Rattle.sim_base.specs.{Commands.{aimed_at, field_of, halted}, Limits.{Both, has_health, IsKnownRow, IsValidRow}, Places.square}
pub use Rattle.{sim_base.specs.Turn.{along_found, chasing, moved_by}, sim_laws.proofs.{Commanding.known_template, Hitting.with_word, Neighbours.Has}}
pub use Rattle.sim_laws.proofs.{Removing.IsTarget, Validity.{all_at, Apart, apart, both_same, found_row, Has-of_filter, known_row, mapped_is_state, Stays}}
pub use Rattle.sim_plans.specs.Common.{Aim, aimed, applied, applied_all, Arms, arms_of, Change, Going, gone, hit, id_of, is_inside, is_near, IsInside}
pub use Rattle.sim_plans.specs.Common.{IsLooselyValid, IsSetup, IsStrictlyIncreasing, IsValidAim, IsValidMotion, Motion, moved, Point, Row, row_of, same_point}
pub use Rattle.sim_plans.specs.{Common.{Setup, size_of, State, Still, target_of, Template, template_of}, Plans.{aim_plan, goes_on, gone_plan, hit_plan}}
pub use Rattle.sim_plans.specs.{Plans.{IsOwnChange, IsPlanOf, move_plan, Plans, stance_changes, step_changes}, RowChanges.{AllFit, Fits, most_of, OfRow}}
pub use Rattle.{sim_plans.specs.RowChanges.{set_by, set_by_all, Suits}, std.proofs.Common.{All, ap, arith, Bool, cond, false, filter, find, flat_map, inl, inr}}
pub use Rattle.std.proofs.Common.{length, List, map, MatchOption, None, not, Option, pos, refl, rules, Some, subst, suc, sym, true, unsigned_abs, ℕ, ℤ, ⊎_elim}
pub use Rattle.std.proofs.{Common.{[], ◌*◌, ◌++◌, ◌-◌, ◌<◌, ◌∙◌, ◌∷◌, ◌≡◌, ◌≢◌, ◌≤ℤ◌, ◌≤◌}, lemmas.Bool.{and_parts, cond_both, eq-eqb, eqb-true, ne_eqb}}
pub use Rattle.std.proofs.lemmas.{Cmp.ranked, Int.ints, List.{Elements.{All-append, All-cons, All-head, All-nil, All-tail, All-weaker}, Sums.fold-append}}
pub use Rattle.std.specs.{List.list_any, Ordering.int_eq, Prelude.{is_some, IsSome, IsTrue, nat_le, option_and_then, slice_get, ◌&&◌, ◌==◌, ◌||◌}}
unfoldable pub use Rattle.sim_base.specs.Ways.{way_of}
