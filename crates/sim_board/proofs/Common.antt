-- The words that the proofs here name again and again, passed on from one place. Declares nothing.
pub use Rattle.sim_base.specs.Commands.{applied, applied_all, created, new_row, released, removed, watchers, with_new, with_row}
pub use Rattle.sim_base.specs.declared.{change.Change.Change, place.Point.Point, setup.{First.First, Land.Land, Setup.Setup}}
pub use Rattle.sim_base.specs.{declared.{state.{Aim.Aim, Row.Row, State.State}, template.Template.Template}, Limits.{IsFirst, IsLooselyValid, IsSetup, IsValid}}
pub use Rattle.{sim_base.specs.{Rows.{id_of, row_of, target_of}, Turn.first_state}, sim_board.specs.{Boards.{AreKept, IsWholeBy}, Hearing.all_told}}
pub use Rattle.{sim_board.specs.{Hearing.AllMayHear, Letting.{left_by, row_released, rows_released}}, sim_laws.proofs.{Neighbours.Has, Validity.Apart}}
pub use Rattle.{sim_laws.proofs.Validity.{apart, find_has, first_state_is_valid, found_row, map_agree, same_row}, sim_plans.proofs.Applying.fitting_keeps_loose}
pub use Rattle.sim_plans.proofs.{Bounds.found_placed, FactLists.{facts-unchanged, part-aimed_watch, removed_is, unheard}, Places.row_at}
pub use Rattle.sim_plans.proofs.Removing.{AreTold, change_told, first_told, id_is_some, IsTold, left_told, let_go_state, released_is_state, removed_is_left}
pub use Rattle.sim_plans.{proofs.Removing.{state_in_range, then_watching, watchers_are_watching}, specs.{Found.found, Releases.{AreWatching, release_all}}}
pub use Rattle.{sim_plans.specs.{RowChanges.{AllFit, Fits, OfRow}, SceneWords.IsStanding}, sim_system.specs.declared.{fact.Fact.Fact, kind.Kind.Kind}}
pub use Rattle.sim_system.specs.declared.{kind.Kind.TheVariants.{Census, Ground, Range, Watch}, note.Note.{Note, TheVariants.{Aimed, Born, Gone, Moved, Owned}}}
pub use Rattle.sim_system.specs.Meanings.{AreBuiltOnce, AreBuiltOnceAtMost, AreFed, four, IsBuiltOnceAtMost, IsFed, MayHear, Meaning, one_more, Systems, told}
pub use Rattle.sim_system.specs.{Notes.{AreInRange, fact_of, facts_of, hears, noted, NoteFits, posts, posts_born, posts_on}, RigWords.systems_by}
pub use Rattle.std.proofs.Common.{ap, ap₂, arith, Bool, cond, drop, false, filter, fold, get_or, inl, inr, length, length-set, List, map, MatchOption, None}
pub use Rattle.std.proofs.Common.{not, Option, refl, set, Some, subst, suc, sym, take, true, zero, ℕ, ⊎_elim, [], ◌+◌, ◌<◌, ◌∙◌, ◌∷◌, ◌≡◌, ◌≤◌}
pub use Rattle.std.proofs.lemmas.{Bool.{cases_eq, cond-false, cond-true, eq-eqb, eqb-true, ne_eqb}, List.{get_or-map, get_or-set_other, get_or-set_same}}
pub use Rattle.std.proofs.lemmas.{List.{get_or_default, length-map, map-id, same_lists, take_all}, Option.{slice_get-get_or, slice_get_cases}}
pub use Rattle.std.specs.{List.{remove, Sorted.IsStrictlyIncreasing}, Prelude.{Err, find, IsSome, Ok, OnOk, option_map, Result, slice_get, ◌==◌}}
