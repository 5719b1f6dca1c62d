-- The words that the proofs here name again and again, passed on from one place. Declares nothing.
pub use Rattle.sim_base.specs.{declared.setup.Land.Land, Limits.{IsLand, IsRawFrom}, Places.is_inside, Rows.size_of}
pub use Rattle.sim_fact_lists.specs.Changes.{AreHeld, Ascend, Belongs, Holds, HoldsIfAny, id_in, IsHeld, one_if, part_noted, passes, Stands, with_only}
pub use Rattle.sim_fact_lists.specs.{declared.group.Group.Group, Groups.{AreGroups, forgotten, group_with, GroupBelongs, GroupStands, HasRoom, ids_in}}
pub use Rattle.sim_fact_lists.specs.{Groups.{joined_by, key_of, keyed, KeysAscend, left_by, listed, without_key}, Ids.{IdBelongs, IdStands, with_id}}
pub use Rattle.{sim_fact_lists.specs.{Ids.without_id, Queues.{HasPlace, queued}}, sim_system.specs.declared.{fact.Fact.Fact, kind.Kind.Kind}}
pub use Rattle.sim_system.specs.declared.{kind.Kind.TheVariants.{Census, Ground, Range, Watch}, note.Note.{Note, TheVariants.{Aimed, Born, Gone, Moved, Owned}}}
pub use Rattle.sim_system.specs.Notes.{aim_of, AreInRange, fact_with, id_of_fact, IsInRange, keeps, kept, kept_of, noted, NoteFits, origin, part_for, placed}
pub use Rattle.{sim_system.specs.Notes.{with_changed, with_kept, without}, std.proofs.Common.{All, ap, arith, Bool, cond, drop, false, get_or, inl, inr}}
pub use Rattle.std.proofs.Common.{length, length-drop, List, map, None, not, Option, refl, rules, set, Some, subst, suc, sym, take, true, zero, ℕ, ℤ, [], ◌++◌}
pub use Rattle.std.proofs.{Common.{◌+◌, ◌-◌, ◌<◌, ◌∙◌, ◌∷◌, ◌≡◌, ◌≤◌}, lemmas.Bool.{cases_eq, cases_lt, cond_both, Decides.nat_tests, eq-eqb, eqb-true, le-ltb}}
pub use Rattle.std.proofs.lemmas.{Bool.{lt-ltb, ne_eqb}, Cmp.ranked, List.{drop-drop, Elements.{All-cons, All-head, All-nil, All-tail}}}
pub use Rattle.std.proofs.lemmas.List.{Kept.AllPairs-from_increasing, nil_from_length, Sorted.{answers_always, searched}, Sums.sum_by-cons}
pub use Rattle.std.{proofs.Math.Seq.map-set_same, specs.List.{cons_option, insert, remove, Sorted.{IsBinarySearchResult, IsNonDecreasingBy, IsSearchInRange}}}
pub use Rattle.std.specs.{List.Sorted.IsStrictlyIncreasing, Ordering.{nat_cmp, ordering_index}, Prelude.count_by}
pub use Rattle.std.specs.Prelude.{Err, filter, IfSome, is_ok, IsSome, IsTrue, MatchOption, MatchResult, nat_lt, Ok, OnErr, OnOk, option_map, Result, ◌==◌}
