-- The words that the proofs here name again and again, passed on from one place. Declares nothing.
pub use Rattle.sim_fact_lists.proofs.{Holding.{has_land, noted_held, put_is, put_named}, Ids.{with_behind, with_first}}
pub use Rattle.sim_fact_lists.proofs.OneFact.{Above, above_at, above_less, ascends, found_above, found_all, found_id, Missing, missing_without, only_itself}
pub use Rattle.sim_fact_lists.proofs.OneFact.{part_is, placed_first, Rising, rising, rising_placed, rising_without, without_missing}
pub use Rattle.sim_fact_lists.proofs.Standing.{found_read, found_there, not_there, nothing_new, put_new, put_nothing, put_over}
pub use Rattle.{sim_fact_lists.specs.Changes.{Belongs, HoldsIfAny, id_in, part_noted, Stands}, sim_laws.proofs.Validity.{all_at, find_has}}
pub use Rattle.sim_range.specs.Buckets.{AreBuckets, ArePlaced, bucket_at, bucket_key, changed_at, facts_at, held_in, in_bucket, is_in, is_in_bucket, part_in}
pub use Rattle.sim_range.specs.Common.{Ascend, cell_of, Fact, fact_with, Holds, id_of_fact, in_mask, is_near, IsHeld, IsLand, IsPlaced, IsStrictlyIncreasing}
pub use Rattle.sim_range.specs.Common.{Land, Point, Range, seen_among, square, with_id, with_only, within_among, without_id}
pub use Rattle.sim_range.specs.{declared.{bucket.Bucket.Bucket, plan.Plan.Plan, ready.Sights.Sights, sight.Sight.Sight, span.Area.Area}, Sights.AgreeElsewhere}
pub use Rattle.sim_range.specs.Sights.{AreApart, AreChanging, AreInView, AreKept, AreReady, AreSights, AreSightsIfAny, below_bucket, differ, HasOnlyMoved}
pub use Rattle.sim_range.specs.Sights.{HasPlace, HaveRooms, ids_at, ids_of, is_among, is_seen, is_seen_by, IsBeside, IsClose, IsIn, IsInner, IsOut, sees}
pub use Rattle.{sim_range.specs.Sights.{SeesFrom, SeesWithin, sight, turned, turned_seen, turned_watchers, view}, sim_system.proofs.Facts.placed_behind}
pub use Rattle.sim_system.specs.{declared.{kind.Kind.Kind, note.Note.Note}, Meanings.seen_by_vision, Notes.{noted, NoteFits, placed, with_kept, without}}
pub use Rattle.std.proofs.Common.{All, ap, arith, Bool, cond, false, get_or, inl, inr, IsPermutation, length, List, map, None, not, Option, pos, refl, set}
pub use Rattle.std.proofs.Common.{slice_index, Some, subst, suc, sum_by, sym, take, true, vec_items, zero, ℕ, ℤ, [], ◌%◌, ◌*◌, ◌++◌, ◌+◌, ◌-ℤ◌, ◌/◌, ◌<ℤ◌, ◌<◌}
pub use Rattle.std.proofs.{Common.{◌∙◌, ◌∷◌, ◌≡◌, ◌≤ℤ◌, ◌≤◌}, lemmas.Bool.{and_parts, cases_eq, cases_lt, cond_both, Decides.nat_tests, eq-eqb, eqb-true}}
pub use Rattle.std.proofs.lemmas.{Bool.{le-ltb, lt-ltb, ne_eqb}, Int.ints, List.Elements.{All-cons, All-filter, All-head, All-tail, All-weaker}}
pub use Rattle.std.proofs.lemmas.List.{Folds.{list_any_at, list_any_more}, get_or_read, Kept.AllPairs-from_increasing, length-map, map-set}
pub use Rattle.std.proofs.lemmas.List.Sorted.{IsNonDecreasingBy-from_sort, IsPermutation-append_left, IsPermutation-cons, IsPermutation-middle}
pub use Rattle.std.proofs.lemmas.List.Sorted.{IsPermutation-refl, IsPermutation-sym, IsPermutation-trans, list_any-IsPermutation, searched}
pub use Rattle.std.proofs.{lemmas.{List.{Sorted.sum_by-IsPermutation, Sums.sum_by-cons, take_all}, Nat.{mul-add-lt, mul-le}}, Math.Seq.map-set_same}
pub use Rattle.std.specs.{List.{insert, remove, Sorted.{IsBinarySearchResult, IsNonDecreasing}}, Ordering.nat_cmp, Prelude.{Err, filter, IfSome, if◌then◌else◌}}
pub use Rattle.std.specs.Prelude.{is_some, IsSome, MatchOption, nat_lt, Ok, unsigned_abs, vec_capacity, vec_len, ◌&&◌, ◌==◌, ◌||◌}
