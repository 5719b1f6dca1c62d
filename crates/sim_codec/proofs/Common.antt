-- The words that the proofs here name again and again, passed on from one place. Declares nothing.
pub use Rattle.sim_base.specs.declared.{state.{Aim.Aim, Motion.{Motion, TheVariants.{Going, Still}}}, template.Arms.Arms}
pub use Rattle.{sim_base.specs.Limits.{IsArms, IsRawFrom, IsTemplate}, sim_bytes.specs.{declared.walk.Parts.Parts, Laws.{attack_back, entity_back}}}
pub use Rattle.sim_bytes.specs.{Laws.{health_back, moving_back, owner_back, position_back, stance_back}, Numbers.{length-u32_bytes, length-u64_bytes, u32_back}}
pub use Rattle.sim_bytes.specs.{Numbers.u64_back, Reading.{Reader, ◌>>=◌}, Rows.{has_stances, IsAttack, IsEntity, IsHealth, IsMotion, IsMoving, IsOwner}}
pub use Rattle.sim_bytes.specs.{Rows.{IsPoint, IsPosition, IsShort, IsStance}, SectionLaws.{Back, row_if_back, section_back}, Walking.{holds, IsAhead}}
pub use Rattle.sim_codec.specs.{Bits.{bits, row_bits}, Common.{attack_bytes, attack_part, Both, clock_bytes, entity_bytes, entity_part, first_chunks}}
pub use Rattle.sim_codec.specs.Common.{from_le_bytes, has_health, HasShortWay, health_bytes, health_part, id_of, is_holding, is_within, IsInside, IsKnownRow}
pub use Rattle.sim_codec.specs.Common.{IsSetup, IsState, IsStrictlyIncreasing, IsValid, IsValidAim, IsValidMotion, IsValidRow, list_any, motion_part}
pub use Rattle.sim_codec.specs.Common.{moving_bytes, number_at, old_spelling, One, owner_bytes, owner_part, Point, point_in, position_bytes, position_part}
pub use Rattle.sim_codec.specs.Common.{quick_bytes, Row, row_limit, row_of, rows_with, section, Setup, spelling, stance_bytes, stance_part, State, Tells}
pub use Rattle.sim_codec.specs.{Common.{Template, Two, Version, w16, w32, w64, Walk, with_id}, declared.{bits.Part.Part, fault.StateFault.StateFault}}
pub use Rattle.sim_codec.specs.Loading.{CanSay, HoldsNone, RefusedFor, sections_by, spelled_by, stances, StandsFor, start_bytes, version_of}
pub use Rattle.sim_codec.specs.PartLaws.{attack_like, health_like, id_in, is_some-map, lives_as, motion_like, passes, template_in}
pub use Rattle.{sim_codec.specs.Reading.{AreGood, HasParts, HaveSamePlaces, IsLike, place_of, rows_in}, std.proofs.Common.{All, ap, append_assoc, arith, Bool}}
pub use Rattle.std.proofs.Common.{cond, drop, Err, false, get_or, inl, inr, length, length-append, List, ltb, map, negsuc, None, not, Option, pos, refl, Result}
pub use Rattle.std.proofs.Common.{rules, Some, subst, suc, sym, take, true, zero, ℕ, ℤ, [], ◌*◌, ◌++◌, ◌+◌, ◌-◌, ◌<◌, ◌^◌, ◌∙◌, ◌∷◌, ◌≡◌, ◌≤ℤ◌, ◌≤◌, ◌⊎◌}
pub use Rattle.std.proofs.lemmas.{Bool.{and_parts, cases_lt, Decides.nat_tests, eq-eqb, eqb-true, false≢true, le-ltb, ltb-false, ltb-true, ne_eqb}, Cmp.ranked}
pub use Rattle.std.proofs.lemmas.{Int.ints, List.{append-nil, drop-drop, drop-take, drop_at, Elements.{All-from_recursion, All-more, recursion_from_All}}}
pub use Rattle.std.proofs.lemmas.List.{Folds.{Any-from_list_any, list_any_at, list_any_none}, get_or-map, get_or_default, Kept.AllPairs-from_increasing}
pub use Rattle.std.proofs.lemmas.List.{length-drop, length-map, Sorted.{answers_always, IsNonDecreasingBy-from_default}, Sums.{count_by-le-length, sum_by-cons}}
pub use Rattle.std.proofs.lemmas.{List.{take_all, take_at}, Option.{get_or_from_slice_get, slice_get_within}, Result.err_from_is_err_and}
pub use Rattle.std.{proofs.lemmas.Slice.Eq.bytes_eq-Decides, specs.{Int.{byte_len, Width}, List.AllByRecursion}}
pub use Rattle.std.specs.List.{cons_option, filter_map, flat_map, HoldsAt, IsAllAdjacentAnswer, Sorted.{IsBinarySearchResult, IsNonDecreasingBy}}
pub use Rattle.std.specs.{Ordering.{nat_cmp, ordering_index}, Prelude.{codes, count_by, FitsSigned, IfSome, int_le, int_lt, is_some, IsTrue, MatchOption}}
pub use Rattle.std.specs.{Prelude.{nat_lt, OnOk, option_and_then, option_map, slice_get, unwrap_or, ◌&&◌, ◌==◌, ◌↔◌, ◌≢◌}, Str.bytes_eq}
unfoldable pub use Rattle.sim_bytes.specs.Rows.{attack_at, entity_at, health_at, moving_at, owner_at, position_at, stance_at}
unfoldable pub use Rattle.{sim_bytes.specs.Walking.{row_if, section_at, stances_at}, sim_codec.specs.Common.{digest, parts_at, quick, sections_at, u32_bytes}}
unfoldable pub use Rattle.sim_codec.specs.{Common.u64_bytes, Loading.head_fault, Reading.{row_at, rows_at, state_at}}
