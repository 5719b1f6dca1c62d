-- The words that the proofs here name again and again, passed on from one place. Declares nothing.
pub use Rattle.sim_base.{proofs.RowPlaces.ids_rise, specs.declared.{place.Point.Point, setup.Setup.Setup, state.{Motion.TheVariants.Still, Row.Row}}}
pub use Rattle.sim_base.specs.{declared.state.State.State, Limits.{IsSetup, IsValid}, Rows.{id_of, row_of}, Spelling.{attack_bytes, attack_part, clock_bytes}}
pub use Rattle.sim_base.specs.Spelling.{entity_bytes, entity_part, health_bytes, health_part, motion_part, moving_bytes, owner_bytes, owner_part}
pub use Rattle.sim_base.specs.{Spelling.{position_bytes, position_part, rows_with, section, sections, spelling, stance_bytes, stance_part}, Ways.is_before}
pub use Rattle.{sim_bytes.specs.Rows.with_id, sim_codec.proofs.Standing.one_state}
pub use Rattle.sim_codec.specs.{Bits.{bits, row_bits}, declared.bits.Part.{Part, TheVariants.{Attack, Clock, Entity, Health, Motion, Owner, Position, Stance}}}
pub use Rattle.sim_diff.specs.{declared.place.Place.Place, Difference.{difference_in, entities, HaveSameBits, is_different, IsBefore, IsLeastDifference}}
pub use Rattle.sim_diff.specs.{Difference.{key_of, number_of, parts, place_at, places}, Merge.{AreRowsOf, HaveSameFirst, next_id, rows_behind}}
pub use Rattle.sim_laws.proofs.Neighbours.{Has, Has-append_left, Has-append_right, Has-flat_map, Has-map, Has-of_flat_map, Has-of_map}
pub use Rattle.{sim_laws.proofs.Removing.{least_of-has, least_of-some}, std.proofs.Common.{ap, arith, Bool, cond, false, filter, filter_map, find, flat_map}}
pub use Rattle.std.proofs.Common.{get_or, inl, inr, length, List, map, min, None, Option, option_and_then, pos, refl, rules, Some, subst, suc, sym, true, ℕ}
pub use Rattle.std.proofs.Common.{⊎_elim, [], ◌*◌, ◌++◌, ◌+◌, ◌<◌, ◌∙◌, ◌∷◌, ◌≡◌, ◌≢◌, ◌≤◌, ◌⊎◌}
pub use Rattle.std.proofs.lemmas.Bool.{cases_eq, cases_lt, cases_order, Decides.Decides-int_eq, eq-eqb, eqb-true, le-ltb, lt-ltb, ne_eqb, not-false, not-true}
pub use Rattle.std.proofs.lemmas.{Bool.true≢false, List.length-map, Option.{none-some, same_Some}, Slice.Eq.{bytes_eq-Decides, slice_eq-Decides}}
pub use Rattle.std.specs.{Bool.Decides, List.{cons_option, Sorted.IsStrictlyIncreasing}, Option.option_eq, Prelude.{option_map, ◌==◌}, Str.bytes_eq}
unfoldable pub use Rattle.{sim_base.specs.Spelling.{i32_bytes, u16_bytes, u32_bytes, u64_bytes}, sim_diff.specs.Difference.difference_of}
