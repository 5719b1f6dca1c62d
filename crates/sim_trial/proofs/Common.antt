-- The words that the proofs here name again and again, passed on from one place. Declares nothing.
pub use Rattle.{sim_base.specs.Places.next_word, sim_trial.specs.{Owned.{id_at, ids_between}, Trial.{comma, comma_after, commands_text, group_size, groups_of}}}
pub use Rattle.sim_trial.specs.Trial.{ids_of, joined_after, player_of, soldier_text, soldiers_text, walk_text, walks_of, word_after}
pub use Rattle.std.proofs.Common.{add-one, ap, append-nil, append_assoc, arith, Bool, cond, drop, false, length, List, map, min, refl, suc, sym, take, true}
pub use Rattle.std.proofs.Common.{zero, ℕ, [], ◌%◌, ◌*◌, ◌++◌, ◌+◌, ◌-◌, ◌/◌, ◌<◌, ◌==◌, ◌^◌, ◌||◌, ◌∙◌, ◌∷◌, ◌≡◌, ◌≢◌, ◌≤◌}
pub use Rattle.std.proofs.lemmas.{Bool.{Decides.nat_tests, eqb-false, eqb-true, lt-ltb, ne_eqb}, List.{Concat.flat_map-append, drop-map}}
pub use Rattle.std.proofs.lemmas.{List.{Elements.filter-append, FromFn.{length-map-range_with_len, map-range_with_len_more}, take-map}, Result.on_ok_weaker}
pub use Rattle.std.specs.{Fork.slice_chunk, Int.div_ceil, List.{join_with_byte, range_with_len}, Prelude.{codes, decimal, filter, nat_lt, string_bytes}}
unfoldable pub use Rattle.std.specs.Fmt.{digits}
