-- The words that the proofs here name again and again, passed on from one place. Declares nothing.
pub use Rattle.hex.proofs.HexLemmas.{decode_of-ok, decode_sized-encode_lower, decode_sized-ok, decode_sized-twice}
pub use Rattle.hex.specs.{declared.error.FromHexError.FromHexError, Hex.{decode_sized, encode_lower, lower_digits}}
pub use Rattle.sim_base.proofs.PrintedNumbers.{are_numerals, number_of-text_of}
pub use Rattle.sim_base.specs.declared.command.{Command.{Command, TheVariants.{Attack, Delete, Place, Resign, Stop, Train, Walk}}, PlayerCommand.PlayerCommand}
pub use Rattle.sim_base.specs.{declared.{place.Point.Point, setup.Setup.Setup}, Names.is_name_byte}
pub use Rattle.sim_base.specs.{NumberText.{five_digits, fraction_text, in_range, is_digit, magnitude_of, magnitude_text, number_of, text_of}, Places.is_raw}
pub use Rattle.{sim_bytes.specs.{Reading.◌>>=◌, Rows.IsPoint}, sim_replay.specs.Apart.{apart_of, first_apart, is_other, IsFirstApart}}
pub use Rattle.sim_replay.specs.declared.{apart.Apart.Apart, fault.LogFault.{LogFault, TheVariants.Refused}, log.Log.Log, reading.Reading.Reading}
pub use Rattle.sim_replay.specs.Logs.{AreOrders, BeginsLog, behind, behind_two, below, command_of, digest_front, digest_line, digest_of, ended, first_word}
pub use Rattle.sim_replay.specs.Logs.{header_line, ids_in, is_by, IsDigest, IsLog, IsOrder, IsRefusedAt, lines_from, log_in, log_lines, log_of, natural_below}
pub use Rattle.sim_replay.specs.Logs.{naturals_of, next_or_refused, nothing, or_refused, order_front, order_line, other_words, parts_of, spelled, taken_by}
pub use Rattle.sim_replay.specs.Logs.{taken_order, taken_other, text_in, text_of_log, turn_lines, whole_lines, with_digest, with_order, word_text}
pub use Rattle.{sim_replay.specs.Meets.Meets, sim_report.specs.{Downs.{command_text, ids_text, next_id}, Show.point_text}}
pub use Rattle.{sim_wire.specs.Reading.{CommandFits, IdsFit}, std.proofs.Common.{add-zero, ap, arith, Bool, cond, drop, eq-eqb, eqb, Err, false, inl, inr, leb}}
pub use Rattle.std.proofs.Common.{length, List, ltb, map, neg_ℤ, negsuc, None, not, Ok, Option, pos, refl, replicate, Result, rules, slice_index, Some, subst}
pub use Rattle.std.proofs.Common.{suc, sym, take, true, zero, zero-add, ℕ, ℤ, [], ◌%◌, ◌&&◌, ◌*◌, ◌++◌, ◌+◌, ◌-◌, ◌/◌, ◌<◌, ◌==◌, ◌^◌, ◌∙◌, ◌∷◌, ◌≡◌, ◌≢◌, ◌≤◌}
pub use Rattle.std.proofs.lemmas.Bool.{and_from, and_left, and_parts, cases_lt, cond-false, cond-true, eqb-true, false≢true, le-leb, le-ltb, leb-true, lt-ltb}
pub use Rattle.std.proofs.lemmas.{Bool.{ltb-false, ltb-true, ne_eqb, not_from_false}, Fmt.{decimal_nonempty, digits_decimal, digits_value-decimal}, Int.ints}
pub use Rattle.std.proofs.lemmas.List.{append-nil, append_assoc, Elements.{All-append, All-cons, All-drop, All-head, All-map, All-nil, All-push, All-rest}}
pub use Rattle.std.proofs.lemmas.List.{Elements.{All-tail, All-weaker}, Folds.list_all-append, length-append, map-append, Splits.join_with_byte-slice_split}
pub use Rattle.std.proofs.lemmas.List.{Splits.{length-slice_split, slice_split-cons_no, slice_split-cons_yes}, Sums.sum_by-append, take-append-drop, take-take}
pub use Rattle.std.proofs.lemmas.{List.take_all, Slice.Eq.bytes_eq-Decides, Str.{Ascii.{IsAscii-cons, IsAscii-nil}, is_utf8-from_IsUtf8, IsUtf8-from_ascii}}
pub use Rattle.std.proofs.Math.Seq.{drop-append-add, drop-append_seam, take-append_seam}
pub use Rattle.std.specs.{Int.{div_ceil, w32}, List.{AllByRecursion, join_with_byte, list_all, onto_first, position_or_len, slice_split, starts_with}}
pub use Rattle.std.specs.Prelude.{All, codes, count_by, decimal, FitsSigned, flat_map, IfOk, IfSome, int_lt, nat_eq, nat_le, option_and_then, option_map}
pub use Rattle.std.specs.{Prelude.{slice_get, sum_by}, Result.result_ok, Str.{bytes_eq, is_utf8, IsAscii, Parse.digits_value}}
unfoldable pub use Rattle.{hex.specs.Hex.encode_with, sim_replay.specs.Logs.{attack_of, command_by, digest_in, ids_of, log_of_parts, may_have, natural_of}}
unfoldable pub use Rattle.sim_replay.specs.Logs.{order_in, order_of, place_of, point_of, read_parts, taken, train_of, walk_of}
