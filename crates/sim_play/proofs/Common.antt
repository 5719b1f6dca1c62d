-- The words that the proofs here name again and again, passed on from one place. Declares nothing.
pub use Rattle.{sim_base.specs.{declared.memory.OutOfMemory.OutOfMemory, Turn.{Bend, turn, turns_in}}, sim_board.specs.Boards.{IsWholeBy, rig_in}}
pub use Rattle.sim_codec.proofs.ShortWays.{few_rows, short_ways}
pub use Rattle.sim_laws.proofs.{Turning.{after_counts_turns, from_counts_turns, own_turns_are_so_many}, Validity.first_state_is_valid}
pub use Rattle.sim_play.specs.Common.{after, amount_of, AreBuiltOnceAtMost, AreKept, books_after, books_of, cells_in, Economy, extent_in, first_state, flag_in}
pub use Rattle.sim_play.specs.Common.{from, HaveKinds, holding_line, is_set, is_visible, IsEconomy, IsOrderOf, IsSetup, IsValid, joined_at, kept_past, Log}
pub use Rattle.sim_play.specs.Common.{one_if, orders_at, own_turns, paid_turn, Past, PlayerCommand, range_with_len, realm_of, RealmOf, Setup, setup_in}
pub use Rattle.sim_play.specs.Common.{sight_lines, sight_text, StandsFor, State, state_in, stock_line, Stocks, Timed, total, Turn, turn_line, vision_after}
pub use Rattle.sim_play.specs.{Common.{vision_next, was_visible}, Films.{digests_after, frame_at, frame_text, frames, is_told, last_state, log_after}}
pub use Rattle.sim_play.specs.{Films.{match_turns, past_of, state_after, told_frame, told_turns}, Lines.{later_of, past_lines, play_text, rejoin_text}}
pub use Rattle.sim_play.specs.{Lines.{resight_text, sight_file, states_to, turn_lines}, Paid.{paid_lines, paid_state, paid_stocks, player_line}}
pub use Rattle.{sim_play.specs.Realms.{held, held_rooted, TellsRealm}, sim_replay.specs.Logs.IsOfTurns, sim_report.proofs.KnownTemplates.templates_known}
pub use Rattle.{sim_stock.{proofs.Paying.states_are_after, specs.PaidTurns.Books}, sim_system.specs.RigWords.systems_by, sim_vision.proofs.After.explored_start}
pub use Rattle.sim_vision.{proofs.Telling.{told_from_a_file, told_from_the_start}, specs.{Told.explored_file, Vision.{blind, last_of, Vision}}}
pub use Rattle.std.proofs.Common.{All, ap, append-nil, append_assoc, arith, Bool, false, get_or, length, List, map, refl, reverse, rules, string_bytes, subst}
pub use Rattle.std.proofs.{Common.{suc, sym, take, true, zero, ℕ, [], ◌*◌, ◌++◌, ◌+◌, ◌-◌, ◌<◌, ◌∙◌, ◌∷◌, ◌≡◌, ◌≤◌}, lemmas.Grind.flat_map-append}
pub use Rattle.std.proofs.lemmas.List.{Elements.{All-cons, All-nil}, flat_map_more, FromFn.{filter_of_map_range_with_len_more, length-map-range_with_len}}
pub use Rattle.std.proofs.lemmas.List.{FromFn.map-range_with_len_more, map-append, map-id, reverse-append, Sums.fold-append, take_all, take_more}
pub use Rattle.std.specs.{declared.alloc.Global.Global, List.flat_map, Prelude.{codes, Err, filter, fold, IfOk, if◌then◌else◌, Ok, OnOk, Result, String, ◌||◌}}
unfoldable pub use Rattle.sim_play.specs.Common.{digest}
