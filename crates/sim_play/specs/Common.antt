-- The words of other crates that the files here name again and again, passed on from one place. Declares nothing.
pub use Rattle.sim_base.specs.{declared.{command.PlayerCommand.PlayerCommand, setup.{Setup.Setup, Timed.Timed}, state.State.State}, Limits.{IsSetup, IsValid}}
pub use Rattle.sim_base.specs.Turn.{after, first_state, from, orders_at, own_turns, Past, Turn}
pub use Rattle.sim_board.specs.Boards.{AreKept, IsWhole, IsWholeBy, setup_in, state_in, systems}
pub use Rattle.{sim_codec.specs.Loading.StandsFor, sim_laws.specs.TurnLaws.IsOrderOf, sim_replay.specs.declared.log.Log.Log}
pub use Rattle.sim_report.specs.{Lines.{holding_line, line_end, map_line, spaced_number, stock_line, turn_line}, Show.{show_text, ways_text}}
pub use Rattle.sim_stock.specs.{declared.{economy.Economy.Economy, stocks.Stocks.Stocks}, Economies.{amount_of, IsEconomy, total}}
pub use Rattle.{sim_stock.specs.PaidTurns.{books_after, books_of, kept_past, paid_turn}, sim_system.specs.Meanings.{AreBuiltOnceAtMost, AreFed, HaveKinds}}
pub use Rattle.{sim_system.specs.RigWords.systems_of, sim_territory.specs.{Holders.AreRooted, Realms.{holders_in, realm_of, RealmOf}}}
pub use Rattle.sim_vision.specs.{Keeping.extent_in, Told.{sight_lines, sight_text}, Vision.{all_seen, cells_in, is_set, is_visible, joined_at, vision_after}}
pub use Rattle.{sim_vision.specs.{Vision.{vision_next, was_visible}, Watching.{flag_in, one_if}}, std.specs.List.range_with_len}
unfoldable pub use Rattle.{md5.specs.Md5.md5, sim_base.specs.Spelling.digest}
