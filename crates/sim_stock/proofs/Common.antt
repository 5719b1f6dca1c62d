-- The words that the proofs here name again and again, passed on from one place. Declares nothing.
pub use Rattle.{serde_json.specs.View.view, sim_base.specs.{Commands.commanded, declared.{command.PlayerCommand.PlayerCommand, setup.Setup.Setup}}}
pub use Rattle.sim_base.specs.{declared.{state.{Row.Row, State.State}, template.Template.Template}, Limits.{IsSetup, IsState, IsValid, IsValidRow}}
pub use Rattle.{sim_base.specs.{Rows.template_of, Turn.{after, orders_at, turn}}, sim_board.specs.Boards.{AreKept, IsWholeBy, rig_in, setup_in, state_in}}
pub use Rattle.{sim_json.specs.Commands.{numbered, records}, sim_laws.{proofs.Turning.{turn_is_counted, turn_keeps_valid}, specs.TurnLaws.IsOrderOf}}
pub use Rattle.sim_stock.specs.declared.{amounts.NamedRate.NamedRate, deed.{DatedDeed.DatedDeed, Deed.{Deed, TheVariants.{Barter, Tribute}}}}
pub use Rattle.sim_stock.specs.declared.{economy.Economy.Economy, rate.Rate.Rate, stocks.Stocks.Stocks}
pub use Rattle.sim_stock.specs.Economies.{amount_of, AreBelow, dated_of, earliest, gained, IsDated, IsDeedBy, IsEconomy, IsRate, IsStart, named_of, no_rate}
pub use Rattle.sim_stock.specs.{Economies.{opening, pair_of, rate_at, rate_named, rates_of, spent, total}, PaidTurns.{affords, Books, books_after, books_of}}
pub use Rattle.sim_stock.specs.PaidTurns.{charged, collected, dealt, deed, deeds_at, earned, given, is_kept, IsAsked, IsDatedDeed, IsDeedOf, kept, kept_in}
pub use Rattle.{sim_stock.specs.PaidTurns.{kept_past, kind_of, made_row, paid, paid_turn, price_of, with_deeds}, sim_system.specs.RigWords.systems_by}
pub use Rattle.std.proofs.Common.{All, ap, arith, Bool, cond, count_by, drop, Err, false, fold, get_or, inl, inr, length, List, map, Ok, refl, Result, rules}
pub use Rattle.std.proofs.Common.{Some, subst, suc, sym, take, true, zero, ℕ, [], ◌*◌, ◌++◌, ◌+◌, ◌-◌, ◌/◌, ◌<◌, ◌==◌, ◌^◌, ◌∙◌, ◌∷◌, ◌≡◌, ◌≤◌}
pub use Rattle.std.proofs.lemmas.{Bool.{and_parts, cases_lt, eq-eqb, leb-true, ltb-false, ltb-true, ne_eqb}, List.Elements.{All-cons, All-filter, All-head}}
pub use Rattle.std.proofs.lemmas.List.{Elements.{All-map, All-push, All-tail}, FromFn.{fill_by_all, map-range_with_len_more}, Sorted.IsNonDecreasingBy-push}
pub use Rattle.std.proofs.lemmas.List.{Sorted.{IsPartitionedBy-ltb, IsPartitionPoint-from_clause}, Sums.{fold_push, get_or-le-sum_by, sum_by-cons, sum_by-le}}
pub use Rattle.std.{proofs.{lemmas.Option.unwrap_or-slice_get, Math.ListN.set}, specs.List.{range_with_len, Sorted.{IsNonDecreasingBy, IsPartitionPoint}}}
pub use Rattle.std.specs.Prelude.{filter, find, if◌then◌else◌, MatchOption, nat_le, nat_lt, None, OnOk, Option, option_map, slice_get, sum, unwrap_or}
unfoldable pub use Rattle.sim_stock.specs.PaidTurns.{obeyed, settled}
