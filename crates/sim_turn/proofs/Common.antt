-- The words that the proofs here name again and again, passed on from one place. Declares nothing.
pub use Rattle.sim_base.specs.{Commands.commanded, declared.{setup.{Setup.Setup, Timed.Timed}, state.State.State}, Limits.IsValid, Turn.aimed}
pub use Rattle.{sim_base.specs.Turn.{from, hit, moved, orders_at, own_turns, turn}, sim_board.specs.Boards.{AreKept, IsWholeBy, rig_in, setup_in, state_in}}
pub use Rattle.sim_laws.{proofs.Turning.{turn_is_counted, turn_keeps_valid}, specs.TurnLaws.IsOrderOf}
pub use Rattle.{sim_system.specs.RigWords.systems_by, sim_turn.specs.Resting.is_resting}
pub use Rattle.std.proofs.Common.{All, ap, arith, false, filter, fold, get_or, length, List, map, refl, subst, suc, sym, take, true, ℕ, [], ◌+◌, ◌-◌, ◌<◌, ◌∙◌}
pub use Rattle.std.{proofs.{Common.{◌∷◌, ◌≡◌, ◌≤◌}, lemmas.List.{get_or-map, length-map}}, specs.{List.list_all, Prelude.nat_lt}}
