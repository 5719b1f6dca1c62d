-- The words that the proofs here name again and again, passed on from one place. Declares nothing.
pub use Rattle.sim_base.specs.{declared.{command.{Command.Command, PlayerCommand.PlayerCommand}, setup.Setup.Setup, state.State.State}, Limits.IsValid}
pub use Rattle.{sim_base.specs.Turn.bent, sim_client.specs.{declared.{known.Known.Known, stage.Stage.Stage}, Lives.{Act, hears, Life, On, orders}}}
pub use Rattle.sim_client.specs.StageWords.{AreByPlayers, IsReady, known_in}
pub use Rattle.{sim_laws.specs.TurnLaws.IsOrderOf, sim_plain.specs.Server.put, sim_plain_session.specs.Pasts.is_client}
pub use Rattle.std.proofs.Common.{All, ap, arith, Bool, false, List, OnOk, refl, rules, subst, sym, take, true, ℕ, [], ◌++◌, ◌+◌, ◌∙◌, ◌∷◌, ◌≡◌}
pub use Rattle.std.{proofs.lemmas.{Bool.ltb-true, List.Elements.All-nil}, specs.Prelude.{if◌then◌else◌, nat_lt, None, Option, Some, ◌&&◌, ◌==◌}}
unfoldable pub use Rattle.sim_base.specs.Spelling.{digest}
