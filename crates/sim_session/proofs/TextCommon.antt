-- The words that the proofs here name again and again, passed on from one place. Declares nothing.
pub use Rattle.sim_base.specs.{declared.{setup.Setup.Setup, state.State.State, step.{Event.Event, Step.Step}}, Limits.IsValid, Turn.{after, turns_in}}
pub use Rattle.sim_client.specs.{ClientWords.state_of, Lives.{Joining, Life, Lives, Off, On}, StageWords.{nowhere, systems_on}}
pub use Rattle.{sim_lists.specs.{declared.step_list.StepList.StepList, StepLists.IsStep}, sim_pipes.specs.Pipes.pipe_in, sim_plain.specs.Server.up_to}
pub use Rattle.sim_plain_session.specs.{Clients.Phase, Pasts.is_client}
pub use Rattle.sim_plain_session.specs.Sessions.{client_of, events, events_after, is_active, opened, Session, session, start_events, stepped}
pub use Rattle.{sim_report.specs.Lines.event_line, sim_session.specs.{Endings.{end_line, end_of, pipe_line, told_of}, Going.{seen_in, systems_by}}}
pub use Rattle.sim_session.specs.Laws.{AllBuiltAtMost, begun_by, builds_of, clients_apart, lines_of, loads_in, pair_apart, session_of, session_text, state_at}
pub use Rattle.sim_session.specs.Seen.{beside_seen, end_seen, ending_seen, ends_seen, IsMember, life_at, pipes_seen}
pub use Rattle.sim_session.specs.{Standing.{AreBuiltIf, ChangeAt, has_load, life_of, Seen, StandsFor, StartsOnly, Steps}, Starts.start_lines}
pub use Rattle.{sim_session_laws.proofs.CutSteps.holds_session, sim_system.specs.Meanings.{Meaning, Systems}, std.proofs.Common.{add-one, All, ap, append-nil}}
pub use Rattle.std.proofs.Common.{append_assoc, arith, Bool, false, get_or, if◌then◌else◌, inl, length, List, map, min, None, Option, refl, rules, Some, subst}
pub use Rattle.std.proofs.{Common.{suc, sym, take, true, zero, ℕ, [], ◌++◌, ◌+◌, ◌-◌, ◌<◌, ◌∙◌, ◌∷◌, ◌≡◌, ◌≤◌}, lemmas.Bool.{cond-true, eq-eqb, le-leb, lt-ltb}}
pub use Rattle.std.{proofs.lemmas.{Grind.flat_map-append, List.length-map}, specs.Prelude.{codes, nat_le, nat_lt, string_bytes, ◌==◌}}
unfoldable pub use Rattle.sim_base.specs.Spelling.{digest}
