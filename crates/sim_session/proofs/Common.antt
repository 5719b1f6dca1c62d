-- The words that the proofs here name again and again, passed on from one place. Declares nothing.
pub use Rattle.sim_base.specs.declared.{command.Command.Command, memory.OutOfMemory.OutOfMemory, setup.Setup.Setup, state.State.State}
pub use Rattle.sim_base.specs.{declared.step.{Event.Event, Step.Step}, Limits.{HasFewIds, IsSetup, IsValid}, Rows.row_of, Spelling.spelling}
pub use Rattle.{sim_base.specs.Turn.{after, bent, may_bend, Past}, sim_board.specs.{Boards.AreKept, declared.board.Board.Board}}
pub use Rattle.sim_client.proofs.Following.{bending_follows, hearing_follows, joining_follows, ordering_follows, playing_follows, starting_follows}
pub use Rattle.sim_client.{proofs.Standing.anyway, specs.{ClientWords.{Answers, HasDigest, LoadsFrom, may_load, Tells}, declared.client.Client.Client}}
pub use Rattle.sim_client.specs.{declared.{did.Did.{Did, TheVariants.{Done, Idle}}, stage.Stage.Stage}, Lives.{Act, bends, Follows, hearing_shown, hears}}
pub use Rattle.sim_client.specs.Lives.{join_shown, Joining, joins, Life, life_after, Lives, LoadsAs, may_order, may_play, may_tell_done, Off, On, order_shown}
pub use Rattle.sim_client.specs.Lives.{ordered, orders, played, plays, Said, says_of, shows, shows_after, starts, Told, told, told_alone, told_with_done}
pub use Rattle.{sim_client.specs.StageWords.{AreCleared, AreOf, IsReady, life_at, nowhere, systems_on}, sim_pipes.specs.Pipes.{AreFrames, Conveys, Falls, Held}}
pub use Rattle.{sim_pipes.specs.Pipes.pipe_in, sim_plain.{proofs.Calm.{put_other, put_same}, specs.{declared.rules.Rules.Rules, Messages.carry_down}}}
pub use Rattle.{sim_plain.specs.{Messages.carry_up, Server.put}, sim_plain_session.{proofs.GoingOn.session_goes_on, specs.Clients.{Acted, begun, Down, Phase}}}
pub use Rattle.sim_plain_session.specs.{Clients.Up, Pasts.is_client, Players.Player, Sessions.{acts, client_of, cut, events, events_by, fall_events, falls}}
pub use Rattle.sim_plain_session.specs.Sessions.{is_active, leave_events, leaves, opened, rise_events, rises, Session, session, spelled, stepped, stepped_by}
pub use Rattle.{sim_server.specs.Standing.IsClient, sim_session.specs.Going.{AreMembersBy, AreOfClients, IsMemberBy, lives_of, rigs_by, systems_by}}
pub use Rattle.sim_session.specs.{Printing.{has_happened, heard_events, is_off, is_state, played_events, refusal_in, said_events}, Standing.{ActsBy, AreBuilt}}
pub use Rattle.sim_session.specs.Standing.{AreBuiltIf, ChangeAt, has_load, HasValidStates, IsNumber, life_of, LoadsBy, Makes, MayActBy, MayHearBy, said_by}
pub use Rattle.{sim_session.specs.Standing.{Seen, StandBeside, StandsFor, StandsForSome, StartsOnly, Steps}, sim_session_laws.proofs.Basics.client_of_player}
pub use Rattle.{sim_session_laws.proofs.Fitting.{no_state_is_ever_refused, pasts_are_always_valid}, sim_system.specs.Meanings.AreBuiltOnceAtMost}
pub use Rattle.{sim_system.specs.Meanings.{AreFed, HaveKinds, IsBuiltOnceAtMost, Meaning, Systems}, sim_wire.specs.Reading.{IsDownFrame, IsSmallUp, IsUpFrame}}
pub use Rattle.std.proofs.Common.{add-one, All, ap, append-nil, append_assoc, arith, Bool, drop, Err, false, get_or, get_or-set_other, get_or-set_same}
pub use Rattle.std.proofs.Common.{if◌then◌else◌, inl, inr, length, length-append, length-drop, List, map, min, nat_le, nat_lt, None, Ok, Option, refl}
pub use Rattle.std.proofs.Common.{replicate, Result, rules, set, Some, subst, suc, sym, true, vec_capacity, zero, ℕ, ℤ, [], ◌&&◌, ◌++◌, ◌+◌, ◌-◌, ◌<◌, ◌==◌}
pub use Rattle.std.proofs.{Common.{◌∙◌, ◌∷◌, ◌≡◌, ◌≢◌, ◌≤◌, ◌⊎◌}, lemmas.Bool.{and_from, cases_eq, cases_lt, cond-false, cond-true, eq-eqb, false≢true, le-leb}}
pub use Rattle.std.proofs.lemmas.{Bool.{lt-ltb, ne_eqb}, List.{drop-map, Elements.{All-append, All-cons, All-drop, All-head, All-nil, All-set, All-tail}}}
pub use Rattle.std.proofs.lemmas.List.{get_or-map, get_or-replicate, get_or_append_left, length-map, length-replicate, length-set, map-append, map-set}
pub use Rattle.std.{proofs.{lemmas.{List.replicate-append-replicate, Option.none-some}, Math.Seq.get_or-append_seam}, specs.Prelude.{IfOk, IsOk, OnOk}}
unfoldable pub use Rattle.sim_base.specs.Spelling.{digest, quick}
