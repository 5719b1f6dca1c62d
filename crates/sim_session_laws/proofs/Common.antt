-- The words that the proofs here name again and again, passed on from one place. Declares nothing.
pub use Rattle.sim_base.{proofs.ExampleMatches.order, specs.declared.command.{Command.{Command, TheVariants.Resign}, PlayerCommand.PlayerCommand}}
pub use Rattle.sim_base.specs.{declared.{setup.Setup.Setup, step.Step.Step}, Limits.{IsFrom, IsSetup}, Rows.row_of, Spelling.{is_full_turn, mark}}
pub use Rattle.{sim_base.specs.Turn.{after, Bend, may_bend, Past, Turn, turns_in}, sim_laws.proofs.Turning.{after_counts_turns, after_is_valid}}
pub use Rattle.{sim_laws.specs.TurnLaws.{IsItemOf, IsOrderOf, IsPastOf}, sim_plain.proofs.Calm.{put_other, put_same}}
pub use Rattle.sim_plain.specs.declared.{message.DownOf.DownOf, rules.Rules.Rules, status.Status.{Status, TheVariants.{In, Out, Waiting}}}
pub use Rattle.sim_plain.specs.{Messages.{Arrival, carry_down, Cut, Heard}, Server.{asked, command_fault, crowd_fault, cut_posts, differs, done_fault, donor}}
pub use Rattle.sim_plain.specs.Server.{entry_done, first_mark, heard, is_accepted, is_by, is_in, is_out, keeps, kept_above, least_done, lesser, loading, nobody}
pub use Rattle.sim_plain.specs.Server.{opening, Posts, posts, put, raised, raised_to, refusal, release, Report, report_fault, reported, reports, reseated, seat}
pub use Rattle.sim_plain.specs.Server.{Server, server_after, takes_state, to_all, to_one, turn_fault, unless, up_to, waits_for, with_status}
pub use Rattle.sim_plain_session.proofs.{Examples.{full_is_digest, others_are_quick, three, two}, GoingOn.{after_steps-append, session_goes_on}}
pub use Rattle.sim_plain_session.specs.Clients.{Acted, begun, bends, bent_seat, Down, hears, idle, Joining, joins, learns, mark_of, may_order, may_play}
pub use Rattle.sim_plain_session.specs.Clients.{may_tell_done, Off, On, ordered, orders, Phase, played, plays, refused, report_of, Seat, shows_bend, state_of}
pub use Rattle.sim_plain_session.specs.{Clients.{told, told_alone, told_with_done, Up}, Pasts.{is_client, is_unbent, kept_turns, rules_of}}
pub use Rattle.sim_plain_session.specs.Sessions.{acts, after_steps, arrives, Carries, client_of, cut, falls, is_active, leaves, opened, rises, Session, session}
pub use Rattle.sim_plain_session.specs.Sessions.{spelled, stepped, stepped_by, taken}
pub use Rattle.sim_session_laws.specs.Reports.{is_bend, NoticesNeedBends, NoticesShowDifferences, ReportsAreMarks, WasMark, WereApart}
pub use Rattle.sim_session_laws.specs.Standing.{AllPlayers, Always, Behind, BehindStateAreKept, CarriedAreReleased, ComingAreAboveRelease, commands_at}
pub use Rattle.sim_session_laws.specs.Standing.{dones_in, DonesAreCounted, DonesAreNear, DonesAreTurns, DonesGoOn, Fact, GoOn, HeardBytesSpellAState}
pub use Rattle.sim_session_laws.specs.Standing.{InHasState, IsPast, KeptAreOfPlayers, KeptAreTurns, KnownAndComingAreKept, KnownAreOfPlayers, NoneBehindRelease}
pub use Rattle.sim_session_laws.specs.Standing.{NoStateIsRefused, OffIsOut, OnIsIn, OutHasWish, PastsAreValid, ReleasedAreFinal, ReleasedAreTurns}
pub use Rattle.sim_session_laws.specs.Standing.{ReleasedOnlyRise, ReleasesAreReleased, StampsAreTurns, StateHasDone, StatesHaveTurns, StrangersAreOut}
pub use Rattle.sim_session_laws.specs.Standing.{TurnsAreReleased, UnbentAgree, UnbentAreKept, WaitingHasDonor}
pub use Rattle.std.proofs.Common.{All, ap, append-nil, append_assoc, arith, Bool, count_by, false, filter, if◌then◌else◌, inl, inr, length, List, map, max, min}
pub use Rattle.std.proofs.Common.{nat_le, nat_lt, None, Option, refl, Some, subst, suc, sym, true, true≢false, zero, ℕ, ℤ, [], ◌&&◌, ◌++◌, ◌+◌, ◌-◌, ◌<◌, ◌==◌}
pub use Rattle.std.proofs.{Common.{◌∙◌, ◌∷◌, ◌≡◌, ◌≤◌, ◌⊎◌}, lemmas.Bool.{and_from, and_parts, and_right, cases_eq, cases_lt, cond-false, cond-true, eq-eqb}}
pub use Rattle.std.proofs.lemmas.{Bool.{eqb-true, le-leb, leb-true, lt-ltb, ltb-true, ne_eqb}, List.Elements.{All-append, All-cons, All-head, All-nil}}
pub use Rattle.std.{proofs.lemmas.{List.Elements.{All-tail, All-weaker}, Slice.Eq.bytes_eq-Decides}, specs.{Prelude.not, Str.bytes_eq}}
unfoldable pub use Rattle.sim_base.specs.Spelling.{digest}
