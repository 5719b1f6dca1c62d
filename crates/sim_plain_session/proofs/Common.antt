-- The words that the proofs here name again and again, passed on from one place. Declares nothing.
pub use Rattle.sim_base.proofs.ExampleMatches.{at_metre, barracks, first, guard, harm, mid, no_id, order, post, setup_of, walker}
pub use Rattle.sim_base.specs.{Commands.with_row, declared.{command.Command.TheVariants.{Attack, Delete, Resign, Stop, Train, Walk}, place.Point.Point}}
pub use Rattle.sim_base.specs.{declared.{state.Row.Row, template.Template.Template}, Spelling.{clock_bytes, position_bytes, position_part, rows_with, section}}
pub use Rattle.{sim_laws.proofs.Turning.after_counts_turns, sim_plain.proofs.{Carrying.{heard_carry, posts_carry}, Dones.notices_are}}
pub use Rattle.sim_plain.specs.{declared.status.Status.{Status, TheVariants.{In, Out, Waiting}}, Server.{is_accepted, notices_given, Report}}
pub use Rattle.sim_plain_session.specs.Clients.{Acted, begun, bend_event, bends, bent_seat, digest_of, Down, hears, idle, Joining, joins, may_order, may_play}
pub use Rattle.sim_plain_session.specs.Clients.{may_tell_done, Off, On, ordered, orders, Phase, play_event, played, plays, Seat, shows_bend, state_of, told}
pub use Rattle.sim_plain_session.specs.Clients.{told_alone, told_with_done, Up}
pub use Rattle.sim_plain_session.specs.Common.{after, Arrival, Bend, bent, carry_arrival, carry_down, carry_up, Command, Cut, differs, enumerate_from, Event}
pub use Rattle.sim_plain_session.specs.Common.{Heard, heard, is_full_turn, mark, may_bend, noticed, notices, Past, PlayerCommand, posts, put, report_fault}
pub use Rattle.sim_plain_session.specs.Common.{row_of, Rules, Server, server_after, Setup, State, Step, Turn, turn, turns_in, up_to}
pub use Rattle.sim_plain_session.specs.{Marks.{BendsAreHidden, FullIsDigest, OthersAreQuick}, Pasts.{is_client, rules_of}, Players.BeginningStands}
pub use Rattle.sim_plain_session.specs.{Players.{BendingStands, LearningStands, PlayingStands, SameMark, SameTurn}, Sessions.{acts, after_steps, BytesGoDown}}
pub use Rattle.sim_plain_session.specs.Sessions.{BytesGoUp, CanBend, CanLoad, CanOrder, CanPlay, Carries, client_of, downs_of, events, events_after, events_by}
pub use Rattle.sim_plain_session.specs.Sessions.{EventsAreInOrder, EventsAreOfSteps, EventsAreShown, EventsGoOn, fall_events, falls, is_active, IsAt, IsOfStep}
pub use Rattle.sim_plain_session.specs.Sessions.{IsShown, leave_events, leaves, notices_in, NoticesAreOfArrivals, opened, ReportsOther, rise_events, rises}
pub use Rattle.sim_plain_session.specs.Sessions.{ServerHearsBytes, ServerIsAfterArrivals, ServerIsAfterBytes, Session, session, session_events, SessionGoesOn}
pub use Rattle.sim_plain_session.specs.Sessions.{spelled, start_events, StartsAreShown, stepped, stepped_by, StepsHaveEvents}
pub use Rattle.std.proofs.Common.{ap, append-nil, append_assoc, arith, Bool, false, filter, flat_map, if◌then◌else◌, inl, inr, is_none, length, List, map, min}
pub use Rattle.std.proofs.Common.{nat_lt, None, Option, pos, refl, Some, subst, suc, sym, take, true, zero, ℕ, ℤ, [], ◌%◌, ◌*◌, ◌++◌, ◌+◌, ◌<◌, ◌==◌, ◌∙◌, ◌∷◌}
pub use Rattle.std.proofs.{Common.{◌≡◌, ◌≤◌, ◌⊎◌}, lemmas.Bool.{and_from, and_parts, cases_eq, cond-false, cond-true, le-leb, lt-ltb, ltb-true}}
pub use Rattle.std.{proofs.{lemmas.List.{length-append, map-append}, Math.Seq.take-append_seam}, specs.{Prelude.codes, Str.bytes_eq}}
unfoldable pub use Rattle.md5.specs.Md5.{block_words, compress, digest_bytes, hash_after, md5, rounds}
unfoldable pub use Rattle.{sim_base.specs.Spelling.{i32_bytes, u16_bytes, u32_bytes, u64_bytes}, sim_plain_session.specs.Common.{digest, quick}}
