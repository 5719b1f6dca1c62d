-- The words that the proofs here name again and again, passed on from one place. Declares nothing.
pub use Rattle.sim_plain.proofs.{Calm.least_in_inside, Final.{Ahead, ahead_after, ahead_heard, final, kept_step, released_rises}}
pub use Rattle.sim_plain.specs.{declared.message.DownOf.DownOf, Messages.sender, Server.{command_of, donor, is_accepted, keeps, loading, opening, refusal}}
pub use Rattle.{sim_plain.specs.Server.{reported, to_one, unless}, sim_server.specs.Common.{AllByRecursion, Arrival, Ask, asked, Command, command_fault, Cut}}
pub use Rattle.sim_server.specs.Common.{differs, done_fault, entry_done, first_of, HasFewIds, Heard, heard, In, is_by, is_in, is_out, IsSmallDown, IsUpFrame}
pub use Rattle.sim_server.specs.Common.{kept_above, least_done, least_in, nobody, Notice, Out, OutOfMemory, PlayerCommand, post_list, posted_to, PostOf, Posts}
pub use Rattle.sim_server.specs.Common.{posts, posts_of, put, raised, raised_to, raw, Refused, Release, release, report_fault, Rules, seat, Server}
pub use Rattle.sim_server.specs.{Common.{server_after, State, Status, takes_state, to_all, up_carries, up_to, UpOf, waits_for, with_status}, Standing.Answers}
pub use Rattle.sim_server.specs.Standing.{asked_one, cut_said, GoesUnseen, IsClient, IsLater, IsNoted, IsSeated, IsSilent, IsSmallArrival, IsSmallServer}
pub use Rattle.sim_server.specs.Standing.{IsWhole, kept_in, Made, Makes, moved, reference_in, ReleasesNothing, SaysNoted, server_of, StandsFor, status_in, View}
pub use Rattle.sim_wire.proofs.{Fronts.{are_bytes, AreBytes}, Hearing.{is_heard, is_none}}
pub use Rattle.{sim_wire.specs.{declared.fault.WireFault.WireFault, Memory.heard_or_cut, Refusals.RefusedFor}, std.proofs.Common.add-one}
pub use Rattle.std.proofs.Common.{ap, append-nil, append_assoc, arith, Bool, count_by, drop, Err, false, filter, get_or, get_or-set_other, get_or-set_same}
pub use Rattle.std.proofs.Common.{if◌then◌else◌, inl, inr, length, length-append, length-set, List, map, min, nat_le, nat_lt, None, not, Ok, OnOk, Option, refl}
pub use Rattle.std.proofs.Common.{Result, rules, set, Some, subst, suc, sym, take, true, zero, ℕ, [], ◌&&◌, ◌++◌, ◌+◌, ◌-◌, ◌<◌, ◌==◌, ◌∙◌, ◌∷◌, ◌≡◌, ◌≤◌, ◌⊎◌}
pub use Rattle.std.proofs.lemmas.Bool.{and_parts, cases_eq, cases_lt, cond-false, cond-true, eq-eqb, false≢true, le-ltb, leb-true, ltb-true, ne_eqb}
pub use Rattle.std.{proofs.lemmas.{List.{Edits.map_over_more, get_or_default, length-map}, Slice.Eq.bytes_eq-Decides}, specs.Prelude.{IfErr, IfOk, IsOk}}
