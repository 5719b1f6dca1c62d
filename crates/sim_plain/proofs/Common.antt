-- The words that the proofs here name again and again, passed on from one place. Declares nothing.
pub use Rattle.sim_base.specs.declared.command.{Command.TheVariants.{Resign, Stop}, PlayerCommand.PlayerCommand}
pub use Rattle.sim_plain.specs.declared.message.{DownOf.{DownOf, TheVariants.{Ask, Command, Notice, Refused, Release, State}}, PostOf.PostOf}
pub use Rattle.sim_plain.specs.declared.{rules.Rules.Rules, status.Status.{Status, TheVariants.{In, Out, Waiting}}}
pub use Rattle.sim_plain.specs.{Messages.{Arrival, carry_arrival, carry_down, Cut, Heard, sender}, Server.{asked, command_fault, command_of, differs, done_by}}
pub use Rattle.sim_plain.specs.Server.{done_fault, done_in, dones_by, dones_step, donor, entry_by, entry_done, entry_step, first_mark, first_of, first_or}
pub use Rattle.sim_plain.specs.Server.{greatest, heard, is_accepted, is_in, is_out, keeps, kept_above, kept_by, least_done, least_dones, least_in, lesser}
pub use Rattle.sim_plain.specs.Server.{loading, nobody, notice_in, noticed, notices, notices_given, opening, Posts, posts, put, raised, raised_to, reference_by}
pub use Rattle.sim_plain.specs.Server.{refusal, release, released_by, Report, report_fault, report_of, reported, reports, reseated, seat, served, Server}
pub use Rattle.sim_plain.specs.Server.{server_after, takes_state, to_all, to_one, turn_fault, unless, up_to, waits_for, with_status}
pub use Rattle.std.proofs.Common.{ap, append-nil, arith, Bool, false, filter, if◌then◌else◌, inl, inr, is_none, is_some, List, map, min, nat_le, nat_lt, None}
pub use Rattle.std.proofs.Common.{not, Option, option_map, refl, Some, subst, suc, sym, true, true≢false, zero, ℕ, [], ◌&&◌, ◌++◌, ◌+◌, ◌-◌, ◌<◌, ◌==◌, ◌∙◌}
pub use Rattle.std.proofs.{Common.{◌∷◌, ◌≡◌, ◌≤◌, ◌⊎◌}, lemmas.Bool.{and_parts, cases_eq, cases_lt, cond-false, cond-true, eq-eqb, eqb-true, ne_eqb}}
pub use Rattle.std.{proofs.lemmas.List.Elements.filter_map-append, specs.{List.cons_option, Prelude.filter_map}}
