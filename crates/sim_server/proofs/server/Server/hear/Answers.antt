-- What is kept of a server is what the arrival leaves of it.
use Rattle.sim_server.proofs.{Common.Heard, Common.IsSilent, Common.SaysNoted, Common.server_of, Silence.noted, Silence.silent, Whole.later}
use Rattle.sim_plain.specs.declared.message.UpOf.TheVariants as up
use Rattle.sim_server.proofs.server.Server.hear.Goals as goal

pub returns-in-Join-clause-later : goal.returns-in-Join-clause-later
returns-in-Join-clause-later c = later c.args.self.now c.hear_join.new.self (Heard c.args.from up.Join) c.hear_join.result
    (rw (← c.self.view_is) c.self.invariant.ahead) c.requires c.hear_join.ensures.made

pub returns-in-Command-clause-later : goal.returns-in-Command-clause-later
returns-in-Command-clause-later c = later c.args.self.now c.hear_command.new.self (Heard c.args.from (up.Command c.in-Command.turn c.in-Command.command))
    c.hear_command.result (rw (← c.self.view_is) c.self.invariant.ahead) c.requires c.hear_command.ensures

pub returns-in-Done-clause-later : goal.returns-in-Done-clause-later
returns-in-Done-clause-later c = later c.args.self.now c.hear_done.new.self (Heard c.args.from (up.Done c.in-Done.turn)) c.hear_done.result
    (rw (← c.self.view_is) c.self.invariant.ahead) c.requires c.hear_done.ensures.made

pub returns-in-Report-clause-later : goal.returns-in-Report-clause-later
returns-in-Report-clause-later c = later c.args.self.now c.hear_report.new.self (Heard c.args.from (up.Report c.in-Report.turn c.in-Report.digest))
    c.hear_report.result (rw (← c.self.view_is) c.self.invariant.ahead) c.requires c.hear_report.ensures.made

pub returns-in-State-clause-later : goal.returns-in-State-clause-later
returns-in-State-clause-later c = later c.args.self.now c.hear_state.new.self (Heard c.args.from (up.State c.in-State.client c.in-State.turn c.in-State.bytes))
    c.hear_state.result (rw (← c.self.view_is) c.self.invariant.ahead) c.requires c.hear_state.ensures.made

pub returns-in-Join-clause-silent : goal.returns-in-Join-clause-silent
returns-in-Join-clause-silent c = λ s. let still : IsSilent c.args.self.now.rules (server_of c.args.self.now) (Heard c.args.from up.Join) =
    rw c.in-Join.is at s in silent c.args.self.now c.hear_join.new.self (Heard c.args.from up.Join) c.hear_join.result c.hear_join.ensures.made
    (c.hear_join.ensures.dropped still) still

pub returns-in-Done-clause-silent : goal.returns-in-Done-clause-silent
returns-in-Done-clause-silent c = λ s. let still : IsSilent c.args.self.now.rules (server_of c.args.self.now) (Heard c.args.from (up.Done c.in-Done.turn)) =
    rw c.in-Done.is at s in silent c.args.self.now c.hear_done.new.self (Heard c.args.from (up.Done c.in-Done.turn)) c.hear_done.result c.hear_done.ensures.made
    (c.hear_done.ensures.quiet still) still

pub returns-in-Report-clause-silent : goal.returns-in-Report-clause-silent
returns-in-Report-clause-silent c = λ s. let still : IsSilent c.args.self.now.rules (server_of c.args.self.now)
    (Heard c.args.from (up.Report c.in-Report.turn c.in-Report.digest)) = rw c.in-Report.is at s in silent c.args.self.now c.hear_report.new.self
    (Heard c.args.from (up.Report c.in-Report.turn c.in-Report.digest)) c.hear_report.result c.hear_report.ensures.made (c.hear_report.ensures.quiet still)
    still

pub returns-in-State-clause-silent : goal.returns-in-State-clause-silent
returns-in-State-clause-silent c = λ s. let still : IsSilent c.args.self.now.rules (server_of c.args.self.now)
    (Heard c.args.from (up.State c.in-State.client c.in-State.turn c.in-State.bytes)) = rw c.in-State.is at s in silent c.args.self.now c.hear_state.new.self
    (Heard c.args.from (up.State c.in-State.client c.in-State.turn c.in-State.bytes)) c.hear_state.result c.hear_state.ensures.made
    (c.hear_state.ensures.dropped still) still

pub returns-in-Command-clause-silent : goal.returns-in-Command-clause-silent
returns-in-Command-clause-silent c = λ s. let still : IsSilent c.args.self.now.rules (server_of c.args.self.now)
    (Heard c.args.from (up.Command c.in-Command.turn c.in-Command.command)) = rw c.in-Command.is at s in absurd still

pub returns-in-Join-clause-noted : goal.returns-in-Join-clause-noted
returns-in-Join-clause-noted c = λ s. let none : SaysNoted c.args.self.now c.args.from up.Join = rw c.in-Join.is at s in absurd none

pub returns-in-Command-clause-noted : goal.returns-in-Command-clause-noted
returns-in-Command-clause-noted c = λ s. let none : SaysNoted c.args.self.now c.args.from (up.Command c.in-Command.turn c.in-Command.command) =
    rw c.in-Command.is at s in absurd none

pub returns-in-Done-clause-noted : goal.returns-in-Done-clause-noted
returns-in-Done-clause-noted c = λ s. let none : SaysNoted c.args.self.now c.args.from (up.Done c.in-Done.turn) = rw c.in-Done.is at s in absurd none

pub returns-in-State-clause-noted : goal.returns-in-State-clause-noted
returns-in-State-clause-noted c = λ s. let none : SaysNoted c.args.self.now c.args.from (up.State c.in-State.client c.in-State.turn c.in-State.bytes) =
    rw c.in-State.is at s in absurd none

pub returns-in-Report-clause-noted : goal.returns-in-Report-clause-noted
returns-in-Report-clause-noted c = λ s. let report : SaysNoted c.args.self.now c.args.from (up.Report c.in-Report.turn c.in-Report.digest) =
    rw c.in-Report.is at s in noted c.args.self.now c.hear_report.new.self c.args.from c.in-Report.turn c.in-Report.digest c.hear_report.result
    c.hear_report.ensures.made (c.hear_report.ensures.noted report) report
