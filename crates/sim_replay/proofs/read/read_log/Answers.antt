-- The first line is the header, or nothing is read.
use Rattle.sim_replay.proofs.{Common.{bytes_eq-Decides, Meets, subst, sym, ◌∙◌}, Parts.{headed_lines, no_lines, other_lines}}
use Rattle.sim_replay.proofs.read.read_log.Goals as goal

pub returns-in_default-clause-meets : goal.returns-in_default-clause-meets
returns-in_default-clause-meets c = no_lines c.args.setup.now c.args.bytes.now c.in_default.ensures

pub returns-then-branch-clause-meets : goal.returns-then-branch-clause-meets
returns-then-branch-clause-meets c =
    let same = (bytes_eq-Decides c.in-Some.line.now _).0 (sym c.in_ok-is_header.ensures ∙ c.if-branch.true) in
    subst (Meets c.lines_of.result) (sym (headed_lines c.args.setup.now c.args.bytes.now c.in-Some.line.now c.in-Some.rest.now c.in-Some.ensures same))
    c.lines_of.ensures

pub returns-else-branch-clause-meets : goal.returns-else-branch-clause-meets
returns-else-branch-clause-meets c = other_lines c.args.setup.now c.args.bytes.now c.in-Some.line.now c.in-Some.rest.now c.in-Some.ensures
    (sym c.in_ok-is_header.ensures ∙ c.if-branch.false)
