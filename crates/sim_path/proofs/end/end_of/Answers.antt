use Rattle.sim_path.proofs.Common.{arith}
use Rattle.sim_path.proofs.end.end_of.Goals as goal

pub loop-z-init : goal.loop-z-init
loop-z-init c = record { reached = c.requires.start; least = λ v d seen e. absurd (omega (arith, seen)) }

pub best_of_row-best-requires-clause-row : goal.best_of_row-best-requires-clause-row
best_of_row-best-requires-clause-row c = c.loop-z-test.true

pub best_of_row-best-requires-clause-best : goal.best_of_row-best-requires-clause-best
best_of_row-best-requires-clause-best c = c.loop-z.invariant

pub loop-z-preserved : goal.loop-z-preserved
loop-z-preserved c = c.best_of_row-best.ensures

pub returns : goal.returns
returns c = record { reached = c.loop-z.invariant.reached; least = λ v d seen e. c.loop-z.invariant.least v d (omega (arith, seen, c.loop-z-test.false)) e }
