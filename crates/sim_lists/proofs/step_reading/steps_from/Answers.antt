-- One step more. Where the first item is refused early, there is none.
use Rattle.std.proofs.{Common.arith, Common.rules, lemmas.Grind.common_steps}

pub loop-rest-preserved : Rattle.sim_lists.proofs.step_reading.steps_from.Goals.loop-rest-preserved
loop-rest-preserved c = record {
  start = search rules;
  same = grind (arith, common_steps);
  limits = grind (arith, common_steps);
}
