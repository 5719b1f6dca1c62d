-- One item more.
use Rattle.std.proofs.{Common.arith, Common.rules, lemmas.Grind.common_steps}

pub loop-rest-preserved : Rattle.sim_setup.proofs.sources.sources_from.Goals.loop-rest-preserved
loop-rest-preserved c = record {
  same = grind (arith, common_steps);
  ready = search rules;
}
