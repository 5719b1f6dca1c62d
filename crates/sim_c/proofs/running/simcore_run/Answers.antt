-- What is answered is the answer of the call below.
use Rattle.std.proofs.{Common.rules, Common.w32, lemmas.Int.to_z-of_z}
use mir.Val.{SFits}

pub returns : Rattle.sim_c.proofs.running.simcore_run.Goals.returns
returns c =
    let fits : SFits w32 c.give_run.result = search rules in
    record {
      answer = c.run-answer.result;
      is = c.run-answer.ensures.is;
      cause = c.run-answer.ensures.refused;
      puts = simp to_z-of_z c.give_run.ensures;
    }
