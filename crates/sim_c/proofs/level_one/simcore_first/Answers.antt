-- What is answered is the answer of the call below.
use Rattle.std.proofs.{Common.rules, Common.w32, lemmas.Int.to_z-of_z}
use mir.Val.{SFits}

pub returns : Rattle.sim_c.proofs.level_one.simcore_first.Goals.returns
returns c =
    let fits : SFits w32 c.give_stored.result = search rules in
    record {
      answer = c.first-answer.result;
      is = c.first-answer.ensures.is;
      cause = c.first-answer.ensures.refused;
      puts = simp to_z-of_z c.give_stored.ensures;
    }
