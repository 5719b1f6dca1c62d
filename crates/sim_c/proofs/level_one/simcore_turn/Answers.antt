-- What is answered is the answer of the call below.
use Rattle.std.proofs.{Common.rules, Common.w32, lemmas.Int.to_z-of_z}
use mir.Val.{SFits}

pub returns : Rattle.sim_c.proofs.level_one.simcore_turn.Goals.returns
returns c =
    let fits : SFits w32 c.give_stored.result = search rules in
    record {
      answer = c.turn-answer.result;
      is = c.turn-answer.ensures.is;
      cause = c.turn-answer.ensures.refused;
      puts = simp to_z-of_z c.give_stored.ensures;
    }
