-- What is answered is the stamp of the match, for which no memory is wanted.
use Rattle.std.{proofs.Common.rules, proofs.Common.w32, proofs.lemmas.Int.to_z-of_z, specs.Prelude.Ok, specs.Prelude.Some}
use mir.Val.{SFits}

pub returns : Rattle.sim_c.proofs.looks.game_stamp.Goals.returns
returns c =
    let fits : SFits w32 c.give_held_stamp.result = search rules in
    record {
      answer = Ok (Some c.stamp.result);
      is = record { digest = c.stamp.ensures.digest; turn = c.stamp.ensures.turn };
      puts = simp to_z-of_z c.give_held_stamp.ensures;
    }
