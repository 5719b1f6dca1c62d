-- What is answered is the stored state of the client.
use Rattle.std.proofs.{Common.rules, Common.w32, lemmas.Int.to_z-of_z}
use mir.Val.{SFits}

pub returns : Rattle.sim_c.proofs.looks.client_state.Goals.returns
returns c =
    let fits : SFits w32 c.give_state.result = search rules in
    record {
      answer = c.stored.result;
      is = c.stored.ensures;
      puts = simp to_z-of_z c.give_state.ensures;
    }
