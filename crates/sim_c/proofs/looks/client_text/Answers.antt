-- What is answered is the text of the client's state, in the words of its definition.
use Rattle.sim_c.{proofs.Looked.looked_is, proofs.Looked.looked_none, specs.Gives.looked}
use Rattle.std.{proofs.Common.rules, proofs.Common.w32, proofs.lemmas.Int.to_z-of_z, specs.Prelude.string_bytes}
use mir.Val.{SFits}

pub returns : Rattle.sim_c.proofs.looks.client_text.Goals.returns
returns c =
    let fits : SFits w32 c.give_shown.result = search rules in
    record {
      answer = looked string_bytes c.show.result;
      is = record {
        looks = looked_is string_bytes _ _ c.show.result c.show.ensures.looks;
        none = λ off. looked_none string_bytes c.show.result (c.show.ensures.none off);
      };
      puts = simp to_z-of_z c.give_shown.ensures;
    }
