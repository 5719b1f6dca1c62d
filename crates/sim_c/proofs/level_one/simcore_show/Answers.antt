-- What is answered is the answer of the call below, in the words of its definition.
use Rattle.sim_c.{proofs.Mapped.mapped_cause, proofs.Mapped.mapped_is, specs.Gives.mapped}
use Rattle.std.{proofs.Common.rules, proofs.Common.w32, proofs.lemmas.Int.to_z-of_z, specs.Prelude.string_bytes}
use mir.Val.{SFits}

pub returns : Rattle.sim_c.proofs.level_one.simcore_show.Goals.returns
returns c =
    let fits : SFits w32 c.give_text.result = search rules in
    record {
      answer = mapped string_bytes c.show-answer.result;
      is = mapped_is string_bytes _ c.show-answer.result c.show-answer.ensures.is;
      cause = mapped_cause string_bytes _ c.show-answer.result c.show-answer.ensures.refused;
      puts = simp to_z-of_z c.give_text.ensures;
    }
