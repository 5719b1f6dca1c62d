-- What is answered is the answer of the call below, in the words of its definition.
use Rattle.{sim_c.{proofs.Mapped.{mapped_cause, mapped_is}, specs.Gives.mapped}, std.proofs.{Common.{rules, w32}, lemmas.Int.to_z-of_z}}
use mir.Val.{SFits}

pub returns : Rattle.sim_c.proofs.level_one.simcore_entities.Goals.returns
returns c =
    let fits : SFits w32 c.give_entities.result = search rules in
    record {
      answer = mapped (λ found. found.items) c.entities-answer.result;
      is = mapped_is (λ found. found.items) _ c.entities-answer.result c.entities-answer.ensures.is;
      cause = mapped_cause (λ found. found.items) _ c.entities-answer.result c.entities-answer.ensures.refused;
      puts = simp to_z-of_z c.give_entities.ensures;
    }
