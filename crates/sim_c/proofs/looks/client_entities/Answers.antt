-- What is answered are the entities of the client's state, in the words of their definition.
use Rattle.{sim_c.{proofs.Looked.{looked_is, looked_none}, specs.Gives.looked}, std.proofs.{Common.{rules, w32}, lemmas.Int.to_z-of_z}}
use mir.Val.{SFits}

pub returns : Rattle.sim_c.proofs.looks.client_entities.Goals.returns
returns c =
    let fits : SFits w32 c.give_items.result = search rules in
    record {
      answer = looked (λ found. found.items) c.entities.result;
      is = record {
        looks = looked_is (λ found. found.items) _ _ c.entities.result c.entities.ensures.looks;
        none = λ off. looked_none (λ found. found.items) c.entities.result (c.entities.ensures.none off);
      };
      puts = simp to_z-of_z c.give_items.ensures;
    }
