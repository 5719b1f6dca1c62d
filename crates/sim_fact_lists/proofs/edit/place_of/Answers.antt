-- The closure gives the id of a fact, and the ids ascend.
use Rattle.sim_fact_lists.proofs.{Common.answers_always, Common.Fact, Common.rules, Standing.place_by}

pub returns : Rattle.sim_fact_lists.proofs.edit.place_of.Goals.returns
returns c =
    let by_id = c.binary_search_by_key.ensures.position (λ (fact : Fact). fact.id) (answers_always _ _ _ (λ f a r g called. search rules)) in
    place_by c.args.facts.now c.args.id c.binary_search_by_key.result c.requires c.binary_search_by_key.ensures.bound by_id
