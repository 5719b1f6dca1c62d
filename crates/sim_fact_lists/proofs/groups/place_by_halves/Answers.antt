-- The closure gives the key of a group, and the keys ascend.
use Rattle.sim_fact_lists.proofs.{Common.answers_always, Common.Group, Common.rules, Keyed.place_by}

pub returns : Rattle.sim_fact_lists.proofs.groups.place_by_halves.Goals.returns
returns c =
    let by_key = c.binary_search_by_key.ensures.position (λ (group : Group). group.key) (answers_always _ _ _ (λ f a r g called. search rules)) in
    place_by c.args.groups.now c.args.key c.binary_search_by_key.result c.requires c.binary_search_by_key.ensures.bound by_key
