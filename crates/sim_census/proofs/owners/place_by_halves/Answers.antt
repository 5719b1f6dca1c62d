-- The closure gives the id of an entity, and the ids ascend.
use Rattle.{sim_census.{proofs.Owning.place_by, specs.declared.owned.Owned.Owned}, std.proofs.{Common.rules, lemmas.List.Sorted.answers_always}}

pub returns : Rattle.sim_census.proofs.owners.place_by_halves.Goals.returns
returns c =
    let by_id = c.binary_search_by_key.ensures.position (λ (owned : Owned). owned.id) (answers_always _ _ _ (λ f a r g called. search rules)) in
    place_by c.args.owned.now c.args.id c.binary_search_by_key.result c.requires c.binary_search_by_key.ensures.bound by_id
