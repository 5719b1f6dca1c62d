-- The closure gives the id of an entity, and the ids ascend.
use Rattle.{sim_watch.proofs.Common.Aimer, sim_watch.proofs.Listing.place_by, std.proofs.Common.rules, std.proofs.lemmas.List.Sorted.answers_always}

pub returns : Rattle.sim_watch.proofs.aimers.place_by_halves.Goals.returns
returns c =
    let by_id = c.binary_search_by_key.ensures.position (λ (aimer : Aimer). aimer.id) (answers_always _ _ _ (λ f a r g called. search rules)) in
    place_by c.args.aimers.now c.args.id c.binary_search_by_key.result c.requires c.binary_search_by_key.ensures.bound by_id
