-- The lists that stay have a post.
use Rattle.{sim_held.proofs.Common.rules, sim_held.specs.Servers.has_some, std.proofs.lemmas.Fn.filter_same}

pub returns-clause-said : Rattle.sim_held.proofs.waiting.drop_empty.Goals.returns-clause-said
returns-clause-said c = filter_same _ has_some _ (λ x b f' k. search rules) _ _ c.retain.ensures.filtered
