-- The posts that stay are those to others.
use Rattle.{sim_held.proofs.Common.{ap, filter, not, rules, ◌∙◌}, std.proofs.{Common.◌==◌, lemmas.Fn.filter_same}}

pub returns : Rattle.sim_held.proofs.waiting.others_of.Goals.returns
returns c =
    c.from_items.ensures ∙ filter_same _ (λ post. not (post.to == c.args.to)) _ (λ x b f' k. search rules) _ _ c.retain.ensures.filtered
    ∙ ap (filter (λ post. not (post.to == c.args.to))) c.into_items-items.ensures
