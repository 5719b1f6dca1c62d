use Rattle.sim_merge.proofs.Common.{not, filter, ap, contains_text, filter_same, rules, ◌∙◌}

pub returns : Rattle.sim_merge.proofs.words.leaving_out.Goals.returns
returns c =
    c.from_items.ensures
    ∙ filter_same _ (λ word. not (contains_text c.args.removed.now word)) _ (λ x b f' k. search rules) _ _ c.retain.ensures.filtered
    ∙ ap (filter (λ word. not (contains_text c.args.removed.now word))) c.into_items-words.ensures
