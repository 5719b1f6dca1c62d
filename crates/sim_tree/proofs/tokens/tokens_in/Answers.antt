use Rattle.sim_tree.proofs.Common.{filter, ap, is_word, lit<, YieldsList-at, YieldsList-end, YieldsList-from_str_split, ◌∙◌}

pub returns : Rattle.sim_tree.proofs.tokens.tokens_in.Goals.returns
returns c =
    let split = c.split-part-items.ensures in
    let parts = YieldsList-from_str_split 32 c.args.text.now (lit< tt) split.text split.has_more split.pattern in
    let all = YieldsList-end (YieldsList-at c.into_iter-part-iterator.ensures.into_iter_gives parts) c.loop-part.yielded _ c.loop-part.yielded_by _ _
    c.in-None.is c.next.ensures.steps in
    c.loop-part.invariant ∙ ap (filter is_word) all.0
