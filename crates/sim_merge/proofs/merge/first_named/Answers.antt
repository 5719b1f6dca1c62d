use Rattle.sim_merge.proofs.{ChildrenLemmas.first_named-other, ChildrenLemmas.is_sound-first_named, Common.sym, Common.◌∙◌}

pub returns-else-is_named-clause-named : Rattle.sim_merge.proofs.merge.first_named.Goals.returns-else-is_named-clause-named
returns-else-is_named-clause-named c =
    sym (first_named-other c.args.children.now c.child-item.result c.args.name.now c.in-len1-up.len_at_least c.child-item.is c.requires.sound
    c.requires.none_before
    (sym c.is_named.ensures ∙ c.if-is_named.false))

pub returns-then-is_named-clause-sound : Rattle.sim_merge.proofs.merge.first_named.Goals.returns-then-is_named-clause-sound
returns-then-is_named-clause-sound c =
    is_sound-first_named c.args.children.now c.child-item.result c.in-len1-up.len_at_least c.child-item.is c.requires.sound
