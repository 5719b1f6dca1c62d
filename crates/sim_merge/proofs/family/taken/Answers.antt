use Rattle.sim_merge.proofs.{Common.[], Common.◌++◌, Common.ap, Common.cons_option, Common.sym, Common.◌∙◌, KeepingLemmas.filter_map-push}

pub loop-slot-preserved : Rattle.sim_merge.proofs.family.taken.Goals.loop-slot-preserved
loop-slot-preserved c =
    c.in_ok-push_if.ensures ∙ ap (λ trees. trees ++ cons_option c.in-Some.slot []) c.loop-slot.invariant ∙
    sym (filter_map-push c.loop-slot.yielded c.in-Some.slot)
