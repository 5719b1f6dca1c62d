use Rattle.sim_fact_lists.proofs.Common.{◌≡◌, take, kept_of}

abbrev pub invariant-loop-fact : Rattle.sim_fact_lists.proofs.part.all_kept.Given.invariant-loop-fact
invariant-loop-fact l = l.all ≡ kept_of l.kind (take l.fact-index l.facts)
