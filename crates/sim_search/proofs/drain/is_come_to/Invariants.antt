use Rattle.sim_search.proofs.Common.{take, cost_in, IsComeTo}

abbrev pub invariant-loop-end : Rattle.sim_search.proofs.drain.is_come_to.Given.invariant-loop-end
invariant-loop-end l = IsComeTo (cost_in l.costs) (take l.end-index l.ends) l.now → ⊥
