use Rattle.sim_territory.proofs.{Common.take, Flooding.AtRoots}

abbrev pub invariant-loop-mark : Rattle.sim_territory.proofs.roots.wet_roots.Given.invariant-loop-mark
invariant-loop-mark l = AtRoots l.setup l.marks (take l.mark-index l.marks) l.initial.flood l.flood
