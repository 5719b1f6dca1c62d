use Rattle.sim_territory.proofs.Common.{take, AreShifted}

abbrev pub invariant-loop-shift : Rattle.sim_territory.proofs.influences.Influences.follow.Given.invariant-loop-shift
invariant-loop-shift l = AreShifted l.setup (take l.shift-index l.shifts) l.initial.self.sums l.self.sums
