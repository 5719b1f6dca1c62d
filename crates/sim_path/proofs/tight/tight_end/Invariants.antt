use Rattle.sim_path.proofs.Common.{take, floor_cost, IsBestOf}

abbrev pub invariant-loop-cell : Rattle.sim_path.proofs.tight.tight_end.Given.invariant-loop-cell
invariant-loop-cell g l = IsBestOf (floor_cost (g.F.Floor.floor_of l.floor l.question.start)) l.question.goal (take l.cell-index l.question.ends.now) l.best
