-- Each kind so far has one handler, and the others have none.
use Rattle.sim_base.proofs.Keyed.{AreKeyedBelow}

abbrev pub invariant-loop-kind : Rattle.sim_edge.proofs.running.run_with.Given.invariant-loop-kind
invariant-loop-kind g l = AreKeyedBelow (λ (h : _). h.kind) l.handlers.items l.kind
