-- Each kind so far has one handler, and the others have none.
use Rattle.sim_base.proofs.Keyed.{AreKeyedBelow}

abbrev pub invariant-loop-kind : Rattle.sim_held.proofs.boards.turned_on.Given.invariant-loop-kind
invariant-loop-kind g l = AreKeyedBelow (λ (h : _). h.kind) l.handlers.items l.kind
