use Rattle.sim_turn.proofs.Common.{◌≡◌, take, fold, AreKept, commanded, IsWholeBy, rig_in, setup_in, state_in, systems_by}
use Rattle.sim_turn.proofs.turns.obey_all.Given as goal

abbrev pub invariant-loop-order : goal.invariant-loop-order
invariant-loop-order g l =
    record {
      state : state_in l.board ≡ fold (commanded (setup_in l.fn.board)) (state_in l.fn.board) (take l.order-index l.commands);
      same : setup_in l.board ≡ setup_in l.fn.board;
      whole : IsWholeBy l.board (λ i v. (goal.System-dyn g (i, v)).meaning v);
      kept : AreKept (systems_by (rig_in l.fn.board) (λ i v. (goal.System-dyn g (i, v)).meaning v))
          (systems_by (rig_in l.board) (λ i v. (goal.System-dyn g (i, v)).meaning v));
    }
