use Rattle.sim_turn.proofs.Common.{◌≡◌, map, take, fold, AreKept, commanded, IsWholeBy, rig_in, setup_in, state_in, systems_by, Timed}
use Rattle.sim_turn.proofs.playing.obey_due.Given as goal

abbrev pub invariant-loop-timed : goal.invariant-loop-timed
invariant-loop-timed g l =
    record {
      state : state_in l.board ≡ fold (commanded (setup_in l.fn.board)) (state_in l.fn.board) (map (λ (timed : Timed). timed.order) (take l.timed-index l.due));
      same : setup_in l.board ≡ setup_in l.fn.board;
      whole : IsWholeBy l.board (λ i v. (goal.System-dyn g (i, v)).meaning v);
      kept : AreKept (systems_by (rig_in l.fn.board) (λ i v. (goal.System-dyn g (i, v)).meaning v))
          (systems_by (rig_in l.board) (λ i v. (goal.System-dyn g (i, v)).meaning v));
    }
