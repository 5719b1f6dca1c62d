-- The changes that are left fit, and give the state of all.
use Rattle.sim_board.proofs.Common.{◌≡◌, length, drop, AllFit, applied_all, AreKept, IsWholeBy, systems_by}
use Rattle.sim_board.proofs.follow.apply_all.Given as goal

abbrev pub invariant-loop-at : goal.invariant-loop-at
invariant-loop-at g l =
    record {
      long : length l.changes.items ≡ length l.fn.changes;
      applied : applied_all l.fn.board.setup.now l.board.state (drop l.at l.changes.items) ≡ applied_all l.fn.board.setup.now l.fn.board.state l.fn.changes;
      fit : AllFit l.fn.board.setup.now l.board.state (drop l.at l.changes.items);
      same : l.board.setup.now ≡ l.fn.board.setup.now;
      whole : IsWholeBy l.board (λ i v. (goal.System-dyn g (i, v)).meaning v);
      kept : AreKept (systems_by l.fn.board.rig (λ i v. (goal.System-dyn g (i, v)).meaning v))
          (systems_by l.board.rig (λ i v. (goal.System-dyn g (i, v)).meaning v));
    }
