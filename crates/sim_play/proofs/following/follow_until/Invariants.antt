-- The state is that of the turns so far, and each was followed.
use Rattle.sim_play.proofs.Common.{◌≡◌, ◌-◌, ◌≤◌, AreKept, from, IsValid, IsWholeBy, later_of, own_turns, systems_by, vision_after}
use Rattle.sim_play.proofs.following.follow_until.Given as goal

abbrev pub invariant-loop-number : goal.invariant-loop-number
invariant-loop-number g l =
    record {
      begun : l.fn.board.state.turn ≤ l.number;
      state : l.board.state ≡ from l.fn.board.setup.now l.fn.board.state
          (own_turns l.fn.board.setup.now l.fn.board.state.turn (l.number - l.fn.board.state.turn));
      turn : l.board.state.turn ≡ l.number;
      followed : l.sight ≡ vision_after l.fn.sight
          (later_of l.fn.board.setup.now l.fn.board.state (l.number - l.fn.board.state.turn));
      follows : l.sight.setup ≡ l.fn.board.setup.now;
      valid : IsValid l.fn.board.setup.now l.board.state;
      same : l.board.setup.now ≡ l.fn.board.setup.now;
      whole : IsWholeBy l.board (λ i v. (goal.System-dyn g (i, v)).meaning v);
      kept : AreKept (systems_by l.fn.board.rig (λ i v. (goal.System-dyn g (i, v)).meaning v))
          (systems_by l.board.rig (λ i v. (goal.System-dyn g (i, v)).meaning v));
    }
