-- The state is that of the match's own turns so far, and each of them that is told has its frame.
use Rattle.sim_play.proofs.Common.{◌≡◌, ◌+◌, ◌++◌, string_bytes, after, AreBuiltOnceAtMost, frames, HaveKinds, IsValid, IsWholeBy, own_turns, systems_by}
use Rattle.sim_play.proofs.films.start_frames.Given as goal

abbrev pub invariant-loop-turn : goal.invariant-loop-turn
invariant-loop-turn g l =
    record {
      state : l.board.state ≡ after l.fn.board.setup.now (own_turns l.fn.board.setup.now 0 l.turn);
      turn : l.board.state.turn ≡ l.turn;
      text : string_bytes l.out ≡ string_bytes l.fn.out ++ frames l.fn.board.setup.now l.fn.every (l.turn + 1);
      valid : IsValid l.fn.board.setup.now l.board.state;
      same : l.board.setup.now ≡ l.fn.board.setup.now;
      whole : IsWholeBy l.board (λ i v. (goal.System-dyn g (i, v)).meaning v);
      kinds : HaveKinds (systems_by l.board.rig (λ i v. (goal.System-dyn g (i, v)).meaning v));
      most : AreBuiltOnceAtMost (systems_by l.fn.board.rig (λ i v. (goal.System-dyn g (i, v)).meaning v))
          (systems_by l.board.rig (λ i v. (goal.System-dyn g (i, v)).meaning v));
    }
