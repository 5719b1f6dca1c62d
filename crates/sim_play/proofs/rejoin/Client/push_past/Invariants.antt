-- The state is that of the match's own turns so far, and there is a line for each.
use Rattle.sim_play.proofs.Common.{◌≡◌, suc, ◌-◌, ◌≤◌, ◌++◌, string_bytes, after, AreKept, IsValid, IsWholeBy, own_turns, past_lines, systems_by}
use Rattle.sim_play.proofs.rejoin.Client.push_past.Given as goal

abbrev pub invariant-loop-number : goal.invariant-loop-number
invariant-loop-number g l =
    record {
      begun : l.fn.board.state.turn ≤ l.number;
      state : l.board.state ≡ after l.fn.board.setup.now (own_turns l.fn.board.setup.now 0 l.number);
      turn : l.board.state.turn ≡ l.number;
      text : string_bytes l.out ≡ string_bytes l.fn.out ++ past_lines l.self.word.now l.fn.board.setup.now (suc l.fn.board.state.turn)
          (l.number - l.fn.board.state.turn);
      valid : IsValid l.fn.board.setup.now l.board.state;
      same : l.board.setup.now ≡ l.fn.board.setup.now;
      whole : IsWholeBy l.board (λ i v. (goal.System-dyn g (i, v)).meaning v);
      kept : AreKept (systems_by l.fn.board.rig (λ i v. (goal.System-dyn g (i, v)).meaning v))
          (systems_by l.board.rig (λ i v. (goal.System-dyn g (i, v)).meaning v));
    }
