-- The state is that of the turns so far, and there is a line for each.
use Rattle.sim_play.proofs.Common.{◌≡◌, suc, ◌-◌, ◌≤◌, ◌++◌, string_bytes, AreKept, from, IsValid, IsWholeBy, own_turns, systems_by, turn_lines}
use Rattle.sim_play.proofs.lines.push_turns.Given as goal

abbrev pub invariant-loop-turn : goal.invariant-loop-turn
invariant-loop-turn g l =
    record {
      begun : l.fn.board.state.turn ≤ l.turn;
      state : l.board.state ≡ from l.fn.board.setup.now l.fn.board.state
          (own_turns l.fn.board.setup.now l.fn.board.state.turn (l.turn - l.fn.board.state.turn));
      turn : l.board.state.turn ≡ l.turn;
      text : string_bytes l.out ≡ string_bytes l.fn.out ++ turn_lines l.fn.board.setup.now l.fn.board.state l.fn.board.state.turn
          (suc (l.turn - l.fn.board.state.turn));
      valid : IsValid l.fn.board.setup.now l.board.state;
      same : l.board.setup.now ≡ l.fn.board.setup.now;
      whole : IsWholeBy l.board (λ i v. (goal.System-dyn g (i, v)).meaning v);
      kept : AreKept (systems_by l.fn.board.rig (λ i v. (goal.System-dyn g (i, v)).meaning v))
          (systems_by l.board.rig (λ i v. (goal.System-dyn g (i, v)).meaning v));
    }
