-- The state is that of the turns so far.
use Rattle.sim_turn.proofs.Common.{◌≡◌, ◌-◌, AreKept, from, IsValid, IsWholeBy, own_turns, rig_in, setup_in, state_in, systems_by}
use Rattle.sim_turn.proofs.playing.play.Given as goal

abbrev pub invariant-loop-number : goal.invariant-loop-number
invariant-loop-number g l =
    record {
      state : state_in l.board ≡ from (setup_in l.fn.board) (state_in l.fn.board) (own_turns (setup_in l.fn.board) l.first (l.number - l.first));
      turn : (state_in l.board).turn ≡ l.number;
      first : l.first ≡ (state_in l.fn.board).turn;
      valid : IsValid (setup_in l.fn.board) (state_in l.board);
      same : setup_in l.board ≡ setup_in l.fn.board;
      whole : IsWholeBy l.board (λ i v. (goal.System-dyn g (i, v)).meaning v);
      kept : AreKept (systems_by (rig_in l.fn.board) (λ i v. (goal.System-dyn g (i, v)).meaning v))
          (systems_by (rig_in l.board) (λ i v. (goal.System-dyn g (i, v)).meaning v));
    }
