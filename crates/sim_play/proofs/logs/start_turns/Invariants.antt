-- The state is that after the turns so far, and the digests are those of it and of all states before.
use Rattle.sim_play.proofs.Common.{◌≡◌, ◌+◌, take, AreBuiltOnceAtMost, HaveKinds, IsValid, IsWholeBy, rig_in, setup_in, state_after, state_in, systems_by}
use Rattle.sim_play.proofs.LogTurns.{digests_to}
use Rattle.sim_play.proofs.logs.start_turns.Given as goal

abbrev pub invariant-loop-commands : goal.invariant-loop-commands
invariant-loop-commands g l =
    record {
      digests : l.digests ≡ digests_to (setup_in l.fn.board) l.turns (l.commands-index + 1);
      state : state_in l.board ≡ state_after (setup_in l.fn.board) (take l.commands-index l.turns);
      valid : IsValid (setup_in l.fn.board) (state_in l.board);
      same : setup_in l.board ≡ setup_in l.fn.board;
      whole : IsWholeBy l.board (λ i v. (goal.System-dyn g (i, v)).meaning v);
      kinds : HaveKinds (systems_by (rig_in l.board) (λ i v. (goal.System-dyn g (i, v)).meaning v));
      most : AreBuiltOnceAtMost (systems_by (rig_in l.fn.board) (λ i v. (goal.System-dyn g (i, v)).meaning v))
          (systems_by (rig_in l.board) (λ i v. (goal.System-dyn g (i, v)).meaning v));
    }
