-- The books are those of the paid turns so far, and there is a line for each.
use Rattle.sim_play.proofs.market.start_lines.Given as goal
use Rattle.sim_play.proofs.Common.{AreBuiltOnceAtMost, books_after, books_of, HaveKinds, IsValid, IsWholeBy, paid_lines, rig_in, setup_in, state_in}
use Rattle.sim_play.proofs.Common.{string_bytes, suc, systems_by, total, ◌*◌, ◌++◌, ◌+◌, ◌≡◌, ◌≤◌}

abbrev pub invariant-loop-turn : goal.invariant-loop-turn
invariant-loop-turn g l =
    record {
      books : books_of (state_in l.board) l.stocks ≡ books_after (setup_in l.fn.board) l.market.economy.now l.turn;
      total_is : total l.stocks ≤ 16000000000 + 8192000 * l.turn;
      text : string_bytes l.out ≡ string_bytes l.fn.out ++ paid_lines (setup_in l.fn.board) l.market.economy.now (suc l.turn);
      valid : IsValid (setup_in l.fn.board) (state_in l.board);
      same : setup_in l.board ≡ setup_in l.fn.board;
      whole : IsWholeBy l.board (λ i v. (goal.System-dyn g (i, v)).meaning v);
      kinds : HaveKinds (systems_by (rig_in l.board) (λ i v. (goal.System-dyn g (i, v)).meaning v));
      most : AreBuiltOnceAtMost (systems_by (rig_in l.fn.board) (λ i v. (goal.System-dyn g (i, v)).meaning v))
          (systems_by (rig_in l.board) (λ i v. (goal.System-dyn g (i, v)).meaning v));
    }
