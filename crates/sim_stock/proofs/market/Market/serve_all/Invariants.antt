-- The books after the commands so far.
use Rattle.sim_stock.proofs.Common.{◌≡◌, ◌≤◌, take, fold, AreKept, books_of, IsWholeBy, obeyed, rig_in, setup_in, state_in, systems_by, total}
use Rattle.sim_stock.proofs.market.Market.serve_all.Given as goal

abbrev pub invariant-loop-order : goal.invariant-loop-order
invariant-loop-order g l =
    record {
      books : books_of (state_in l.board) l.stocks ≡ fold (obeyed (setup_in l.fn.board) l.self.economy.now.prices) (books_of (state_in l.fn.board) l.fn.stocks)
          (take l.order-index l.commands);
      total_is : total l.stocks ≤ total l.fn.stocks;
      same : setup_in l.board ≡ setup_in l.fn.board;
      whole : IsWholeBy l.board (λ i v. (goal.System-dyn g (i, v)).meaning v);
      kept : AreKept (systems_by (rig_in l.fn.board) (λ i v. (goal.System-dyn g (i, v)).meaning v))
          (systems_by (rig_in l.board) (λ i v. (goal.System-dyn g (i, v)).meaning v));
    }
