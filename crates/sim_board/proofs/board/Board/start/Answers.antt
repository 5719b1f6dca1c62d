-- The state that is taken is the first one.
use Rattle.{sim_board.proofs.Common.refl, sim_board.proofs.Common.sym, sim_board.proofs.Counting.built_same, std.proofs.lemmas.Result.err_from_is_err_and}

pub returns-in_err-state : Rattle.sim_board.proofs.board.Board.start.Goals.returns-in_err-state
returns-in_err-state g c =
    let p = err_from_is_err_and c.from_residual.result c.from_residual.ensures.1 in
    rw p.1 (record {
      state = tt;
      whole = tt;
      err = refl;
      kinds = c.requires.kinds;
      once = tt;
      most = built_same _;
      setup = refl;
    })

pub returns : Rattle.sim_board.proofs.board.Board.start.Goals.returns
returns g c =
    let adopts = c.adopt.ensures in
    record {
      state = rw (sym c.in_ok-state.ensures.state) adopts.state;
      whole = adopts.whole;
      err = adopts.err;
      kinds = adopts.kinds;
      once = adopts.once;
      most = adopts.most;
      setup = adopts.setup;
    }
