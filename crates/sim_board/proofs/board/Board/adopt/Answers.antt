-- The systems are built from the state, which is valid.
use Rattle.{sim_board.proofs.Common.refl, sim_laws.proofs.Validity.valid_is_loose, std.proofs.lemmas.Result.err_from_is_err_and}

pub returns-in_err-build : Rattle.sim_board.proofs.board.Board.adopt.Goals.returns-in_err-build
returns-in_err-build g c =
    let built = c.in_err-build.ensures in
    let p = err_from_is_err_and c.from_residual.result c.from_residual.ensures.1 in
    rw p.1 (record {
      state = tt;
      whole = tt;
      err = refl;
      kinds = built.kinds;
      once = tt;
      most = built.most;
      setup = refl;
    })

pub returns : Rattle.sim_board.proofs.board.Board.adopt.Goals.returns
returns g c =
    let built = c.in_ok-build.ensures in
    record {
      state = refl;
      whole = record {
        whole = refl;
        standing = record { limits = c.requires.limits; valid = valid_is_loose _ _ c.requires.valid; fed = built.fed };
      };
      err = tt;
      kinds = built.kinds;
      once = built.once;
      most = built.most;
      setup = refl;
    }
