-- The systems know the state after the change, so the board is whole again.
use Rattle.{sim_board.proofs.Common.refl, std.proofs.lemmas.Result.err_from_is_err_and}
use Rattle.sim_board.proofs.board.Board.make.Goals as goal

pub step-requires : goal.step-requires
step-requires g c = record { stands = c.requires.whole.standing; fits = c.requires.fits }

pub returns-in_err-step : goal.returns-in_err-step
returns-in_err-step g c =
    let steps = c.in_err-step.ensures in
    let p = err_from_is_err_and c.from_residual.result c.from_residual.ensures.1 in
    rw p.1 (record {
      state = tt;
      whole = tt;
      err = steps.whole;
      sure = steps.sure;
      untold = steps.untold;
      kept = steps.kept;
      setup = steps.setup;
    })

pub returns : goal.returns
returns g c =
    let steps = c.in_ok-step.ensures in
    record {
      state = steps.state;
      whole = record { whole = refl; standing = rw steps.setup steps.stands };
      err = tt;
      sure = λ needs. refl;
      untold = λ keeps. refl;
      kept = steps.kept;
      setup = steps.setup;
    }
