-- No system is built by the changes.
use Rattle.{sim_board.proofs.{Common.{sym, ◌∙◌}, Counting.{most_kept, once_kept}}, std.proofs.lemmas.Result.err_from_is_err_and}

pub returns-in_err-start : Rattle.sim_board.proofs.follow.start_and_apply.Goals.returns-in_err-start
returns-in_err-start g c =
    let begins = c.in_err-start.ensures in
    let p = err_from_is_err_and c.from_residual.result c.from_residual.ensures.1 in
    rw p.1 (record {
      state = tt;
      whole = tt;
      err = begins.err;
      kinds = begins.kinds;
      once = tt;
      most = begins.most;
      setup = begins.setup;
    })

pub returns : Rattle.sim_board.proofs.follow.start_and_apply.Goals.returns
returns g c =
    let begins = c.in_ok-start.ensures in
    let makes = c.apply_all.ensures in
    record {
      state = rw (sym begins.state) (rw (sym begins.setup) makes.state);
      whole = makes.whole;
      err = makes.err;
      kinds = makes.kept.kinds;
      once = once_kept c.apply_all.result _ _ _ begins.once makes.kept;
      most = most_kept _ _ _ begins.most makes.kept;
      setup = makes.setup ∙ begins.setup;
    }
