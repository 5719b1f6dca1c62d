-- Behind the last change none is left. One for which there was no memory ends it. No system was built.
use Rattle.sim_board.proofs.{Common.◌∙◌, Common.ap, Common.applied_all, Common.length, Common.sym, Keeping.kept_on}
use Rattle.std.proofs.{Common.arith, lemmas.List.drop_all, lemmas.Result.err_from_is_err_and}

pub returns-in_err-make : Rattle.sim_board.proofs.follow.apply_all.Goals.returns-in_err-make
returns-in_err-make g c =
    let made = c.in_err-make.ensures in
    let p = err_from_is_err_and c.from_residual.result c.from_residual.ensures.1 in
    rw p.1 (record {
      state = tt;
      whole = tt;
      err = made.err;
      kept = kept_on _ _ _ c.loop-at.invariant.kept made.kept;
      setup = made.setup ∙ c.loop-at.invariant.same;
    })

pub returns : Rattle.sim_board.proofs.follow.apply_all.Goals.returns
returns g c =
    let all = c.loop-at.invariant in
    record {
      state = sym (ap (applied_all c.args.board.now.setup.now c.loop-at.board.state) (drop_all c.loop-at.at c.loop-at.changes.items (omega (arith, ap length c.into_items-changes.ensures))))
          ∙ all.applied;
      whole = all.whole;
      err = tt;
      kept = all.kept;
      setup = all.same;
    }
