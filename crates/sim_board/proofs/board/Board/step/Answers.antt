-- The place that is kept for the row changes nothing else. The systems were told of the change, and the state is as it says.
use Rattle.sim_board.proofs.{Common.{ap, Fits, left_by, subst, sym, ◌∙◌}, Letting.left_by_watchers}
use Rattle.{sim_board.proofs.Standing.{keeping_makes_none, makes_none, stands_by, stands_if}, std.proofs.lemmas.Result.err_from_is_err_and}
use Rattle.sim_base.specs.declared.change.Change.TheVariants as change
use Rattle.sim_board.proofs.board.Board.step.Goals as goal

pub removed-requires : goal.removed-requires
removed-requires g c = record {
  stands = c.requires.stands;
  fits = subst (Fits c.args.self.now.setup.now c.args.self.now.state) c.in-Remove.is c.requires.fits;
}

pub post-requires-clause-may : goal.post-requires-clause-may
post-requires-clause-may g c = record { stands = c.requires.stands; fits = c.requires.fits }

pub returns-in_err-watchers-in-Remove : goal.returns-in_err-watchers-in-Remove
returns-in_err-watchers-in-Remove g c =
    let tells = c.in_err-watchers-in-Remove.ensures.tells in
    let p = err_from_is_err_and c.from_residual.result c.from_residual.ensures.1 in
    rw (p.1, c.in-Remove.is) (record {
      state = tt;
      stands = tt;
      sure = λ needs. absurd needs;
      untold = λ keeps. absurd keeps;
      kept = tells.kept;
      setup = tells.setup;
      whole = tells.whole;
    })

pub returns-in_ok-watchers-in-Remove : goal.returns-in_ok-watchers-in-Remove
returns-in_ok-watchers-in-Remove g c =
    let setup = c.args.self.now.setup.now in
    let state = c.args.self.now.state in
    let tells = c.in_ok-watchers-in-Remove.ensures.tells in
    let fits = subst (Fits setup state) c.in-Remove.is c.requires.fits in
    let left = c.remove.ensures ∙ ap (left_by c.in-Remove.id c.as_slice-watchers.result.now) tells.state
    ∙ left_by_watchers setup state c.in-Remove.id _ c.requires.stands.valid fits (c.as_slice-watchers.ensures ∙ c.in_ok-watchers-in-Remove.ensures.watchers) in
    rw c.in-Remove.is (record {
      state = left;
      stands = stands_by _ _ _ (change.Remove c.in-Remove.id) _ _ c.requires.stands fits tells.fed left;
      sure = λ needs. absurd needs;
      untold = λ keeps. absurd keeps;
      kept = tells.kept;
      setup = tells.setup;
      whole = tells.whole;
    })

pub returns-in_err-post-in_default : goal.returns-in_err-post-in_default
returns-in_err-post-in_default g c =
    let posted = c.in_err-post-in_default.ensures in
    let p = err_from_is_err_and c.from_residual-in_err-post-in_default.result c.from_residual-in_err-post-in_default.ensures.1 in
    rw p.1 (record {
      state = tt;
      stands = tt;
      sure = posted.sure;
      untold = posted.untold;
      kept = posted.tells.kept;
      setup = posted.tells.setup;
      whole = posted.tells.whole;
    })

pub returns-in_ok-post-in_default : goal.returns-in_ok-post-in_default
returns-in_ok-post-in_default g c =
    let posted = c.in_ok-post-in_default.ensures in
    let made = c.make.ensures in
    record {
      state = rw (sym posted.tells.setup) (rw (sym posted.tells.state) made.applied);
      stands = stands_if _ _ _ _ _ _ c.requires.stands c.requires.fits posted.tells.fed c.make.result
          (rw (sym posted.tells.setup) (rw (sym posted.tells.state) made.applied));
      sure = λ needs. made.sure (makes_none c.args.change.now needs);
      untold = λ keeps. made.sure (keeping_makes_none c.args.self.now.state c.args.change.now keeps);
      kept = posted.tells.kept;
      setup = posted.tells.setup;
      whole = posted.tells.whole;
    }
