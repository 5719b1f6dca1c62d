-- Those who aimed at the row are let go, and then it leaves.
use Rattle.sim_board.proofs.{Common.◌∙◌, Common.found_placed, Common.refl, Feeding.all_watch, Feeding.removal_fed, Feeding.removal_may_hear, Keeping.kept_fed}
use Rattle.{sim_board.proofs.Keeping.kept_on, std.proofs.lemmas.Result.err_from_is_err_and}
use Rattle.sim_board.proofs.board.Board.removed.Goals as goal

pub fact_of-fact-requires : goal.fact_of-fact-requires
fact_of-fact-requires g c = found_placed c.args.self.now.setup.now c.args.self.now.state c.args.id c.living.result.now c.requires.stands.limits
    c.requires.stands.valid c.living.ensures

pub release-requires-clause-watching : goal.release-requires-clause-watching
release-requires-clause-watching g c = all_watch c.args.self.now.setup.now c.args.self.now.state c.args.id c.living.result.now c.requires.stands.valid
    c.living.ensures _ (c.as_slice.ensures ∙ c.in_ok-ids.ensures)

pub tell_all-requires-clause-may : goal.tell_all-requires-clause-may
tell_all-requires-clause-may g c =
    removal_may_hear c.args.self.now.setup.now c.args.self.now.state c.args.id c.living.result.now c.requires.stands.valid c.living.ensures _ _ _
    (c.as_slice.ensures ∙ c.in_ok-ids.ensures) c.in_ok-release.ensures.fed c.fact_of-fact.ensures

pub returns-clause-tells : goal.returns-clause-tells
returns-clause-tells g c = record {
  fed = removal_fed c.args.self.now.setup.now c.args.self.now.state c.args.id c.living.result.now c.requires.stands.valid c.living.ensures _ _ _
      (c.as_slice.ensures ∙ c.in_ok-ids.ensures) c.in_ok-release.ensures.fed c.fact_of-fact.ensures _ c.in_ok-tell_all.ensures.told;
  kept = kept_on _ _ _ c.in_ok-release.ensures.kept c.in_ok-tell_all.ensures.kept;
  setup = refl;
  state = refl;
  whole = refl;
}

pub returns-in_err-ids-clause-tells : goal.returns-in_err-ids-clause-tells
returns-in_err-ids-clause-tells g c =
    let p = err_from_is_err_and c.from_residual.result c.from_residual.ensures.1 in
    rw p.1 (record { fed = tt; kept = kept_fed _ _ _ c.requires.stands.fed; setup = refl; state = refl; whole = refl })

pub returns-in_err-release-clause-tells : goal.returns-in_err-release-clause-tells
returns-in_err-release-clause-tells g c =
    let p = err_from_is_err_and c.from_residual-in_err-release.result c.from_residual-in_err-release.ensures.1 in
    rw p.1 (record { fed = tt; kept = c.in_err-release.ensures.kept; setup = refl; state = refl; whole = refl })

pub returns-in_err-tell_all-clause-tells : goal.returns-in_err-tell_all-clause-tells
returns-in_err-tell_all-clause-tells g c =
    let p = err_from_is_err_and c.from_residual-in_err-tell_all.result c.from_residual-in_err-tell_all.ensures.1 in
    rw p.1 (record {
      fed = tt;
      kept = kept_on _ _ _ c.in_ok-release.ensures.kept c.in_err-tell_all.ensures.kept;
      setup = refl;
      state = refl;
      whole = refl;
    })
