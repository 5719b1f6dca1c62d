-- Range and Census are told, and the others need not be.
use Rattle.sim_board.proofs.{Common.{Census, Ground, Kind, Owned, Range, refl, Watch}, Feeding.{fed_told, fed_unheard, may_hear, owner_is_told}}
use Rattle.{sim_board.proofs.Keeping.{kept_census, kept_fed, kept_range}, std.proofs.lemmas.Result.err_from_is_err_and}
use Rattle.sim_board.proofs.board.Board.owned.Goals as goal

pub tell-requires : goal.tell-requires
tell-requires g c = may_hear Range _ _ _ _ c.requires.stands.fed.range (owner_is_told Range _ _ c.requires.stands.limits c.requires.stands.valid c.args.id
    c.args.owner c.living-row.result.now c.living-row.ensures c.requires.fits).fits

pub tell-requires-2 : goal.tell-requires-2
tell-requires-2 g c = may_hear Census _ _ _ _ c.requires.stands.fed.census (owner_is_told Census _ _ c.requires.stands.limits c.requires.stands.valid c.args.id
    c.args.owner c.living-row.result.now c.living-row.ensures c.requires.fits).fits

pub returns : goal.returns
returns g c =
    let setup = c.args.self.now.setup.now in
    let state = c.args.self.now.state in
    let stands = c.requires.stands in
    let row = c.living-row.result.now in
    let note = Owned c.args.id row.owner c.args.owner in
    let each = λ (kind : Kind). owner_is_told kind setup state stands.limits stands.valid c.args.id c.args.owner row c.living-row.ensures c.requires.fits in
    let first = kept_range _ _ _ _ (kept_fed _ _ _ stands.fed) c.in_ok-tell.ensures.ok refl refl in
    record {
      fed = record {
        ground = fed_unheard Ground _ _ _ _ note stands.fed.ground (each Ground) refl;
        range = fed_told Range _ _ _ _ _ note stands.fed.range c.in_ok-tell.ensures.ok (each Range).gives;
        watch = fed_unheard Watch _ _ _ _ note stands.fed.watch (each Watch) refl;
        census = fed_told Census _ _ _ _ _ note stands.fed.census c.in_ok-tell-2.ensures.ok (each Census).gives;
      };
      kept = kept_census _ _ _ _ first c.in_ok-tell-2.ensures.ok refl refl;
      setup = refl;
      state = refl;
      whole = refl;
    }

pub returns-in_err-tell : goal.returns-in_err-tell
returns-in_err-tell g c =
    let p = err_from_is_err_and c.from_residual.result c.from_residual.ensures.1 in
    rw p.1 (record {
      fed = tt;
      kept = kept_range _ _ _ _ (kept_fed _ _ _ c.requires.stands.fed) c.in_err-tell.ensures.err refl refl;
      setup = refl;
      state = refl;
      whole = refl;
    })

pub returns-in_err-tell-2 : goal.returns-in_err-tell-2
returns-in_err-tell-2 g c =
    let first = kept_range _ _ _ _ (kept_fed _ _ _ c.requires.stands.fed) c.in_ok-tell.ensures.ok refl refl in
    let p = err_from_is_err_and c.from_residual-in_err-tell-2.result c.from_residual-in_err-tell-2.ensures.1 in
    rw p.1 (record {
      fed = tt;
      kept = kept_census _ _ _ _ first c.in_err-tell-2.ensures.err refl refl;
      setup = refl;
      state = refl;
      whole = refl;
    })
