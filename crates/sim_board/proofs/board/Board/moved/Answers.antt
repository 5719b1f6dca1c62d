-- Range is told, and the others need not be.
use Rattle.sim_board.proofs.{Common.{Census, Ground, Kind, Moved, Range, refl, Watch}, Feeding.{fed_told, fed_unheard, may_hear, move_is_told}}
use Rattle.{sim_board.proofs.Keeping.{kept_fed, kept_range}, std.proofs.lemmas.Result.err_from_is_err_and}
use Rattle.sim_board.proofs.board.Board.moved.Goals as goal

pub tell-requires : goal.tell-requires
tell-requires g c = may_hear Range _ _ _ _ c.requires.stands.fed.range (move_is_told Range _ _ c.requires.stands.limits c.requires.stands.valid c.args.id
    c.args.at.now c.living-row.result.now c.living-row.ensures c.requires.fits).fits

pub returns : goal.returns
returns g c =
    let setup = c.args.self.now.setup.now in
    let state = c.args.self.now.state in
    let stands = c.requires.stands in
    let row = c.living-row.result.now in
    let note = Moved c.args.id row.at c.args.at.now in
    let each = λ (kind : Kind). move_is_told kind setup state stands.limits stands.valid c.args.id c.args.at.now row c.living-row.ensures c.requires.fits in
    record {
      fed = record {
        ground = fed_unheard Ground _ _ _ _ note stands.fed.ground (each Ground) refl;
        range = fed_told Range _ _ _ _ _ note stands.fed.range c.in_ok-tell.ensures.ok (each Range).gives;
        watch = fed_unheard Watch _ _ _ _ note stands.fed.watch (each Watch) refl;
        census = fed_unheard Census _ _ _ _ note stands.fed.census (each Census) refl;
      };
      kept = kept_range _ _ _ _ (kept_fed _ _ _ stands.fed) c.in_ok-tell.ensures.ok refl refl;
      setup = refl;
      state = refl;
      whole = refl;
    }

pub returns-in_err-tell : goal.returns-in_err-tell
returns-in_err-tell g c =
    let p = err_from_is_err_and c.from_residual.result c.from_residual.ensures.1 in
    rw p.1 (record {
      fed = tt;
      kept = kept_range _ _ _ _ (kept_fed _ _ _ c.requires.stands.fed) c.in_err-tell.ensures.err refl refl;
      setup = refl;
      state = refl;
      whole = refl;
    })
