-- Watch is told of a new target, and the others need not be; of the old one nobody.
use Rattle.sim_board.proofs.Common.{◌∙◌, ◌≡◌, Aimed, Census, Ground, Kind, MatchOption, Option, Range, refl, Row, subst, target_of, Watch}
use Rattle.sim_board.proofs.Feeding.{aim_is_told, all_fed_same, fed_told, fed_unheard, may_hear, same_aim}
use Rattle.{sim_board.proofs.Keeping.kept_fed, sim_board.proofs.Keeping.kept_watch, std.proofs.lemmas.Result.err_from_is_err_and}
use Rattle.sim_board.proofs.board.Board.aimed.Goals as goal

pub tell-requires : goal.tell-requires
tell-requires g c = may_hear Watch _ _ _ _ c.requires.stands.fed.watch (aim_is_told Watch _ _ c.requires.stands.limits c.requires.stands.valid c.args.id
    c.args.aim c.living-row.result.now c.living-row.ensures c.requires.fits c.target_of-from.result c.target_of-from.ensures).fits

pub returns-clause-tells : goal.returns-clause-tells
returns-clause-tells g c =
    let setup = c.args.self.now.setup.now in
    let state = c.args.self.now.state in
    let stands = c.requires.stands in
    let from = c.target_of-from.result in
    let note = Aimed c.args.id from c.args.aim.target in
    let each = λ (kind : Kind). aim_is_told kind setup state stands.limits stands.valid c.args.id c.args.aim c.living-row.result.now c.living-row.ensures
    c.requires.fits from c.target_of-from.ensures in
    record {
      fed = record {
        ground = fed_unheard Ground _ _ _ _ note stands.fed.ground (each Ground) refl;
        range = fed_unheard Range _ _ _ _ note stands.fed.range (each Range) refl;
        watch = fed_told Watch _ _ _ _ _ note stands.fed.watch c.in_ok-tell.ensures.ok (each Watch).gives;
        census = fed_unheard Census _ _ _ _ note stands.fed.census (each Census) refl;
      };
      kept = kept_watch _ _ _ _ (kept_fed _ _ _ stands.fed) c.in_ok-tell.ensures.ok refl refl;
      setup = refl;
      state = refl;
      whole = refl;
    }

pub returns-then-from-aim-clause-tells : goal.returns-then-from-aim-clause-tells
returns-then-from-aim-clause-tells g c =
    let setup = c.args.self.now.setup.now in
    let state = c.args.self.now.state in
    let stands = c.requires.stands in
    record {
      fed = all_fed_same _ _ _ _ stands.fed (λ kind. same_aim kind setup state stands.limits stands.valid c.args.id c.args.aim c.living-row.result.now
          c.living-row.ensures c.target_of-from.result c.target_of-from.ensures c.if-from-aim.true);
      kept = kept_fed _ _ _ stands.fed;
      setup = refl;
      state = refl;
      whole = refl;
    }

pub returns-in_err-tell-clause-untold : goal.returns-in_err-tell-clause-untold
returns-in_err-tell-clause-untold g c keeps =
    let same : target_of c.living-row.result.now ≡ c.args.aim.target =
    subst (λ (o : Option Row). MatchOption o ⊥ (λ (row : Row). target_of row ≡ c.args.aim.target)) c.living-row.ensures keeps in
    absurd (c.if-from-aim.false (c.target_of-from.ensures ∙ same))

pub returns-in_err-tell-clause-tells : goal.returns-in_err-tell-clause-tells
returns-in_err-tell-clause-tells g c =
    let p = err_from_is_err_and c.from_residual.result c.from_residual.ensures.1 in
    rw p.1 (record {
      fed = tt;
      kept = kept_watch _ _ _ _ (kept_fed _ _ _ c.requires.stands.fed) c.in_err-tell.ensures.err refl refl;
      setup = refl;
      state = refl;
      whole = refl;
    })
