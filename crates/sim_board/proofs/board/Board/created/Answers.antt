-- All are told of the new row.
use Rattle.{sim_board.proofs.{Common.refl, Feeding.{all_fed, all_may_hear, birth_is_told}}, std.proofs.lemmas.Result.err_from_is_err_and}
use Rattle.sim_board.proofs.board.Board.created.Goals as goal

pub tell_all-requires-clause-may : goal.tell_all-requires-clause-may
tell_all-requires-clause-may g c =
    let stands = c.requires.stands in
    let birth = c.args.birth.now in
    all_may_hear _ _ _ _ _ stands.fed (λ kind. birth_is_told kind c.args.self.now.setup.now c.args.self.now.state stands.limits stands.valid birth.number
    birth.at birth.owner c.born-fact.result c.requires.fits c.born-fact.ensures)

pub returns : goal.returns
returns g c =
    let setup = c.args.self.now.setup.now in
    let state = c.args.self.now.state in
    let stands = c.requires.stands in
    let birth = c.args.birth.now in
    record {
      fed = all_fed _ _ _ _ _ _ stands.fed (λ kind. birth_is_told kind setup state stands.limits stands.valid birth.number birth.at birth.owner
          c.born-fact.result c.requires.fits c.born-fact.ensures) c.in_ok-tell_all.ensures.told;
      kept = c.in_ok-tell_all.ensures.kept;
      setup = refl;
      state = refl;
      whole = refl;
    }

pub returns-in_err-tell_all : goal.returns-in_err-tell_all
returns-in_err-tell_all g c =
    let p = err_from_is_err_and c.from_residual.result c.from_residual.ensures.1 in
    rw p.1 (record {
      fed = tt;
      kept = c.in_err-tell_all.ensures.kept;
      setup = refl;
      state = refl;
      whole = refl;
    })
