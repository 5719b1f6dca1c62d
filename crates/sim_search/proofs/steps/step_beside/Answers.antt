use Rattle.sim_search.proofs.Common.{ap, bit_at, field_of_grid, shr_and_one, Some, sym, ◌∙◌, ◌≡◌}
use Rattle.{sim_grid.specs.declared.spot.Spot.Spot, sim_search.proofs.Moves.move-by_bit, sim_search.proofs.Moves.move-of, std.proofs.lemmas.Option.same_Some}

pub returns-then-moves-which-eq1-clause-some : Rattle.sim_search.proofs.steps.step_beside.Goals.returns-then-moves-which-eq1-clause-some
returns-then-moves-which-eq1-clause-some c =
    let field = field_of_grid c.args.grid.now in
    let from = c.args.from.cell in
    let set : bit_at c.args.moves c.args.which ≡ 1 = sym (shr_and_one c.args.moves c.args.which) ∙ c.if-moves-which-eq1.true in
    let (b, e) = move-by_bit field c.args.start from c.args.moves c.args.which c.requires.which_in c.requires.moves set in
    λ to is.
    e ∙ sym (move-of field c.args.start from b c.args.which e).leads ∙ c.spot_beside.ensures.leads ∙
    ap (λ (s : Spot). Some s.cell) (same_Some c.spot_beside.result to is)
