use Rattle.sim_search.proofs.{Common.{bit_at, field_of_grid, neighbour-on, shr_and_one, sym, ◌∙◌, ◌≡◌}, Moves.{move-by_bit, move-of}}

pub returns-then-moves-which-eq1-clause-step : Rattle.sim_search.proofs.steps.step.Goals.returns-then-moves-which-eq1-clause-step
returns-then-moves-which-eq1-clause-step c =
    let field = field_of_grid c.args.grid.now in
    let set : bit_at c.args.moves c.args.which ≡ 1 = sym (shr_and_one c.args.moves c.args.which) ∙ c.if-moves-which-eq1.true in
    let (b, e) = move-by_bit field c.args.start c.args.from c.args.moves c.args.which c.requires.which_in c.requires.moves set in
    sym c.beside.ensures ∙ (move-of field c.args.start c.args.from b c.args.which e).leads ∙ sym e

pub returns-then-moves-which-eq1-clause-on : Rattle.sim_search.proofs.steps.step.Goals.returns-then-moves-which-eq1-clause-on
returns-then-moves-which-eq1-clause-on c = neighbour-on c.args.grid.now.size c.args.from c.beside.result c.args.which c.beside.ensures
