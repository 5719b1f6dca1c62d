-- The words that are the same tell the same cells.
use Rattle.sim_path.proofs.{Common.List, Common.subst, Common.sym, Common.ℕ, Common.◌∙◌, Common.◌≡◌, KeptWords.kept-ground}
use Rattle.{sim_grid.specs.Packed.ArePacked, std.proofs.lemmas.Bool.Decides.Decides-eqb, std.proofs.lemmas.Slice.Eq.slice_eq-Decides}

pub returns : Rattle.sim_path.proofs.kept.KeptCells.are_of.Goals.returns
returns c = λ e.
    let own = c.args.self.now in
    let lent = c.words.result.now in
    let same : c.as_slice.result.now ≡ lent = (slice_eq-Decides Decides-eqb c.as_slice.result.now lent c.eq.result c.eq.ensures).0 e in
    kept-ground c.args.grid.now own.words.items own.width own.depth c.width.ensures.grid
    (subst (λ (l : List ℕ). ArePacked c.args.grid.now.cells l) (sym same ∙ c.as_slice.ensures.value) c.words.ensures)
    (c.if-self-width.false ∙ c.width.ensures.width) (c.if-self-depth.false ∙ c.depth.ensures.depth)
