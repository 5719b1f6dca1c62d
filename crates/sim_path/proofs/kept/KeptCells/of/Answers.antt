-- The words that are copied tell the cells.
use Rattle.{sim_grid.specs.Packed.ArePacked, sim_path.proofs.{Common.{ap, List, subst, sym, ℕ, ◌++◌, ◌∙◌}, KeptWords.kept-ground}}

pub returns : Rattle.sim_path.proofs.kept.KeptCells.of.Goals.returns
returns c =
    let words = c.words.result.now in
    let same = c.in_ok-extend_from_slice.ensures.items ∙ ap (λ (l : List ℕ). l ++ words) c.new-words.ensures.items in
    kept-ground c.args.grid.now c.extend_from_slice.new.self.items c.width.result c.depth.result c.width.ensures.grid
    (subst (λ (l : List ℕ). ArePacked c.args.grid.now.cells l) (sym same) c.words.ensures) c.width.ensures.width c.depth.ensures.depth
