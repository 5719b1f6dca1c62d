-- The words of a ground tell its cells.
use Rattle.sim_grid.specs.{Grids.{IsGrid, OpenCells}, Packed.{ArePacked, is_set_at}}
use Rattle.sim_path.{proofs.Common.{ap₂, arith, Bool, false, length, List, Size, sym, ℕ, ◌*◌, ◌∙◌, ◌≡◌}, specs.Atlases.cells_of}
use Rattle.std.proofs.lemmas.List.{FromFn.{get_or-map-range_with_len, length-map-range_with_len}, get_or_default, same_lists}

kept-cells : (cells : List Bool) (words : List ℕ) (n : ℕ) → ArePacked cells words → length cells ≡ n → cells_of n words ≡ cells
kept-cells cells words n p e =
    let all : length (cells_of n words) ≡ n = length-map-range_with_len (is_set_at words) 0 n in
    same_lists (cells_of n words) cells (all ∙ sym e)
    (λ k d lt.
    get_or-map-range_with_len (is_set_at words) 0 n k k d (omega (arith, lt, all)) (omega arith) ∙ p.right k (omega (arith, lt, all, e)) ∙
    get_or_default cells k false d (omega (arith, lt, all, e)))

pub kept-ground : (g : OpenCells) (words : List ℕ) (w d : ℕ) → IsGrid g → ArePacked g.cells words → w ≡ g.size.width → d ≡ g.size.depth
    → record { size = record { width = w; depth = d }; cells = cells_of (w * d) words } ≡ g
kept-ground g words w d grid p e f =
    ap₂ (λ (s : Size) (l : List Bool). record { size = s; cells = l }) (ap₂ (λ (a b : ℕ). record { width = a; depth = b }) e f)
    (kept-cells g.cells words (w * d) p (grid.full ∙ sym (ap₂ (λ (a b : ℕ). a * b) e f)))
