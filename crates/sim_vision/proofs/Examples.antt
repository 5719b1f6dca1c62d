-- Worked examples of discs and of what is explored.
use Rattle.sim_vision.proofs.Common.{◌≡◌, ℕ, true, false, [], ◌∷◌, count_by, refl, cells_of, explored_with, is_in_disc}

-- how many cells of a ground of 8 by 8 an entity with this reach sees from a cell
abbrev seen : ℕ → ℕ → ℕ → ℕ
seen reach x z = count_by (is_in_disc reach (record { x = x; z = z })) (cells_of (record { width = 8; depth = 8 }))

-- in the middle, at each corner, and at each edge
in_the_middle : seen 2 4 4 ≡ 13
in_the_middle = refl

at_corners : (seen 2 0 0 ∷ seen 2 7 0 ∷ seen 2 0 7 ∷ seen 2 7 7 ∷ []) ≡ 6 ∷ 6 ∷ 6 ∷ 6 ∷ []
at_corners = refl

at_edges : (seen 2 4 0 ∷ seen 2 0 4 ∷ seen 2 7 4 ∷ seen 2 4 7 ∷ []) ≡ 9 ∷ 9 ∷ 9 ∷ 9 ∷ []
at_edges = refl

-- without a vision an entity sees its own cell, and with a great one the whole ground
its_own_cell : seen 0 3 3 ≡ 1
its_own_cell = refl

all_cells : seen 256 7 0 ≡ 64
all_cells = refl

-- what was explored stays so
stays : explored_with (true ∷ false ∷ false ∷ []) (false ∷ true ∷ false ∷ []) ≡ true ∷ true ∷ false ∷ []
stays = refl
