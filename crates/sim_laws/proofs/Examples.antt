-- Ways that were worked out by hand, computed.
use Rattle.sim_laws.proofs.Common.{way_of}
use Rattle.sim_laws.proofs.Common.{◌≡◌, ℕ, ◌+◌, ◌*◌, Bool, true, false, not, ◌&&◌, ◌||◌, leb, [], ◌∷◌, map, pos, refl, Cell, Field, Point, range_with_len}

-- the point in the middle of a cell
abbrev middle : ℕ → ℕ → Point
middle x z = record { x = pos (x * 65536 + 32768); z = pos (z * 65536 + 32768) }

-- the cell lies from x0 to x1 and from z0 to z1
abbrev lies_in : ℕ → ℕ → ℕ → ℕ → Cell → Bool
lies_in x0 x1 z0 z1 c = leb x0 c.x && leb c.x x1 && leb z0 c.z && leb c.z z1

-- a ground of width by depth cells, all open but those that the test closes
abbrev field : ℕ → ℕ → (Cell → Bool) → Field
field width depth closed = record { size = record { width = width; depth = depth }; is_open = λ c. not (closed c) }

-- The goal's cell is closed. Two cells are as near to it and cost as much, and the one with the smaller z is the end.
around_two : way_of (field 8 5 (λ c. lies_in 4 6 1 3 c || lies_in 3 3 2 2 c)) (middle 0 2) (middle 5 2) ≡
    record { points = middle 1 1 ∷ middle 2 0 ∷ middle 3 0 ∷ middle 4 0 ∷ middle 5 0 ∷ []; whole = true }
unfolding way_of
around_two = refl

-- From (0.5, 0.5) to (0.25, 0.75), in one cell: the goal alone.
in_one_cell : way_of (field 4 4 (λ c. false)) (middle 0 0) (record { x = pos 16384; z = pos 49152 }) ≡
    record { points = record { x = pos 16384; z = pos 49152 } ∷ []; whole = true }
unfolding way_of
in_one_cell = refl

-- A corner cell with both cells beside it closed is never left: the end is the start.
shut_in : way_of (field 4 4 (λ c. lies_in 1 1 0 0 c || lies_in 0 0 1 1 c)) (middle 0 0) (middle 3 3) ≡ record { points = []; whole = true }
unfolding way_of
shut_in = refl

-- A way leads out of a closed cell.
out_of_closed : way_of (field 5 1 (lies_in 2 2 0 0)) (middle 2 0) (middle 4 0) ≡ record { points = middle 3 0 ∷ middle 4 0 ∷ []; whole = true }
unfolding way_of
out_of_closed = refl

-- A way leads out of a closed rectangle.
out_of_building : way_of (field 16 16 (lies_in 4 5 4 5)) (middle 5 5) (middle 9 5) ≡
    record { points = middle 6 5 ∷ middle 7 5 ∷ middle 8 5 ∷ middle 9 5 ∷ []; whole = true }
unfolding way_of
out_of_building = refl

-- A way of 69 points keeps the first 64.
kept : way_of (field 70 1 (λ c. false)) (middle 0 0) (middle 69 0) ≡ record { points = map (λ x. middle x 0) (range_with_len 1 64); whole = false }
unfolding way_of
kept = refl
