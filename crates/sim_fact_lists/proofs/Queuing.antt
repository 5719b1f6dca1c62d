-- A list whose front has left: what is left when one more leaves.
use Rattle.sim_fact_lists.proofs.Common.{◌≡◌, ℕ, zero, suc, ◌+◌, ◌<◌, List, [], ◌∷◌, length, drop, remove, ap, arith, drop-drop, sym}

-- the first one that is still there leaves
pub first_leaves : (n : ℕ) (xs : List ℕ) → drop (n + 1) xs ≡ remove (drop n xs) 0
first_leaves n xs = sym (drop-drop 1 n xs)

-- one that stands behind the front is taken out
pub removed_behind : (n : ℕ) (xs : List ℕ) (place at : ℕ) → place ≡ n + at → place < length xs → drop n (remove xs place) ≡ remove (drop n xs) at
removed_behind zero xs place at is lt = let same : place ≡ at = omega arith in ap (remove xs) same
removed_behind (suc n) [] place at is lt = absurd (omega arith)
removed_behind (suc n) (x ∷ xs) zero at is lt = absurd (omega arith)
removed_behind (suc n) (x ∷ xs) (suc place) at is lt = removed_behind n xs place at (omega arith) (omega arith)
