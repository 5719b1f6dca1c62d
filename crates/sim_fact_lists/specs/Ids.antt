-- Ids that ascend, with one fewer or one more.
use Rattle.std.specs.Prelude.{◌≡◌, ℕ, ◌<◌, ◌≤◌, not, List, [], ◌∷◌, length, if◌then◌else◌, nat_lt, ◌==◌, slice_index_or, filter}

-- ids without one
abbrev pub without_id : ℕ → List ℕ → List ℕ
without_id id ids = filter (λ n. not (n == id)) ids

-- ids with one more, in its place; one that is there is not put in again
abbrev pub with_id : ℕ → List ℕ → List ℕ
with_id id [] = id ∷ []
with_id id (n ∷ ids) = if nat_lt id n then id ∷ n ∷ ids else if nat_lt n id then n ∷ with_id id ids else n ∷ ids

-- the id stands there
pub record IdStands (ids : List ℕ) (id place : ℕ) : Type 0 where
  pub within : place < length ids
  pub same : slice_index_or ids place 0 ≡ id

-- the id is not among them, and belongs there: those before are below it, and all others above
pub record IdBelongs (ids : List ℕ) (id place : ℕ) : Type 0 where
  pub within : place ≤ length ids
  pub before : (k : ℕ) → k < place → slice_index_or ids k 0 < id
  pub behind : (k : ℕ) → place ≤ k → k < length ids → id < slice_index_or ids k 0
