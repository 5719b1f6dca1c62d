-- What a place to which bytes go was told.
use Rattle.std.specs.{declared.alloc.Global.Global, Prelude.{Bool, false, length, List, true, Vec, ℕ, ◌++◌, ◌≡◌, ◌≤◌}}

-- whatever was told before, these bytes came after it; `about` is what the place was made for, and stays
abbrev pub Tells : {K : Type 0} → (K → List ℕ → List ℕ → Type 0) → K → K → List ℕ → Type 0
Tells holds old new bytes = (about told : List ℕ) → holds old about told → holds new about (told ++ bytes)

-- a list has just what it was told
abbrev pub ListHolds : Vec ℕ Global → List ℕ → List ℕ → Type 0
ListHolds list about told = list.items ≡ told

-- bytes in so much room are what was told, where that fits
abbrev pub RoomHolds : ℕ → List ℕ → List ℕ → List ℕ → Type 0
RoomHolds room bytes about told = length told ≤ room → bytes ≡ told

-- a comparison with wanted bytes: what is left of them, or that they differ
pub record Compared (wanted rest : List ℕ) (same : Bool) (told : List ℕ) : Type 0 where
  pub so_far : same ≡ true → wanted ≡ told ++ rest
  pub differs : same ≡ false → (more : List ℕ) → wanted ≡ told ++ more → ⊥
