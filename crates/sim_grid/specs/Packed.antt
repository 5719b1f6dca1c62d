-- The open cells of a ground as words of 64 bits.
use Rattle.std.specs.{Int.bit_at, Prelude.{Bool, false, length, List, nat_eq, slice_index_or, ℕ, ◌%◌, ◌+◌, ◌/◌, ◌<◌, ◌≡◌}}

-- whether the bit of a place is set
abbrev pub is_set_at : List ℕ → ℕ → Bool
is_set_at words k = nat_eq (bit_at (slice_index_or words (k / 64) 0) (k % 64)) 1

-- the words tell of each cell by z, then x, whether it is open
pub record ArePacked (cells : List Bool) (words : List ℕ) : Type 0 where
  pub full : length words ≡ length cells / 64 + 1
  pub right : (k : ℕ) → k < length cells → is_set_at words k ≡ slice_index_or cells k false
