-- Which texts are hexadecimal.
use Rattle.std.specs.{List.list_all, Prelude.{Bool, IsTrue, length, List, nat_le, ℕ, ◌%◌, ◌&&◌, ◌||◌, ◌≡◌}}

-- one of 0 to 9 and a to f
abbrev pub is_digit : ℕ → Bool
is_digit c = (nat_le 48 c && nat_le c 57) || (nat_le 97 c && nat_le c 102)

-- pairs of digits
pub record IsHex (text : List ℕ) : Type 0 where
  pub pairs : length text % 2 ≡ 0
  pub digits : IsTrue (list_all is_digit text)
