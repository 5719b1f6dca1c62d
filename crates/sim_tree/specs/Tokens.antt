-- The words of a text, which stand between spaces.
use Rattle.std.specs.{List.slice_split, Prelude.{Bool, false, filter, List, None, Option, Some, true, ℕ, [], ◌==◌, ◌∷◌}}

-- the byte that stands between words
abbrev pub is_space : ℕ → Bool
is_space byte = byte == 0x20

-- a part that has bytes
abbrev pub is_word : List ℕ → Bool
is_word [] = false
is_word (byte ∷ bytes) = true

-- the parts of a text between spaces, without the empty ones
abbrev pub tokens_of : List ℕ → List (List ℕ)
tokens_of text = filter is_word (slice_split is_space text)

-- the words of a value, and none where there is no value
abbrev pub tokens_in : Option (List ℕ) → List (List ℕ)
tokens_in None = []
tokens_in (Some text) = tokens_of text
