-- Values of JSON: what a text stands for, and the lists, texts and whole numbers in it.
use Rattle.serde_json.specs.{Data.{Data, item, Items, no_items}, Find.{as_array, as_i64, as_integer, as_number, as_str, as_u64, get}, Read.read}
use Rattle.sim_base.specs.{NumberText.{in_range, number_of}, Places.unit}
use Rattle.std.specs.{List.list_all, Prelude.{Bool, false, if◌then◌else◌, is_some, length, List, nat_le, None, Option, option_and_then, option_map, pos, Some}}
use Rattle.std.specs.{Prelude.{ℕ, ℤ, [], ◌&&◌, ◌*ℤ◌, ◌==◌, ◌∷◌}, Str.is_utf8}

-- the value of a text, where the bytes are UTF-8 and a text that has one
abbrev pub value_of : List ℕ → Option Data
value_of bytes = if is_utf8 bytes then read bytes else None

-- the items of a list
abbrev pub listed : Items → List Data
listed no_items = []
listed (item d ds) = d ∷ listed ds

-- the items of a value, if it is a list
abbrev pub list_of : Data → Option (List Data)
list_of d = option_map listed (as_array d)

-- the items of the list under a key
abbrev pub list_at : List ℕ → Data → Option (List Data)
list_at key d = option_and_then list_of (get key d)

-- the whole number that a value is, if it is none below 0
abbrev pub natural : Data → Option ℕ
natural d = option_and_then as_u64 (as_number d)

-- a number, where it is within the limits
abbrev pub if_within : ℕ → ℕ → ℕ → Option ℕ
if_within low high n = if nat_le low n && nat_le n high then Some n else None

-- a whole number within the limits
abbrev pub natural_in : ℕ → ℕ → Data → Option ℕ
natural_in low high d = option_and_then (if_within low high) (natural d)

-- the same, under a key
abbrev pub natural_at : ℕ → ℕ → List ℕ → Data → Option ℕ
natural_at low high key d = option_and_then (natural_in low high) (get key d)

-- the raw of so many whole metres, where it is one
abbrev pub metres : ℤ → Option ℤ
metres whole = in_range (whole *ℤ pos unit)

-- the raw of a text that spells a number
abbrev pub spelled : Option (List ℕ) → Option ℤ
spelled text = option_and_then number_of text

-- the raw of a value: of a text that spells a number, or of a whole number of metres
abbrev pub fixed : Data → Option ℤ
fixed d = if is_some (as_str d) then spelled (as_str d) else option_and_then metres (option_and_then as_i64 (as_number d))

-- the items of a list that has exactly two
abbrev pub two : List Data → Option (Data × Data)
two (a ∷ b ∷ []) = Some (a, b)
two other = None

-- the items of a list that has exactly four
abbrev pub four : List Data → Option (Data × Data × Data × Data)
four (a ∷ b ∷ c ∷ d ∷ []) = Some (a, b, c, d)
four other = None

-- the first two items of a list and the others
abbrev pub front_two : List Data → Option (Data × Data × List Data)
front_two (a ∷ b ∷ rest) = Some (a, b, rest)
front_two other = None

-- Kinds of values: whole numbers, lists, and lists of lists of whole numbers. What a number is at most is no matter of
-- its kind.

-- a whole number, also one below 0
abbrev pub is_whole : Data → Bool
is_whole d = is_some (option_and_then as_integer (as_number d))

-- a list
abbrev pub is_list : Data → Bool
is_list d = is_some (as_array d)

-- a value is there and of its kind
abbrev pub fits : (Data → Bool) → Option Data → Bool
fits kind None = false
fits kind (Some d) = kind d

-- a list is there and passes a test
abbrev pub fits_list : (List Data → Bool) → Option (List Data) → Bool
fits_list test None = false
fits_list test (Some ds) = test ds

-- a list of whole numbers
abbrev pub is_row : Data → Bool
is_row d = fits_list (list_all is_whole) (list_of d)

-- a list of so many whole numbers
abbrev pub is_row_of : ℕ → Data → Bool
is_row_of n d = fits_list (λ ds. (length ds == n) && list_all is_whole ds) (list_of d)

-- a list of lists of whole numbers
abbrev pub is_table : Data → Bool
is_table d = fits_list (list_all is_row) (list_of d)

-- a list of lists of so many whole numbers
abbrev pub is_table_of : ℕ → Data → Bool
is_table_of n d = fits_list (list_all (is_row_of n)) (list_of d)
