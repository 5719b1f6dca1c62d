-- Which keys an object has. A key that a text has twice is there once, with its last value.
use Rattle.serde_json.specs.{Data.{Data, member, Members, no_members}, Find.as_object}
use Rattle.std.specs.{Borrow.Bor, List.list_any, Prelude.{Bool, false, List, map, None, not, Option, Some, ℕ, ◌||◌}, Str.bytes_eq}

-- a text is one of these
abbrev pub among : List ℕ → List (List ℕ) → Bool
among text texts = list_any (bytes_eq text) texts

-- a member has a key that is none of these
abbrev pub other_member : List (List ℕ) → Members → Bool
other_member keys no_members = false
other_member keys (member key d ms) = not (among key keys) || other_member keys ms

-- there are members, and one has a key that is none of these
abbrev pub other_in : List (List ℕ) → Option Members → Bool
other_in keys None = false
other_in keys (Some ms) = other_member keys ms

-- a value is an object with a key that is none of these
abbrev pub other_key : List (List ℕ) → Data → Bool
other_key keys d = other_in keys (as_object d)

-- the bytes of texts that are lent
abbrev pub texts_of : List (Bor (List ℕ)) → List (List ℕ)
texts_of texts = map (λ (t : Bor (List ℕ)). t.now) texts
