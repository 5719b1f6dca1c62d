-- What a reader of texts says, in the words of the definitions.
use Rattle.{serde_json.specs.{Data.Data, declared.value.Value.Value, Read.read, View.{items_view, view}}, sim_json.specs.Values.{listed, value_of}}
use Rattle.std.proofs.Common.{ap, Bool, false, if◌then◌else◌, List, map, None, Option, refl, true, ℕ, [], ◌∷◌, ◌≡◌}
use Rattle.std.{proofs.lemmas.Str.{is_utf8-from_IsUtf8, IsUtf8-from_is_utf8}, specs.Str.{is_utf8, IsUtf8}}

-- bytes in UTF-8 have the value of the text that they are
pub utf8_value : (bytes : List ℕ) → IsUtf8 bytes → value_of bytes ≡ read bytes
utf8_value bytes utf8 = rw (is_utf8-from_IsUtf8 bytes utf8) refl

pub utf8_holds : (bytes : List ℕ) → IsUtf8 bytes → is_utf8 bytes ≡ true
utf8_holds bytes utf8 = is_utf8-from_IsUtf8 bytes utf8

none_if : (b : Bool) (o : Option Data) → (b ≡ true → o ≡ None) → (if b then o else None) ≡ None
none_if true o refused = refused refl
none_if false o refused = refl

pub no_value : (bytes : List ℕ) → (IsUtf8 bytes → read bytes ≡ None) → value_of bytes ≡ None
no_value bytes refused = none_if (is_utf8 bytes) (read bytes) (λ h. refused (IsUtf8-from_is_utf8 bytes h))

-- the items of a list, seen one by one
pub listed_view : (values : List Value) → listed (items_view values) ≡ map view values
listed_view [] = refl
listed_view (v ∷ values) = ap (λ ds. view v ∷ ds) (listed_view values)
