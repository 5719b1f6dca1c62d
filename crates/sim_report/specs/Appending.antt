-- What a call that appends to a text has done to it.
use Rattle.std.specs.Prelude.{◌≡◌, ℕ, List, ◌++◌, length, take, OnErr, OnOk, Result, String, string_bytes}

-- all of this stands behind the old text, or there was no memory and the text is as it was
pub record Appends {A E Z : Type 0} (result : Result A E) (old new : String Z) (appended : List ℕ) : Type 0 where
  pub ok : OnOk result (string_bytes new ≡ string_bytes old ++ appended)
  pub err : OnErr result (string_bytes new ≡ string_bytes old)

-- all of this stands behind the old text, or there was no memory, and the new text begins with the old one
pub record AppendsInParts {A E Z : Type 0} (result : Result A E) (old new : String Z) (appended : List ℕ) : Type 0 where
  pub ok : OnOk result (string_bytes new ≡ string_bytes old ++ appended)
  pub err : OnErr result (take (length (string_bytes old)) (string_bytes new) ≡ string_bytes old)
