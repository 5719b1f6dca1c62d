-- What is known of a file that may be open.
use Rattle.std.specs.Prelude.{ℕ, List, Some, None, Option}

-- the bytes that a file has left, or those that it holds, if there is one and they are known
abbrev pub known_of : {F : Type 0} → (F → Option (List ℕ)) → Option F → Option (List ℕ)
known_of bytes None = None
known_of bytes (Some file) = bytes file
