-- What is read of a line: just what the definition finds, and within its limits.
use Rattle.std.specs.Prelude.{◌≡◌, IfSome, IfOk, Option, Result}

-- a look, if it is one
pub record Finds {X : Type 0} (Within : X → Type 0) (wanted found : Option X) : Type 0 where
  pub look : found ≡ wanted
  pub limits : IfSome found Within

-- a value, where there was memory
pub record Reads {X E : Type 0} (Within : X → Type 0) (wanted : X) (result : Result X E) : Type 0 where
  pub value : IfOk result (λ found. found ≡ wanted)
  pub limits : IfOk result Within
