-- The line behind each answer.
use Rattle.std.specs.Prelude.{◌≡◌, ℕ, List, ◌++◌, OnErr, OnOk, Result, codes, decimal}

-- so many lines were good by now
abbrev pub ok_line : ℕ → List ℕ
ok_line number = codes "ok " ++ (decimal number ++ codes "\n")

-- the line which would have been this one is refused
abbrev pub refused_line : ℕ → List ℕ
refused_line number = codes "refused " ++ (decimal number ++ codes "\n")

-- a line was appended to a text, or the text is as it was
pub record AppendsLine {A E : Type 0} (result : Result A E) (line old new : List ℕ) : Type 0 where
  pub ok : OnOk result (new ≡ old ++ line)
  pub err : OnErr result (new ≡ old)
