-- What a call that reads an economy answers. It may run out of memory, and is else what a definition says.
use Rattle.std.specs.Prelude.{◌≡◌, ℕ, ◌+◌, Ok, Err, IfOk, IfSome, Option, Result}
use Rattle.sim_stock.specs.declared.fault.EconomyFault.{EconomyFault, TheVariants.OutOfMemory, TheVariants.Refused}

-- an answer is the wanted one, or memory ran out
abbrev pub Meets : {X : Type 0} → Result X EconomyFault → Result X ℕ → Type 0
Meets (Ok x) wanted = wanted ≡ Ok x
Meets (Err (Refused index)) wanted = wanted ≡ Err index
Meets (Err OutOfMemory) wanted = Unit {0}

-- a fault is the refusal of this item, counted from 1, or memory ran out
abbrev pub Tells : EconomyFault → ℕ → Type 0
Tells (Refused index) item = index ≡ item + 1
Tells OutOfMemory item = Unit {0}

-- so it is, and a value keeps to these limits
pub record MeetsWithin {X : Type 0} (answer : Result X EconomyFault) (wanted : Result X ℕ) (Limits : X → Type 0) : Type 0 where
  pub meets : Meets answer wanted
  pub limits : IfOk answer Limits

-- a reading that takes no memory finds what a definition says, and that keeps to these limits
pub record Finds {X : Type 0} (found wanted : Option X) (Limits : X → Type 0) : Type 0 where
  pub value : found ≡ wanted
  pub limits : IfSome found Limits
