-- What a call that reads a log answers. It may run out of memory, and is else what a definition says.
use Rattle.std.specs.Prelude.{◌≡◌, ℕ, Ok, Err, Result}
use Rattle.sim_replay.specs.declared.fault.LogFault.{LogFault, TheVariants.OutOfMemory, TheVariants.Refused}

-- an answer is the wanted one, or memory ran out
abbrev pub Meets : {X : Type 0} → Result X LogFault → Result X ℕ → Type 0
Meets (Ok x) wanted = wanted ≡ Ok x
Meets (Err (Refused line)) wanted = wanted ≡ Err line
Meets (Err OutOfMemory) wanted = Unit {0}

-- a fault is the refusal of this line, or memory ran out
abbrev pub Tells : LogFault → ℕ → Type 0
Tells (Refused line) number = line ≡ number
Tells OutOfMemory number = Unit {0}
