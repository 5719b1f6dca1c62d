-- What a call that reads a template answers. It may run out of memory, and is else what a definition says.
use Rattle.sim_traits.specs.declared.fault.TraitFault.TheVariants.{Clash, Missing, OutOfMemory, OutOfRange, UnknownPart}
use Rattle.{sim_traits.specs.declared.fault.TraitFault.TraitFault, std.specs.Prelude.Err, std.specs.Prelude.Ok, std.specs.Prelude.Result, std.specs.Prelude.◌≡◌}

-- an answer is the wanted one, or memory ran out
abbrev pub Meets : {X : Type 0} → Result X TraitFault → Result X TraitFault → Type 0
Meets (Ok x) wanted = wanted ≡ Ok x
Meets (Err (Missing part)) wanted = wanted ≡ Err (Missing part)
Meets (Err (OutOfRange part)) wanted = wanted ≡ Err (OutOfRange part)
Meets (Err UnknownPart) wanted = wanted ≡ Err UnknownPart
Meets (Err Clash) wanted = wanted ≡ Err Clash
Meets (Err OutOfMemory) wanted = Unit {0}
