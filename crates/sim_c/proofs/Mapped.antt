-- An answer in other words holds what it held before, and has the same cause.
use Rattle.{sim_c.specs.Gives.mapped, sim_embed.specs.declared.refused.Refused.Refused, std.specs.Prelude.{Err, IfErr, IfOk, Ok, Result}}

pub mapped_is : {X Y : Type 0} (f : X → Y) (P : Y → Type 0) (answer : Result X Refused) → IfOk answer (λ x. P (f x)) → IfOk (mapped f answer) P
mapped_is f P (Ok x) holds = holds
mapped_is f P (Err cause) holds = holds

pub mapped_cause : {X Y : Type 0} (f : X → Y) (P : Refused → Type 0) (answer : Result X Refused) → IfErr answer P → IfErr (mapped f answer) P
mapped_cause f P (Ok x) holds = holds
mapped_cause f P (Err cause) holds = holds
