-- A look in other words holds what it held before, and where there is no state it still says so.
use Rattle.{sim_base.specs.declared.{memory.OutOfMemory.OutOfMemory, state.State.State}, sim_c.specs.Gives.looked, sim_held.specs.Clients.LooksAt}
use Rattle.std.{proofs.Common.{ap, ◌≡◌}, specs.Prelude.{Err, IfOk, None, Ok, Option, Result, Some}}

pub looked_is : {X Y : Type 0} (f : X → Y) (P : State → Y → Type 0) (state : Option State) (answer : Result (Option X) OutOfMemory)
    → IfOk answer (LooksAt state (λ at x. P at (f x))) → IfOk (looked f answer) (LooksAt state P)
looked_is f P None (Ok None) holds = holds
looked_is f P None (Ok (Some x)) holds = holds
looked_is f P (Some state) (Ok None) holds = holds
looked_is f P (Some state) (Ok (Some x)) holds = holds
looked_is f P state (Err e) holds = holds

pub looked_none : {X Y : Type 0} (f : X → Y) (answer : Result (Option X) OutOfMemory) → answer ≡ Ok None → looked f answer ≡ Ok None
looked_none f answer is = ap (looked f) is

pub stamped_none : {X : Type 0} (P : State → X → Type 0) (state : Option State) (found : Option X) (answer : Result (Option X) OutOfMemory)
    → answer ≡ Ok found → LooksAt state P found → state ≡ None → answer ≡ Ok None
stamped_none P None None answer is holds none = is
stamped_none P None (Some x) answer is holds none = absurd holds
stamped_none P (Some state) found answer is holds none = let never : ⊥ = cc in absurd never
