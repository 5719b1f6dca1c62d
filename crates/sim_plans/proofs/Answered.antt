-- What an answer says of the changes that it has.
use Rattle.{sim_base.specs.declared.memory.OutOfMemory.OutOfMemory, sim_plans.proofs.Common.{Change, IsPlanOf, List, Setup, State, subst, sym, ◌≡◌}}
use Rattle.std.{proofs.Common.{Ok, Result}, specs.{Prelude.IfOk, Result.ForOk}}

-- what is said of an answer where it is one
pub of_answer : (P : List Change → Type 0) (result : Result (List Change) OutOfMemory) (changes : List Change) → result ≡ Ok changes → IfOk result P → P changes
of_answer P result changes e h = subst (λ (r : Result (List Change) OutOfMemory). IfOk r P) e h

-- changes that are those of a plan are a plan
pub answered : (result : Result (List Change) OutOfMemory) (setup : Setup) (state after : State) (plan : List Change) → IfOk result (λ changes. changes ≡ plan)
    → IsPlanOf setup state plan after →
    ForOk result (λ changes. IsPlanOf setup state changes after)
answered result setup state after plan told is =
    λ changes e. subst (λ (cs : List Change). IsPlanOf setup state cs after) (sym (of_answer (λ cs. cs ≡ plan) result changes e told)) is
