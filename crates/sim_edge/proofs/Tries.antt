-- Calls that are made again: what one more call adds to them.
use Rattle.{sim_edge.specs.Again.AnswersIn, sim_edge.specs.Again.IsInterrupted, std.specs.Prelude.Result, std.specs.declared.io.Error.Error}
use Rattle.std.proofs.Common.{◌≡◌, ℕ, zero, suc, ◌+◌, ◌-◌, ◌<◌, arith, inl, inr, subst, sym}

-- a call that was not interrupted is the last
pub AnswersIn-last : {S T : Type 0} (call : S → Result T Error → S → Type 0) (tries : ℕ) (old : S) (answer : Result T Error) (new : S)
    → call old answer new → ¬ IsInterrupted answer → AnswersIn call tries old answer new
unfolding AnswersIn
AnswersIn-last call zero old answer new called free = called
AnswersIn-last call (suc tries) old answer new called free = inl (called, free)

-- one after which none is made is the last, interrupted or not
pub AnswersIn-none : {S T : Type 0} (call : S → Result T Error → S → Type 0) (tries : ℕ) (old : S) (answer : Result T Error) (new : S)
    → tries ≡ 0 → call old answer new → AnswersIn call tries old answer new
unfolding AnswersIn
AnswersIn-none call tries old answer new none called = subst (λ (n : ℕ). AnswersIn call n old answer new) (sym none) called

-- one that was interrupted is made again, while there are tries left
pub AnswersIn-again : {S T : Type 0} (call : S → Result T Error → S → Type 0) (most made : ℕ) (old between : S)
    (lost answer : Result T Error) (new : S)
    → made < most → call old lost between → IsInterrupted lost → AnswersIn call (most - (made + 1)) between answer new
    → AnswersIn call (most - made) old answer new
unfolding AnswersIn
AnswersIn-again call most made old between lost answer new below called cut rest =
    let more : suc (most - (made + 1)) ≡ most - made = omega arith in
    subst (λ (n : ℕ). AnswersIn call n old answer new) more (inr (between, lost, called, cut, rest))
