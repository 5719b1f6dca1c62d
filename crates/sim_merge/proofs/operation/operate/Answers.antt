use Rattle.sim_merge.proofs.Common.{◌≡◌, ℕ, List, ℤ, Some, None, option_map, ap, function_of, number_by, sym, text_by, text_of, ◌∙◌}
use Rattle.sim_merge.proofs.OperationLemmas.{text_by-number_by}
use Rattle.sim_merge.proofs.operation.operate.Goals as goal

-- where there is a number there is a text
has_text : (operation : ℤ → ℤ → ℤ) (lower upper : List ℕ) (number : ℤ) → number_by operation lower upper ≡ Some number → text_by operation lower upper ≡ None
    → ⊥
has_text operation lower upper number is none =
    let text : text_by operation lower upper ≡ Some (text_of number) = text_by-number_by operation lower upper ∙ ap (option_map text_of) is in
    cc

pub returns-in_ok-printed-in-Some-clause-value : goal.returns-in_ok-printed-in-Some-clause-value
returns-in_ok-printed-in-Some-clause-value c =
    text_by-number_by (function_of c.args.operation) c.args.lower.now c.args.upper.now
    ∙ ap (option_map text_of) (sym c.in-Some.ensures) ∙ ap Some (sym c.in_ok-printed-in-Some.ensures)

pub returns-in_ok-printed-in-Some-clause-bad : goal.returns-in_ok-printed-in-Some-clause-bad
returns-in_ok-printed-in-Some-clause-bad c =
    λ none. absurd (has_text (function_of c.args.operation) c.args.lower.now c.args.upper.now _ (sym c.in-Some.ensures) none)

pub returns-in_err-printed-in-Some-clause-bad : goal.returns-in_err-printed-in-Some-clause-bad
returns-in_err-printed-in-Some-clause-bad c =
    λ none. absurd (has_text (function_of c.args.operation) c.args.lower.now c.args.upper.now _ (sym c.in-Some.ensures) none)

pub returns-in-None-clause-value : goal.returns-in-None-clause-value
returns-in-None-clause-value c =
    text_by-number_by (function_of c.args.operation) c.args.lower.now c.args.upper.now ∙ ap (option_map text_of) (sym c.in-None.ensures)
