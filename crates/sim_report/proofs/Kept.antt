-- A text that had a word appended, and then more.
use Rattle.sim_report.proofs.Common.{append_assoc, ◌≡◌, ℕ, List, ◌++◌, length, take, OnErr, OnOk, ⊤, Ok, Err, Result, ap, OutOfMemory, take-append_seam, take-appended_more, ◌∙◌}

-- both stand behind the old text
pub appended : (r : Result ⊤ OutOfMemory) (old word middle more new : List ℕ) → middle ≡ old ++ word → OnOk r (new ≡ middle ++ more)
    → OnOk r (new ≡ old ++ (word ++ more))
appended (Ok done) old word middle more new is same = same ∙ ap (λ (text : List ℕ). text ++ more) is ∙ append_assoc old word more
appended (Err e) old word middle more new is same = tt

-- the same of a word and a number
pub appended_pair : (r : Result ⊤ OutOfMemory) (old word number middle more new : List ℕ) → middle ≡ old ++ (word ++ number) → OnOk r (new ≡ middle ++ more)
    → OnOk r (new ≡ old ++ (word ++ (number ++ more)))
appended_pair (Ok done) old word number middle more new is same =
    same ∙ ap (λ (text : List ℕ). text ++ more) is ∙ append_assoc old (word ++ number) more ∙ ap (λ (text : List ℕ). old ++ text) (append_assoc word number more)
appended_pair (Err e) old word number middle more new is same = tt

-- the new text begins with the old one, also where a part of what came last may stand there
pub kept_in_parts : (r : Result ⊤ OutOfMemory) (old word middle new : List ℕ) → middle ≡ old ++ word → OnErr r (take (length middle) new ≡ middle)
    → OnErr r (take (length old) new ≡ old)
kept_in_parts (Ok done) old word middle new is same = tt
kept_in_parts (Err e) old word middle new is same = take-appended_more old word middle new is same

pub kept : (r : Result ⊤ OutOfMemory) (old word middle new : List ℕ) → middle ≡ old ++ word → OnErr r (new ≡ middle) → OnErr r (take (length old) new ≡ old)
kept (Ok done) old word middle new is same = tt
kept (Err e) old word middle new is same = ap (take (length old)) (same ∙ is) ∙ take-append_seam old word
