-- The line of one template more.
use Rattle.sim_report.proofs.Common.{parts_text, sym, take_more, Template, template_line, template_lines, ◌∙◌}
use Rattle.sim_report.proofs.Common.{◌≡◌, ℕ, suc, ◌+◌, ◌<◌, List, [], ◌∷◌, ◌++◌, length, get_or, take, ap, append-nil, append_assoc, arith, length-take-le}

-- behind those of others, from a number on
lines_behind : (number : ℕ) (templates : List Template) (last : Template)
    → template_lines number (templates ++ last ∷ []) ≡ template_lines number templates ++ template_line (number + length templates) last
lines_behind number [] last =
    let same : number ≡ number + 0 = omega arith in
    append-nil (template_line number last) ∙ ap (λ (k : ℕ). template_line k last) same
lines_behind number (first ∷ more) last =
    let next : number + 1 + length more ≡ number + suc (length more) = omega arith in
    ap (λ (t : List ℕ). template_line number first ++ t) (lines_behind (number + 1) more last)
    ∙ ap (λ (k : ℕ). template_line number first ++ (template_lines (number + 1) more ++ template_line k last)) next
    ∙ sym (append_assoc (template_line number first) (template_lines (number + 1) more) (template_line (number + suc (length more)) last))

-- behind those of so many templates of a match
pub parts_more : (templates : List Template) (n : ℕ) (template : Template) (old text new : List ℕ) → n < length templates
    → template ≡ get_or templates n template → text ≡ old ++ parts_text (take n templates) → new ≡ text ++ template_line n template
    → new ≡ old ++ parts_text (take (n + 1) templates)
parts_more templates n template old text new lt is so_far written =
    let before = take n templates in
    let long : length before ≡ n = length-take-le n templates (omega (arith, lt)) in
    let number : n ≡ 0 + length before = omega (arith, long) in
    let more : before ++ template ∷ [] ≡ take (n + 1) templates =
    ap (λ (t : Template). before ++ t ∷ []) is ∙ sym (take_more templates n template lt) in
    written
    ∙ ap (λ (xs : List ℕ). xs ++ template_line n template) so_far
    ∙ append_assoc old (parts_text before) (template_line n template)
    ∙ ap (λ (k : ℕ). old ++ (parts_text before ++ template_line k template)) number
    ∙ ap (λ (xs : List ℕ). old ++ xs) (sym (lines_behind 0 before template))
    ∙ ap (λ (ts : List Template). old ++ parts_text ts) more
