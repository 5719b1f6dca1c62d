-- A number below 10 is its digit, and any other the digits of its tenth and then the last one.
use Rattle.std.{proofs.lemmas.Fmt.decimal_digit, proofs.lemmas.Fmt.decimal_step, specs.Prelude.decimal}
use Rattle.std.proofs.Common.{◌≡◌, ℕ, ◌+◌, ◌/◌, ◌%◌, ◌^◌, ◌<◌, ◌≤◌, List, [], ◌∷◌, ◌++◌, ap, append_assoc, arith, sym, ◌∙◌}

last-digit : (old mid : List ℕ) (n : ℕ) → 10 ≤ n → n < 2 ^ 64 → mid ≡ old ++ decimal (n / 10) → mid ++ ((48 + n % 10) ∷ []) ≡ old ++ decimal n
last-digit old mid n least fits e =
    ap (λ (xs : List ℕ). xs ++ ((48 + n % 10) ∷ [])) e ∙ append_assoc old (decimal (n / 10)) _ ∙ ap (λ (xs : List ℕ). old ++ xs)
    (sym (decimal_step n least fits))

pub returns-then-n-lt10-clause-ok : Rattle.sim_base.proofs.decimal.+push_digits.Goals.returns-then-n-lt10-clause-ok
returns-then-n-lt10-clause-ok t c = rw (decimal_digit c.args.n (omega (arith, c.if-n-lt10.true))) c.push_digit.ensures.ok

pub returns-clause-ok : Rattle.sim_base.proofs.decimal.+push_digits.Goals.returns-clause-ok
returns-clause-ok t c =
    let fits = c.ranges.n.fits in
    let all = last-digit _ _ c.args.n (omega (arith, c.if-n-lt10.false)) (omega arith) c.in_ok-push_digits.ensures.ok in
    rw (sym all) c.push_digit-2.ensures.ok
