-- As many zeros as digits are missing, by how many digits there are.
use Rattle.std.{proofs.lemmas.Fmt.decimal_digit, proofs.lemmas.Fmt.decimal_step, proofs.lemmas.List.length-append, specs.Prelude.codes, specs.Prelude.decimal}
use Rattle.std.proofs.Common.{◌≡◌, ℕ, ◌+◌, ◌/◌, ◌^◌, ◌<◌, ◌≤◌, length, drop, ap, arith, sym, ◌∙◌}
use Rattle.sim_base.proofs.print.zeros_before.Goals as goal

-- a number has one digit more than its tenth
one-more : (k n : ℕ) → 10 ≤ n → n < 2 ^ 64 → length (decimal (n / 10)) ≡ k → length (decimal n) ≡ k + 1
one-more k n least fits e = ap length (decimal_step n least fits) ∙ length-append (decimal (n / 10)) _ ∙ ap (λ (m : ℕ). m + 1) e

one : (n : ℕ) → n < 10 → length (decimal n) ≡ 1
one n below = ap length (decimal_digit n below)

two : (n : ℕ) → 10 ≤ n → n < 100 → length (decimal n) ≡ 2
two n least below = one-more 1 n least (omega arith) (one (n / 10) (omega arith))

three : (n : ℕ) → 100 ≤ n → n < 1000 → length (decimal n) ≡ 3
three n least below = one-more 2 n (omega arith) (omega arith) (two (n / 10) (omega arith) (omega arith))

four : (n : ℕ) → 1000 ≤ n → n < 10000 → length (decimal n) ≡ 4
four n least below = one-more 3 n (omega arith) (omega arith) (three (n / 10) (omega arith) (omega arith))

five : (n : ℕ) → 10000 ≤ n → n < 100000 → length (decimal n) ≡ 5
five n least below = one-more 4 n (omega arith) (omega arith) (four (n / 10) (omega arith) (omega arith))

zeros : (n k : ℕ) → length (decimal n) ≡ k → drop k (codes "00000") ≡ drop (length (decimal n)) (codes "00000")
zeros n k e = ap (λ (m : ℕ). drop m (codes "00000")) (sym e)

pub returns-then-n-lt10 : goal.returns-then-n-lt10
returns-then-n-lt10 c = zeros _ 1 (one c.args.n (omega (arith, c.if-n-lt10.true)))

pub returns-then-n-lt100 : goal.returns-then-n-lt100
returns-then-n-lt100 c = zeros _ 2 (two c.args.n (omega (arith, c.if-n-lt10.false)) (omega (arith, c.if-n-lt100.true)))

pub returns-then-n-lt1000 : goal.returns-then-n-lt1000
returns-then-n-lt1000 c = zeros _ 3 (three c.args.n (omega (arith, c.if-n-lt100.false)) (omega (arith, c.if-n-lt1000.true)))

pub returns-then-n-lt10000 : goal.returns-then-n-lt10000
returns-then-n-lt10000 c = zeros _ 4 (four c.args.n (omega (arith, c.if-n-lt1000.false)) (omega (arith, c.if-n-lt10000.true)))

pub returns-else-n-lt10000 : goal.returns-else-n-lt10000
returns-else-n-lt10000 c = zeros _ 5 (five c.args.n (omega (arith, c.if-n-lt10000.false)) c.requires)
