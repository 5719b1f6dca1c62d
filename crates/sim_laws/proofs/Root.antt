-- The root, which is the greatest number that passes a test, is the one number whose square is within and the next one's is not.
use Rattle.sim_base.{proofs.RootLemmas.{root_is, self_le_square}, specs.Places.greatest}
use Rattle.sim_laws.proofs.Common.{arith, Bool, cases_lt, cond, false, le-leb, leb, refl, root, suc, sym, true, true≢false, zero, ℕ, ⊎_elim, ◌*◌, ◌+◌, ◌<◌, ◌∙◌}
use Rattle.{sim_laws.{proofs.Common.{◌≡◌, ◌≤◌}, specs.NumberLaws.{RootIsGreatest, RootIsUnique}}, std.proofs.{lemmas.Bool.leb-true, Math.Nat.eq-or-lt_of_le}}

-- where 0 passes, the greatest passes
greatest_passes : (test : ℕ → Bool) (bound : ℕ) → test 0 ≡ true → test (greatest test bound) ≡ true
greatest_passes test zero zero_passes = zero_passes
greatest_passes test (suc bound) zero_passes = by (test (suc bound)) refl (greatest_passes test bound zero_passes)
  where
    by : (b : Bool) → test (suc bound) ≡ b → test (greatest test bound) ≡ true → test (cond b (suc bound) (greatest test bound)) ≡ true
    by true e rest = e
    by false e rest = rest

-- no number that passes is above it
greatest_above : (test : ℕ → Bool) (bound k : ℕ) → k ≤ bound → test k ≡ true → k ≤ greatest test bound
greatest_above test zero k within passes = within
greatest_above test (suc bound) k within passes = by (test (suc bound)) refl (λ h. greatest_above test bound k h passes)
  where
    by : (b : Bool) → test (suc bound) ≡ b → (k ≤ bound → k ≤ greatest test bound) → k ≤ cond b (suc bound) (greatest test bound)
    by true e rest = within
    by false e rest =
        ⊎_elim (λ (h : k ≡ suc bound). absurd (true≢false (sym passes ∙ same h ∙ e))) (λ (h : k < suc bound). rest (omega arith)) (eq-or-lt_of_le within)
      where
        same : k ≡ suc bound → test k ≡ test (suc bound)
        same h = rw h refl

pub root_is_greatest : RootIsGreatest
unfolding root
root_is_greatest n =
    let test : ℕ → Bool = λ k. leb (k * k) n in
    let r = greatest test n in
    record {
      within = leb-true (r * r) n (greatest_passes test n (le-leb (0 * 0) n (omega arith)));
      above = ⊎_elim (λ (h : n < (r + 1) * (r + 1)). h)
          (λ (h : (r + 1) * (r + 1) ≤ n). absurd (let k : r + 1 ≤ r = greatest_above test n (r + 1) (omega (arith, self_le_square (r + 1), h))
          (le-leb ((r + 1) * (r + 1)) n h) in omega arith))
          (cases_lt n ((r + 1) * (r + 1)));
    }

pub root_is_unique : RootIsUnique
root_is_unique n r h = sym (root_is n r h)
