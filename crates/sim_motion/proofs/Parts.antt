-- A share of a difference, up or down.
use Rattle.{sim_laws.proofs.Commanding.{div_below_zero, share_le}, std.proofs.Common.{ap, arith, int_div, neg_ℤ, negsuc, pos, refl, suc, sym, unsigned_abs}}
use Rattle.std.proofs.{Common.{zero, ℕ, ℤ, ◌*ℤ◌, ◌*◌, ◌+ℤ◌, ◌+◌, ◌-ℤ◌, ◌-◌, ◌/◌, ◌<◌, ◌∙◌, ◌≡◌, ◌≤ℤ◌, ◌≤◌}, lemmas.Int.ints}

pub part_up : (from to : ℤ) (k d : ℕ) → pos 0 ≤ℤ from → pos 0 ≤ℤ to → unsigned_abs from ≤ unsigned_abs to →
    pos (unsigned_abs from + (unsigned_abs to - unsigned_abs from) * k / d) ≡ from +ℤ int_div ((to -ℤ from) *ℤ pos k) (pos d)
part_up (pos x) (pos y) k d a b le = let gap : pos y -ℤ pos x ≡ pos (y - x) = omega (arith, ints) in ap (λ (z : ℤ). pos x +ℤ int_div (z *ℤ pos k) (pos d))
    (sym gap)
part_up (pos x) (negsuc y) k d a b le = absurd (omega (arith, ints))
part_up (negsuc x) to k d a b le = absurd (omega (arith, ints))

pub part_down : (from to : ℤ) (k d : ℕ) → k ≤ d → pos 0 ≤ℤ from → pos 0 ≤ℤ to → unsigned_abs to < unsigned_abs from →
    pos (unsigned_abs from - (unsigned_abs from - unsigned_abs to) * k / d) ≡ from +ℤ int_div ((to -ℤ from) *ℤ pos k) (pos d)
part_down (pos x) (pos y) k d within a b lt = by (x - y) refl
  where
    by : (m : ℕ) → m ≡ x - y → pos (x - (x - y) * k / d) ≡ pos x +ℤ int_div ((pos y -ℤ pos x) *ℤ pos k) (pos d)
    by zero e = absurd (omega arith)
    by (suc m) e =
        let gap : pos y -ℤ pos x ≡ negsuc m = omega (arith, ints) in
        let q = suc m * k / d in
        let small : q ≤ suc m = share_le (suc m) k d within in
        let down : pos (x - q) ≡ pos x +ℤ neg_ℤ (pos q) = minus x q (omega arith) in
        ap (λ (n : ℕ). pos (x - n * k / d)) (sym e) ∙ down ∙ ap (λ (z : ℤ). pos x +ℤ z) (sym (div_below_zero (suc m * k) d)) ∙
        ap (λ (z : ℤ). pos x +ℤ int_div (z *ℤ pos k) (pos d)) (sym gap)
      where
        minus : (a b : ℕ) → b ≤ a → pos (a - b) ≡ pos a +ℤ neg_ℤ (pos b)
        minus a b h = omega (arith, ints)
part_down (pos x) (negsuc y) k d within a b lt = absurd (omega (arith, ints))
part_down (negsuc x) to k d within a b lt = absurd (omega (arith, ints))

-- the share is a part of the difference
pub share_small : (gap k d : ℕ) → k < d → gap * k / d ≤ gap
share_small gap k d h = share_le gap k d (omega arith)
