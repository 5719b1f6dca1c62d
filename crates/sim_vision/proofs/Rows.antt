-- Counts and flags of a row: one cell more in a loop, the two pieces of a span outside of another, and a span for another.
use Rattle.sim_vision.proofs.Common.{and_from, and_left, and_parts, and_right, ap, arith, cases_eq, cases_lt, get_or-set_other, get_or-set_same, is_in_row}
use Rattle.sim_vision.proofs.Common.{is_within, le-leb, le-ltb, leb-true, lt-leb, lt-ltb, ltb-true, one_if, or_right, Span, subst, sym, ⊎_elim, ◌∙◌}
use Rattle.sim_vision.proofs.Common.{◌≡◌, ℕ, ◌+◌, ◌-◌, ◌<◌, ◌≤◌, min, max, Bool, true, false, not, ◌&&◌, ◌||◌, ltb, leb, List, length, get_or, set, refl}

-- ---- where a number lies

pub within : (from to k : ℕ) → from ≤ k → k < to → is_within from to k ≡ true
within from to k low high = and_from (leb from k) (ltb k to) (le-leb from k low) (lt-ltb k to high)

pub before : (from to k : ℕ) → k < from → is_within from to k ≡ false
before from to k lt = and_left (leb from k) (ltb k to) (lt-leb from k lt)

pub behind : (from to k : ℕ) → to ≤ k → is_within from to k ≡ false
behind from to k le = and_right (leb from k) (ltb k to) (le-ltb k to le)

pub bounds : (from to k : ℕ) → is_within from to k ≡ true → (from ≤ k) × (k < to)
bounds from to k h = let parts = and_parts (leb from k) (ltb k to) h in (leb-true from k parts.0, ltb-true k to parts.1)

more_same : (from at k : ℕ) → (k ≡ at → ⊥) → is_within from (at + 1) k ≡ is_within from at k
more_same from at k ne = ⊎_elim
    (λ (lt : k < at). ap (λ (b : Bool). leb from k && b) (lt-ltb k (at + 1) (omega arith) ∙ sym (lt-ltb k at lt)))
    (λ (le : at ≤ k). ap (λ (b : Bool). leb from k && b) (le-ltb k (at + 1) (omega arith) ∙ sym (le-ltb k at le)))
    (cases_lt k at)

-- a loop that came to its end, or had nothing to do
pub done_same : (from to at k : ℕ) → from ≤ at → to ≤ at → at ≤ max from to → is_within from at k ≡ is_within from to k
done_same from to at k low past last = ⊎_elim
    (λ (lt : from < to). let same : at ≡ to = omega arith in ap (λ (n : ℕ). is_within from n k) same)
    (λ (le : to ≤ from). let same : at ≡ from = omega arith in ap (λ (n : ℕ). is_within from n k) same ∙ nothing from from k (omega arith)
    ∙ sym (nothing from to k le))
    (cases_lt from to)
  where
    nothing : (from to k : ℕ) → to ≤ from → is_within from to k ≡ false
    nothing from to k le = ⊎_elim (λ (lt : k < from). before from to k lt) (λ (h : from ≤ k). behind from to k (omega arith)) (cases_lt k from)

-- ---- one cell more

module _ (xs ys : List ℕ) (from at : ℕ) (low : from ≤ at) (inside : at < length xs) where
  pub lowered : ((k : ℕ) → get_or xs k 0 + one_if (is_within from at k) ≡ get_or ys k 0) → 0 < get_or ys at 0 →
      (k : ℕ) → get_or (set xs at (get_or xs at 0 - 1)) k 0 + one_if (is_within from (at + 1) k) ≡ get_or ys k 0
  lowered so_far some k = ⊎_elim
      (λ (e : k ≡ at). subst (λ (j : ℕ). get_or (set xs at (get_or xs at 0 - 1)) j 0 + one_if (is_within from (at + 1) j) ≡ get_or ys j 0) (sym e) here)
      (λ (ne : k ≡ at → ⊥). ap (λ (n : ℕ). n + one_if (is_within from (at + 1) k)) (get_or-set_other xs at k (get_or xs at 0 - 1) 0 ne)
      ∙ ap (λ (b : Bool). get_or xs k 0 + one_if b) (more_same from at k ne) ∙ so_far k)
      (cases_eq k at)
    where
      here : get_or (set xs at (get_or xs at 0 - 1)) at 0 + one_if (is_within from (at + 1) at) ≡ get_or ys at 0
      here =
          let value = get_or-set_same xs at (get_or xs at 0 - 1) 0 inside in
          let counted = ap one_if (within from (at + 1) at low (omega arith)) in
          let not_yet = ap one_if (behind from at at (omega arith)) in
          let was = so_far at in
          omega (arith, value, counted, not_yet, was, some)

  pub raised : ((k : ℕ) → get_or xs k 0 ≡ get_or ys k 0 + one_if (is_within from at k)) →
      (k : ℕ) → get_or (set xs at (get_or xs at 0 + 1)) k 0 ≡ get_or ys k 0 + one_if (is_within from (at + 1) k)
  raised so_far k = ⊎_elim
      (λ (e : k ≡ at). subst (λ (j : ℕ). get_or (set xs at (get_or xs at 0 + 1)) j 0 ≡ get_or ys j 0 + one_if (is_within from (at + 1) j)) (sym e) here)
      (λ (ne : k ≡ at → ⊥). get_or-set_other xs at k (get_or xs at 0 + 1) 0 ne ∙ so_far k
      ∙ sym (ap (λ (b : Bool). get_or ys k 0 + one_if b) (more_same from at k ne)))
      (cases_eq k at)
    where
      here : get_or (set xs at (get_or xs at 0 + 1)) at 0 ≡ get_or ys at 0 + one_if (is_within from (at + 1) at)
      here =
          let value = get_or-set_same xs at (get_or xs at 0 + 1) 0 inside in
          let counted = ap one_if (within from (at + 1) at low (omega arith)) in
          let not_yet = ap one_if (behind from at at (omega arith)) in
          let was = so_far at in
          omega (arith, value, counted, not_yet, was)

pub flagged : (xs ys : List Bool) (from at : ℕ) → from ≤ at → at < length xs → ((k : ℕ) → get_or xs k false ≡ (get_or ys k false || is_within from at k)) →
    (k : ℕ) → get_or (set xs at true) k false ≡ (get_or ys k false || is_within from (at + 1) k)
flagged xs ys from at low inside so_far k = ⊎_elim
    (λ (e : k ≡ at). subst (λ (j : ℕ). get_or (set xs at true) j false ≡ (get_or ys j false || is_within from (at + 1) j)) (sym e) here)
    (λ (ne : k ≡ at → ⊥). get_or-set_other xs at k true false ne ∙ so_far k ∙ sym (ap (λ (b : Bool). get_or ys k false || b) (more_same from at k ne)))
    (cases_eq k at)
  where
    here : get_or (set xs at true) at false ≡ (get_or ys at false || is_within from (at + 1) at)
    here = get_or-set_same xs at true false inside ∙ sym (or_right (get_or ys at false) (is_within from (at + 1) at)
        (within from (at + 1) at low (omega arith)))

-- ---- a span outside of another

module _ (s a0 a1 b0 b1 k : ℕ) (ordered : a0 ≤ a1) (other : b0 ≤ b1) (P : Bool → Bool → Bool → Bool → Type 0) where
  -- in the piece before the other, in the piece behind it, in the span, in the other
  abbrev all_four : Type 0
  all_four = P (is_within (s + a0) (s + min a1 b0) k) (is_within (s + max a0 b1) (s + a1) k) (is_within (s + a0) (s + a1) k) (is_within (s + b0) (s + b1) k)

  four : (w x y z : Bool) → is_within (s + a0) (s + min a1 b0) k ≡ w → is_within (s + max a0 b1) (s + a1) k ≡ x → is_within (s + a0) (s + a1) k ≡ y →
      is_within (s + b0) (s + b1) k ≡ z → P w x y z → all_four
  four w x y z e f g h p =
      subst (λ (v : Bool). P v (is_within (s + max a0 b1) (s + a1) k) (is_within (s + a0) (s + a1) k) (is_within (s + b0) (s + b1) k)) (sym e)
      (subst (λ (v : Bool). P w v (is_within (s + a0) (s + a1) k) (is_within (s + b0) (s + b1) k)) (sym f)
      (subst (λ (v : Bool). P w x v (is_within (s + b0) (s + b1) k)) (sym g)
      (subst (λ (v : Bool). P w x y v) (sym h) p)))

  pub outside_cases : ((b : Bool) → P false false false b) → P true false true false → P false true true false → P false false true true → all_four
  outside_cases none first second both = ⊎_elim
      (λ (lt : k < s + a0). four false false false _ (before (s + a0) (s + min a1 b0) k lt) (before (s + max a0 b1) (s + a1) k (omega arith))
      (before (s + a0) (s + a1) k lt) refl (none (is_within (s + b0) (s + b1) k)))
      (λ (le : s + a0 ≤ k). ⊎_elim (λ (lt : k < s + a1). inside le lt)
      (λ (past : s + a1 ≤ k). four false false false _ (behind (s + a0) (s + min a1 b0) k (omega arith)) (behind (s + max a0 b1) (s + a1) k past)
      (behind (s + a0) (s + a1) k past) refl (none (is_within (s + b0) (s + b1) k)))
      (cases_lt k (s + a1)))
      (cases_lt k (s + a0))
    where
      inside : s + a0 ≤ k → k < s + a1 → all_four
      inside low high = ⊎_elim
          (λ (lt : k < s + b0). four true false true false (within (s + a0) (s + min a1 b0) k low (omega arith))
          (before (s + max a0 b1) (s + a1) k (omega arith)) (within (s + a0) (s + a1) k low high) (before (s + b0) (s + b1) k lt) first)
          (λ (le : s + b0 ≤ k). ⊎_elim
          (λ (lt : k < s + b1). four false false true true (behind (s + a0) (s + min a1 b0) k (omega arith))
          (before (s + max a0 b1) (s + a1) k (omega arith)) (within (s + a0) (s + a1) k low high) (within (s + b0) (s + b1) k le lt) both)
          (λ (past : s + b1 ≤ k). four false true true false (behind (s + a0) (s + min a1 b0) k (omega arith))
          (within (s + max a0 b1) (s + a1) k (omega arith) high) (within (s + a0) (s + a1) k low high) (behind (s + b0) (s + b1) k past) second)
          (cases_lt k (s + b1)))
          (cases_lt k (s + b0))

module _ (start : ℕ) (span other : Span) (k : ℕ) (ordered : span.from ≤ span.to) (other_ordered : other.from ≤ other.to) where
  abbrev pub west : Bool
  west = is_within (start + span.from) (start + min span.to other.from) k

  abbrev pub east : Bool
  east = is_within (start + max span.from other.to) (start + span.to) k

  pub counted_outside : one_if west + one_if east ≡ one_if (is_in_row start span k && not (is_in_row start other k))
  counted_outside = outside_cases start span.from span.to other.from other.to k ordered other_ordered
      (λ w x y z. one_if w + one_if x ≡ one_if (y && not z)) (λ b. refl) refl refl refl

  pub flagged_outside : (west || east) ≡ (is_in_row start span k && not (is_in_row start other k))
  flagged_outside = outside_cases start span.from span.to other.from other.to k ordered other_ordered (λ w x y z. (w || x) ≡ (y && not z))
      (λ b. refl) refl refl refl

  -- the two pieces lie in the span, and apart
  pub west_in : west ≡ true → is_in_row start span k ≡ true
  west_in h = let b = bounds (start + span.from) (start + min span.to other.from) k h in within (start + span.from) (start + span.to) k b.0 (omega (arith, b.1))

  pub east_in : east ≡ true → is_in_row start span k ≡ true
  east_in h = let b = bounds (start + max span.from other.to) (start + span.to) k h in within (start + span.from) (start + span.to) k (omega (arith, b.0)) b.1

  pub not_west : east ≡ true → west ≡ false
  not_west h = let b = bounds (start + max span.from other.to) (start + span.to) k h in behind (start + span.from) (start + min span.to other.from) k
      (omega (arith, b.0))

-- ---- a span for another

pub swapped_counts : (o n : Bool) (before between after : ℕ) → between + one_if (o && not n) ≡ before → after ≡ between + one_if (n && not o) →
    after + one_if o ≡ before + one_if n
swapped_counts true true before between after e f = omega arith
swapped_counts true false before between after e f = omega arith
swapped_counts false true before between after e f = omega arith
swapped_counts false false before between after e f = omega arith

pub swapped_flags : (o n before after : Bool) → (o ≡ true → before ≡ true) → after ≡ (before || (n && not o)) → after ≡ (before || n)
swapped_flags true n before after seen e = let h : before ≡ true = seen refl in e ∙ ap (λ (b : Bool). b || (n && false)) h ∙ sym (ap (λ (b : Bool). b || n) h)
swapped_flags false true before after seen e = e
swapped_flags false false before after seen e = e
