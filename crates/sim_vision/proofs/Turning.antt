-- Row after row the cells of a fog are turned.
use Rattle.sim_vision.proofs.Common.{IsTurned, IsTurnedAt, IsTurnedBelow, le-ltb, lt-ltb, ne_eqb, one_if, place_of, Span, start_of, subst, sym, ⊎_elim, ◌∙◌}
use Rattle.sim_vision.proofs.Common.{cases_lt, cases_order, Cell, count_in, Crossing, eq-eqb, Extent, flag_in, is_in_row, is_watched, IsAt, IsRowTurned}
use Rattle.sim_vision.proofs.Common.{◌≡◌, ℕ, ◌+◌, ◌<◌, ◌≤◌, Bool, true, false, ◌&&◌, ◌||◌, eqb, ltb, ◌⊎◌, List, and_right, ap, arith, CanTurn, CanTurnAt}
use Rattle.sim_base.proofs.Tests.{or_false}

-- a row before this one, this one, and one behind it
three : (P : Bool → Bool → Bool → Type 0) (row z : ℕ) → P true false true → P false true true → P false false false →
    P (ltb row z) (eqb row z) (ltb row (z + 1))
three P row z below here above = ⊎_elim
    (λ (e : row ≡ z). put false true true (le-ltb row z (omega arith)) (eq-eqb row z e) (lt-ltb row (z + 1) (omega arith)) here)
    (λ (h : (row < z) ⊎ (z < row)). ⊎_elim
    (λ (lt : row < z). put true false true (lt-ltb row z lt) (ne_eqb row z (λ e. omega arith)) (lt-ltb row (z + 1) (omega arith)) below)
    (λ (lt : z < row). put false false false (le-ltb row z (omega arith)) (ne_eqb row z (λ e. omega arith)) (le-ltb row (z + 1) (omega arith)) above)
    h)
    (cases_order row z)
  where
    put : (l e m : Bool) → ltb row z ≡ l → eqb row z ≡ e → ltb row (z + 1) ≡ m → P l e m → P (ltb row z) (eqb row z) (ltb row (z + 1))
    put l e m f g h p = subst (λ (b : Bool). P b (eqb row z) (ltb row (z + 1))) (sym f)
        (subst (λ (b : Bool). P l b (ltb row (z + 1))) (sym g) (subst (λ (b : Bool). P l e b) (sym h) p))

module _ (extent : Extent) (reaches : List ℕ) (crossing : Crossing) where
  abbrev old_at : ℕ → Cell → Bool
  old_at player c = is_watched reaches player c crossing.old

  abbrev new_at : ℕ → Cell → Bool
  new_at player c = is_watched reaches player c crossing.new

  -- above the first row nothing is seen
  pub begins : (first : ℕ) (counts : List ℕ) (flags : List Bool) →
      ((player : ℕ) (c : Cell) → IsAt extent player c → c.z < first → old_at player c ≡ false) →
      ((player : ℕ) (c : Cell) → IsAt extent player c → c.z < first → new_at player c ≡ false) →
      IsTurnedBelow extent reaches crossing first counts counts flags flags
  begins first counts flags old new = record {
    counts = λ player c at. ap (λ (n : ℕ). count_in extent counts player c + n)
        (ap one_if (none player c at (old_at player c) (old player c at)) ∙ sym (ap one_if (none player c at (new_at player c) (new player c at))));
    flags = λ player c at. sym (or_false (flag_in extent flags player c))
        ∙ sym (ap (λ (b : Bool). flag_in extent flags player c || b) (none player c at (new_at player c) (new player c at)));
  }
    where
      none : (player : ℕ) (c : Cell) → IsAt extent player c → (seen : Bool) → (c.z < first → seen ≡ false) → (ltb c.z first && seen) ≡ false
      none player c at seen h = ⊎_elim
          (λ (lt : c.z < first). and_right (ltb c.z first) seen (h lt))
          (λ (le : first ≤ c.z). ap (λ (b : Bool). b && seen) (le-ltb c.z first le))
          (cases_lt c.z first)

  -- one row more
  pub step : (z : ℕ) (counts counts' counts'' : List ℕ) (flags flags' flags'' : List Bool) →
      IsTurnedBelow extent reaches crossing z counts counts' flags flags' →
      IsTurnedAt extent reaches crossing z counts' counts'' flags' flags'' → IsTurnedBelow extent reaches crossing (z + 1) counts counts'' flags flags''
  step z counts counts' counts'' flags flags' flags'' below here = record {
    counts = λ player c at. three (λ l e m. count_in extent counts' player c + one_if (l && old_at player c)
        ≡ count_in extent counts player c + one_if (l && new_at player c) →
        count_in extent counts'' player c + one_if (e && old_at player c) ≡ count_in extent counts' player c + one_if (e && new_at player c) →
        count_in extent counts'' player c + one_if (m && old_at player c) ≡ count_in extent counts player c + one_if (m && new_at player c)) c.z z
        (λ p q. omega (arith, p, q)) (λ p q. omega (arith, p, q)) (λ p q. omega (arith, p, q)) (below.counts player c at) (here.counts player c at);
    flags = λ player c at. three (λ l e m. flag_in extent flags' player c ≡ (flag_in extent flags player c || (l && new_at player c)) →
        flag_in extent flags'' player c ≡ (flag_in extent flags' player c || (e && new_at player c)) →
        flag_in extent flags'' player c ≡ (flag_in extent flags player c || (m && new_at player c))) c.z z
        (λ p q. q ∙ or_false (flag_in extent flags' player c) ∙ p)
        (λ p q. q ∙ ap (λ (b : Bool). b || new_at player c) (p ∙ or_false (flag_in extent flags player c)))
        (λ p q. q ∙ or_false (flag_in extent flags' player c) ∙ p) (below.flags player c at) (here.flags player c at);
  }

  -- what is asked of a row still holds when it comes
  pub can_at : (z : ℕ) (counts counts' : List ℕ) (flags flags' : List Bool) → CanTurn extent reaches crossing counts flags →
      IsTurnedBelow extent reaches crossing z counts counts' flags flags' →
      CanTurnAt extent reaches crossing z counts' flags'
  can_at z counts counts' flags flags' can below = record {
    counted = λ player c at e h. let same = same_count player c at e in omega (arith, same, can.counted player c at h);
    room = λ player c at e h. let same = same_count player c at e in omega (arith, same, can.room player c at h);
    seen = λ player c at e h. below.flags player c at ∙ ap (λ (b : Bool). flag_in extent flags player c || (b && new_at player c))
        (le-ltb c.z z (omega (arith, e))) ∙ or_false (flag_in extent flags player c) ∙ can.seen player c at h;
  }
    where
      same_count : (player : ℕ) (c : Cell) → IsAt extent player c → c.z ≡ z → count_in extent counts' player c ≡ count_in extent counts player c
      same_count player c at e =
          let none = le-ltb c.z z (omega (arith, e)) in
          let h = below.counts player c at in
          let o = ap (λ (b : Bool). one_if (b && old_at player c)) none in
          let n = ap (λ (b : Bool). one_if (b && new_at player c)) none in
          omega (arith, h, o, n)

  -- below the last row nothing is seen
  pub ends : (z : ℕ) (counts counts' : List ℕ) (flags flags' : List Bool) → IsTurnedBelow extent reaches crossing z counts counts' flags flags' →
      ((player : ℕ) (c : Cell) → IsAt extent player c → z ≤ c.z → old_at player c ≡ false) →
      ((player : ℕ) (c : Cell) → IsAt extent player c → z ≤ c.z → new_at player c ≡ false) →
      IsTurned extent reaches crossing counts counts' flags flags'
  ends z counts counts' flags flags' below old new = record {
    counts = λ player c at.
        let h = below.counts player c at in
        let o = ap one_if (all player c (old_at player c) (old player c at)) in
        let n = ap one_if (all player c (new_at player c) (new player c at)) in
        omega (arith, h, o, n);
    flags = λ player c at. below.flags player c at ∙ ap (λ (b : Bool). flag_in extent flags player c || b) (all player c (new_at player c) (new player c at));
  }
    where
      all : (player : ℕ) (c : Cell) (seen : Bool) → (z ≤ c.z → seen ≡ false) → (ltb c.z z && seen) ≡ seen
      all player c seen h = ⊎_elim
          (λ (lt : c.z < z). ap (λ (b : Bool). b && seen) (lt-ltb c.z z lt))
          (λ (le : z ≤ c.z). and_right (ltb c.z z) seen (h le) ∙ sym (h le))
          (cases_lt c.z z)

-- a row that is turned by spans is turned by what the marks see
pub turned_row : (extent : Extent) (reaches : List ℕ) (crossing : Crossing) (owner z : ℕ) (old new : Span) (counts counts' : List ℕ)
    (flags flags' : List Bool) →
    ((player : ℕ) (c : Cell) → IsAt extent player c → is_in_row (start_of extent.size owner z) old (place_of extent.size player c)
    ≡ (eqb c.z z && is_watched reaches player c crossing.old)) →
    ((player : ℕ) (c : Cell) → IsAt extent player c → is_in_row (start_of extent.size owner z) new (place_of extent.size player c)
    ≡ (eqb c.z z && is_watched reaches player c crossing.new)) →
    IsRowTurned (start_of extent.size owner z) old new counts counts' flags flags' → IsTurnedAt extent reaches crossing z counts counts' flags flags'
turned_row extent reaches crossing owner z old new counts counts' flags flags' in_old in_new turned = record {
  counts = λ player c at.
      ap (λ (b : Bool). count_in extent counts' player c + one_if b) (sym (in_old player c at)) ∙ turned.counts (place_of extent.size player c)
      ∙ ap (λ (b : Bool). count_in extent counts player c + one_if b) (in_new player c at);
  flags = λ player c at. turned.flags (place_of extent.size player c) ∙ ap (λ (b : Bool). flag_in extent flags player c || b) (in_new player c at);
}
