-- No walk costs less than the octile distance, nor than what a search knows that has come to a key.
use Rattle.sim_path.proofs.Common.{Aim, arith, Bool, cases_Bool, Cell, cost_in, Costs, estimate-falls, estimate_to, false, Field, Front, go, HasCost, inl, inr}
use Rattle.sim_path.proofs.Common.{IsEstimate, IsFloor, IsFront, IsSearch, IsStep, known_or, max, min, None, octile, octile-self, Option, Ready, refl, Search}
use Rattle.sim_path.{proofs.Common.{Some, stay, subst, sym, taken_in, true, Walk, ℕ, ◌+◌, ◌-◌, ◌<◌, ◌≡◌, ◌≤◌, ◌⊎◌}, specs.OctileLaws.octile-rises}

-- no walk costs less than the octile distance
pub octile-far : (field : Field) (start : Cell) {c : Cell} {n : ℕ} → Walk (IsStep field start) start c n → octile c start ≤ n
octile-far field start stay = omega (arith, octile-self start)
octile-far field start (go {a = a} {b = b} {n = n} {k = k} w s) = omega (arith, octile-far field start w, octile-rises field start a b k s)

below : (cost : Option ℕ) (bound : ℕ) → known_or cost bound ≤ bound
below None bound = omega arith
below (Some d) bound = omega arith

none-below : (n : ℕ) → n ≤ 0 → n ≡ 0
none-below n le = omega arith

most_rises : (o n p m k : ℕ) → p ≤ o + k → m ≤ n + k → max p m ≤ max o n + k
most_rises o n p m k e f = omega arith

most-low : (o n d : ℕ) → o ≤ d → n ≤ d → max o n ≤ d
most-low o n d e f = omega arith

-- the floor of a search by its parts
abbrev pub floor_by : (Cell → Option ℕ) → (Cell → ℕ) → ℕ → Cell → Cell → ℕ
floor_by cost estimate now start c = known_or (cost c) (max (octile c start) (now - estimate c))

module _ (field : Field) (start : Cell) (estimate : Cell → ℕ) (cost : Cell → Option ℕ) (taken : Cell → Bool) (now : ℕ)
    (good : IsEstimate (IsStep field start) estimate) (s : IsSearch (IsStep field start) start estimate cost taken now) where
  abbrev bound : Cell → ℕ
  bound c = max (octile c start) (now - estimate c)

  bound-rises : (a b : Cell) (k : ℕ) → IsStep field start a b k → bound b ≤ bound a + k
  bound-rises a b k step = most_rises (octile a start) (now - estimate a) (octile b start) (now - estimate b) k (octile-rises field start a b k step)
      (omega (arith, good.falls a b k step))

  known-low : (c : Cell) (n : ℕ) → HasCost cost c n → known_or (cost c) (bound c) ≤ n
  known-low c n h = subst (λ (o : Option ℕ). known_or o (bound c) ≤ n) (sym h.is) (omega (arith, h.low))

  known-rises : (a b : Cell) (k : ℕ) → IsStep field start a b k → known_or (cost b) (bound b) ≤ known_or (cost a) (bound a) + k
  known-rises a b k step = by (cost a) refl
    where
      most : known_or (cost b) (bound b) ≤ bound a + k
      most = omega (arith, below (cost b) (bound b), bound-rises a b k step)

      by_taken : (d : ℕ) → cost a ≡ Some d → (taken a ≡ true) ⊎ (taken a ≡ false) → known_or (cost b) (bound b) ≤ min d (bound a) + k
      by_taken d e (inl t) = omega (arith, most, known-low b (d + k) (s.reckoned a b k d t e step))
      by_taken d e (inr f) = omega (
        arith,
        most,
        most-low (octile a start) (now - estimate a) d (octile-far field start (s.walks a d e)) (omega (arith, s.waiting a d e f)),
      )

      by : (o : Option ℕ) → cost a ≡ o → known_or (cost b) (bound b) ≤ known_or o (bound a) + k
      by None e = most
      by (Some d) e = by_taken d e (cases_Bool (taken a))

  is-floor : IsFloor field start (floor_by cost estimate now start)
  is-floor = record {
    begins = none-below (known_or (cost start) (bound start)) (known-low start 0 (record { value = 0; is = s.begins; low = omega arith }));
    rises =
        known-rises;
  }

  by_key : (a b : Cell) (k d : ℕ) → cost a ≡ Some d → d + estimate a < now → IsStep field start a b k → HasCost cost b (d + k)
  by_key a b k d e lt step = by (cases_Bool (taken a))
    where
      by : (taken a ≡ true) ⊎ (taken a ≡ false) → HasCost cost b (d + k)
      by (inl t) = s.reckoned a b k d t e step
      by (inr f) = absurd (omega (arith, s.waiting a d e f))

  far-cost : (c : Cell) (d : ℕ) → cost c ≡ Some d → octile c start ≤ d
  far-cost c d e = octile-far field start (s.walks c d e)

-- what a search knows that has come to a key, by its costs
record Knows (field : Field) (aim : Aim) (now : ℕ) (costs : Costs) (start : Cell) : Type 0 where
  pub floor : IsFloor field start (floor_by (cost_in costs) (estimate_to aim) now start)
  pub far : (c : Cell) (d : ℕ) → cost_in costs c ≡ Some d → octile c start ≤ d
  pub reckoned : (a b : Cell) (k d : ℕ) → cost_in costs a ≡ Some d → d + estimate_to aim a < now → IsStep field start a b k → HasCost (cost_in costs) b (d + k)

knows : (field : Field) (s : Search) (aim : Aim) (now idle : ℕ) → Ready (estimate_to aim) field s now idle → Knows field aim now s.costs s.start
knows field s aim now idle r =
    let good = estimate-falls aim field s.start in
    record {
      floor = is-floor field s.start (estimate_to aim) (cost_in s.costs) (taken_in s) now good r.search;
      far = far-cost field s.start (estimate_to aim) (cost_in s.costs) (taken_in s) now good r.search;
      reckoned = by_key field s.start (estimate_to aim) (cost_in s.costs) (taken_in s) now good r.search;
    }

pub known-front : (field : Field) (front : Front) (s : Search) (start : Cell) (idle : ℕ) → s.costs ≡ front.costs.now → s.start ≡ start
    → Ready (estimate_to front.aim) field s front.key idle → IsFront field start front
known-front field front s start idle e f r =
    let k = subst (λ (v : Cell). Knows field front.aim front.key front.costs.now v) f (subst (λ (v : Costs). Knows field front.aim front.key v s.start) e
    (knows field s front.aim front.key idle r)) in
    record { floor = k.floor; far = k.far; reckoned = k.reckoned }
