-- Why a search that takes cells by ascending cost and estimate finds the least costs: for any steps, and any estimate that falls by at most
-- what a step costs.
use Rattle.{sim_grid.proofs.Beside.same_or_not, sim_search.proofs.Common.{ap, arith, Bool, cases_Bool, eq-or-lt_of_le, false, go, HasCost, inl, inr}}
use Rattle.sim_search.proofs.Common.{IsEstimate, IsLeastCost, IsSearch, LoweringKeeps, Option, Some, stay, subst, sym, TakenInOrder, TakenIsLeast, TakingKeeps}
use Rattle.{sim_search.proofs.Common.{true, true≢false, Walk, ℕ, ⊎_elim, ◌+◌, ◌<◌, ◌∙◌, ◌≡◌, ◌≢◌, ◌≤◌, ◌⊎◌}, std.proofs.lemmas.Option.same_Some}

module _ {X : Type 0} {Step : X → X → ℕ → Type 0} {start : X} {estimate : X → ℕ} {cost : X → Option ℕ} {taken : X → Bool} {now : ℕ}
    (same : (c e : X) → (c ≡ e) ⊎ (c ≢ e)) (good : IsEstimate Step estimate) (s : IsSearch Step start estimate cost taken now) where
  -- each walk ends at a cell that has a cost as low, or its cost and estimate are as high as what the search has come to
  pub walk-found : {c : X} {n : ℕ} → Walk Step start c n → (now ≤ n + estimate c) ⊎ HasCost cost c n
  walk-found stay = inr (record { value = 0; is = s.begins; low = omega arith })
  walk-found (go {a = a} {b = b} {n = n} {k = k} walk step) = ⊎_elim (λ (h : now ≤ n + estimate a). inl (omega (arith, good.falls a b k step)))
      (λ (l : HasCost cost a n). from l (cases_Bool (taken a))) (walk-found walk)
    where
      from : HasCost cost a n → (taken a ≡ true) ⊎ (taken a ≡ false) → (now ≤ n + k + estimate b) ⊎ HasCost cost b (n + k)
      from l (inl h) = let r = s.reckoned a b k l.value h l.is step in inr (record { value = r.value; is = r.is; low = omega (arith, r.low, l.low) })
      from l (inr h) = inl (omega (arith, s.waiting a l.value l.is h, l.low, good.falls a b k step))

  -- a cell whose cost and estimate are no more than what the search has come to has its least cost; so has each cell that was taken
  pub cost-least : (c : X) (d : ℕ) → cost c ≡ Some d → d + estimate c ≤ now → IsLeastCost Step start c d
  cost-least c d e h = record { walk = s.walks c d e; least = λ n w. below n (walk-found w) }
    where
      below : (n : ℕ) → (now ≤ n + estimate c) ⊎ HasCost cost c n → d ≤ n
      below n (inl l) = omega arith
      below n (inr l) = let both : Some d ≡ Some l.value = sym e ∙ l.is in let equal : d ≡ l.value = cc in omega (arith, l.low)

  -- where no cell waits any more, each walk ends at a cell that has a cost as low
  pub all-found : ((c : X) (d : ℕ) → cost c ≡ Some d → taken c ≡ true) → {c : X} {n : ℕ} → Walk Step start c n → HasCost cost c n
  all-found done stay = record { value = 0; is = s.begins; low = omega arith }
  all-found done (go {a = a} {b = b} {n = n} {k = k} walk step) =
      let l = all-found done walk in
      let r = s.reckoned a b k l.value (done a l.value l.is) l.is step in
      record { value = r.value; is = r.is; low = omega (arith, r.low, l.low) }

  -- where no cell waits at what the search has come to, it goes on to the next
  pub goes-on : ((c : X) (d : ℕ) → cost c ≡ Some d → taken c ≡ false → d + estimate c ≢ now) → IsSearch Step start estimate cost taken (now + 1)
  goes-on none =
      record {
        begins = s.begins;
        walks = s.walks;
        passed = λ c h. let (d, e, le) = s.passed c h in (d, e, omega (arith, le));
        reckoned = s.reckoned;
        waiting = λ c d e h. above c d e h (eq-or-lt_of_le (s.waiting c d e h));
      }
    where
      above : (c : X) (d : ℕ) → cost c ≡ Some d → taken c ≡ false → (now ≡ d + estimate c) ⊎ (now < d + estimate c) → now + 1 ≤ d + estimate c
      above c d e h (inl f) = absurd (none c d e h (sym f))
      above c d e h (inr lt) = omega arith

  -- a step from a cell at what the search has come to lowers the cost of a cell
  module _ (next : X → Option ℕ) (u b : X) (k d : ℕ) (at_u : cost u ≡ Some d) (key_u : d + estimate u ≡ now) (step : Step u b k)
      (higher : (e : ℕ) → cost b ≡ Some e → d + k < e) (here : next b ≡ Some (d + k)) (elsewhere : (c : X) → c ≢ b → next c ≡ cost c) where
    pub still : (c : X) (n : ℕ) → HasCost cost c n → HasCost next c n
    still c n l = by (same c b)
      where
        by : (c ≡ b) ⊎ (c ≢ b) → HasCost next c n
        by (inl e) = record { value = d + k; is = ap next e ∙ here; low = omega (arith, higher l.value (ap cost (sym e) ∙ l.is), l.low) }
        by (inr e) = record { value = l.value; is = elsewhere c e ∙ l.is; low = l.low }

    -- a cell that was taken is not the one whose cost falls
    other : (c : X) → taken c ≡ true → c ≢ b
    other c h e =
        let (v, is, le) = s.passed c h in
        let est : estimate c ≡ estimate b = ap estimate e in
        omega (arith, le, est, higher v (ap cost (sym e) ∙ is), good.falls u b k step)

    pub lowers : IsSearch Step start estimate next taken now
    lowers =
        record {
          begins = by_start (same start b);
          walks = λ c v e. by_walk c v e (same c b);
          passed = λ c h. let (v, is, le) = s.passed c h in (v, elsewhere c (other c h) ∙ is, le);
          reckoned = λ a y j v h e f. still y (v + j) (s.reckoned a y j v h (sym (elsewhere a (other a h)) ∙ e) f);
          waiting = λ c v e h. by_wait c v e h (same c b);
        }
      where
        by_start : (start ≡ b) ⊎ (start ≢ b) → next start ≡ Some 0
        by_start (inl e) = absurd (omega (arith, higher 0 (ap cost (sym e) ∙ s.begins)))
        by_start (inr e) = elsewhere start e ∙ s.begins

        total_is : (c : X) (v : ℕ) → next c ≡ Some v → c ≡ b → d + k ≡ v
        total_is c v e f = let both : Some (d + k) ≡ Some v = sym here ∙ ap next (sym f) ∙ e in cc

        by_walk : (c : X) (v : ℕ) → next c ≡ Some v → (c ≡ b) ⊎ (c ≢ b) → Walk Step start c v
        by_walk c v e (inl f) = subst (λ x. Walk Step start x v) (sym f) (subst (λ n. Walk Step start b n) (total_is c v e f) (go (s.walks u d at_u) step))
        by_walk c v e (inr f) = s.walks c v (sym (elsewhere c f) ∙ e)

        by_wait : (c : X) (v : ℕ) → next c ≡ Some v → taken c ≡ false → (c ≡ b) ⊎ (c ≢ b) → now ≤ v + estimate c
        by_wait c v e h (inl f) = let est : estimate c ≡ estimate b = ap estimate f in omega (arith, total_is c v e f, est, good.falls u b k step)
        by_wait c v e h (inr f) = s.waiting c v (sym (elsewhere c f) ∙ e) h

  -- a cell at what the search has come to, all steps from which are reckoned with, is taken
  module _ (next : X → Bool) (u : X) (d : ℕ) (at_u : cost u ≡ Some d) (key_u : d + estimate u ≡ now) (steps : (b : X) (k : ℕ) → Step u b k
      → HasCost cost b (d + k))
      (here : next u ≡ true) (elsewhere : (c : X) → c ≢ u → next c ≡ taken c) where
    pub takes : IsSearch Step start estimate cost next now
    takes =
        record {
          begins = s.begins;
          walks = s.walks;
          passed = λ c h. by_passed c h (same c u);
          reckoned = λ a b k v h e f. by_reckoned a b k v h e f (same a u);
          waiting = λ c v e h. by_wait c v e h (same c u);
        }
      where
        by_passed : (c : X) → next c ≡ true → (c ≡ u) ⊎ (c ≢ u) → (v : ℕ) × (cost c ≡ Some v) × (v + estimate c ≤ now)
        by_passed c h (inl e) = let est : estimate c ≡ estimate u = ap estimate e in (d, ap cost e ∙ at_u, omega arith)
        by_passed c h (inr e) = s.passed c (sym (elsewhere c e) ∙ h)

        by_reckoned : (a b : X) (k v : ℕ) → next a ≡ true → cost a ≡ Some v → Step a b k → (a ≡ u) ⊎ (a ≢ u) → HasCost cost b (v + k)
        by_reckoned a b k v h e f (inl g) =
            let both : Some d ≡ Some v = sym at_u ∙ ap cost (sym g) ∙ e in
            let equal : d ≡ v = cc in
            let l = steps b k (subst (λ x. Step x b k) g f) in
            record { value = l.value; is = l.is; low = omega (arith, l.low) }
        by_reckoned a b k v h e f (inr g) = s.reckoned a b k v (sym (elsewhere a g) ∙ h) e f

        by_wait : (c : X) (v : ℕ) → cost c ≡ Some v → next c ≡ false → (c ≡ u) ⊎ (c ≢ u) → now ≤ v + estimate c
        by_wait c v e h (inl f) = absurd (true≢false (sym here ∙ ap next (sym f) ∙ h))
        by_wait c v e h (inr f) = s.waiting c v e (sym (elsewhere c f) ∙ h)

pub taken-least : TakenIsLeast
taken-least field start estimate cost taken now good s c d t e =
    let (v, is, le) = s.passed c t in
    let equal : d ≡ v = same_Some _ _ (sym e ∙ is) in
    cost-least same_or_not good s c d e (omega arith)

pub taken-before : TakenInOrder
taken-before field start estimate cost taken now s c e d f t is w lower =
    let (v, same, le) = s.passed c t in
    let equal : d ≡ v = same_Some _ _ (sym is ∙ same) in
    omega (arith, s.waiting e f lower w)

pub lowering-keeps : LoweringKeeps
lowering-keeps field start estimate cost lowered taken now good s from to k d at key step higher here elsewhere =
    lowers same_or_not good s lowered from to k d at key step higher here elsewhere

pub taking-keeps : TakingKeeps
taking-keeps field start estimate cost taken more now good s from d at key steps here elsewhere = takes same_or_not good s more from d at key steps here
    elsewhere
