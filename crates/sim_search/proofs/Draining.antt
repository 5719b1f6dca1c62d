-- What a lowered cost, a taken cell and an emptied bucket leave of a search by buckets, for every estimate that guides it.
use Rattle.{sim_base.proofs.Lists.nothing_in, sim_grid.proofs.Beside.same_or_not}
use Rattle.sim_search.proofs.Common.{ap, ap₂, AreCosts, AreCostsUpTo, arith, Begins, Bool, bucket_in, cases_Bool, cases_eq, cases_lt, Cell, cond, Contains}
use Rattle.sim_search.proofs.Common.{Contains-append_left, Contains-push, Contains-push_cases, cost_in, count_by, Drains, Empties, entry_at, eq-or-lt_of_le}
use Rattle.sim_search.proofs.Common.{Expands, false, Field, get_or, get_or-set_other, get_or-set_same, HasCost, HasStopped, inl, inr, IsComeTo, IsCost, IsEarly}
use Rattle.sim_search.proofs.Common.{IsGuide, IsKept, IsLowered, IsSearch, IsStep, length, List, Lowers, None, not, Option, Progress, Ready, refl, Search, set}
use Rattle.sim_search.proofs.Common.{set-get_or, Size, size_of, Some, stay, step_cost, step_to, subst, suc, sym, taken_in, takens, Takes, true, true≢false}
use Rattle.sim_search.proofs.Common.{untaken, Waits, Walk, zero, ℕ, ⊎_elim, [], ◌%◌, ◌*◌, ◌++◌, ◌+◌, ◌-◌, ◌<◌, ◌∙◌, ◌∷◌, ◌≡◌, ◌≢◌, ◌≤◌, ◌⊎◌}
use Rattle.sim_search.proofs.{Moves.{direction-of, step-of, walk-even}, Taking.{all-found, cost-least, goes-on, lowers, takes, walk-found}}

ring-length : (s : Search) → length s.buckets.items ≡ 32
ring-length s = omega (arith, s.ring, s.buckets.ok.0)

-- the state of a search by its parts
abbrev SearchAt : (Cell → ℕ) → Field → ℕ → (Cell → Option ℕ) → Cell → Size → List Bool → Type 0
SearchAt h field now cost start size taken = IsSearch (IsStep field start) start h cost (entry_at false size taken) now

same_search : (h : Cell → ℕ) (field : Field) (now : ℕ) (cost : Cell → Option ℕ) (start start' : Cell) (size size' : Size) (taken taken' : List Bool)
    → start' ≡ start → size' ≡ size → taken' ≡ taken →
    SearchAt h field now cost start size taken → SearchAt h field now cost start' size' taken'
same_search h field now cost start start' size size' taken taken' e f g s =
    subst (λ (x : Cell). SearchAt h field now cost x size' taken') (sym e) (subst (λ (x : Size). SearchAt h field now cost start x taken') (sym f)
    (subst (λ (x : List Bool). SearchAt h field now cost start size x) (sym g) s))

-- one bucket gets a cell, and the others keep theirs
bucket_grows : (q : List (List Cell)) (j b : ℕ) (y x : Cell) → j < length q → Contains (get_or q b []) x
    → Contains (get_or (set q j (get_or q j [] ++ y ∷ [])) b []) x
bucket_grows q j b y x h is_in = by (cases_eq b j)
  where
    more : List Cell
    more = get_or q j [] ++ y ∷ []

    by : (b ≡ j) ⊎ (b ≡ j → ⊥) → Contains (get_or (set q j more) b []) x
    by (inl e) =
        subst (λ (k : ℕ). Contains (get_or (set q j more) k []) x) (sym e)
        (subst (λ (l : List Cell). Contains l x) (sym (get_or-set_same q j more [] h))
        (Contains-append_left (get_or q j []) (y ∷ []) x (subst (λ (k : ℕ). Contains (get_or q k []) x) e is_in)))
    by (inr e) = subst (λ (l : List Cell). Contains l x) (sym (get_or-set_other q j b more [] e)) is_in

-- ---- a cost is lowered

module _ (h : Cell → ℕ) (field : Field) (old new : Search) (u to : Cell) (d k : ℕ) (at_u : cost_in old.costs u ≡ Some d)
    (step : IsStep field old.start u to k) (l : Lowers h old new to (d + k)) where
  -- a cost only falls
  pub falls : (c : Cell) (n : ℕ) → HasCost (cost_in old.costs) c n → HasCost (cost_in new.costs) c n
  falls c n b = by l
    where
      lowered : IsLowered h old new to (d + k) → (c ≡ to) ⊎ (c ≢ to) → HasCost (cost_in new.costs) c n
      lowered p (inl e) = record {
        value = d + k;
        is = ap (cost_in new.costs) e ∙ p.here;
        low = omega (arith, p.higher b.value (ap (cost_in old.costs) (sym e) ∙ b.is), b.low);
      }
      lowered p (inr e) = record { value = b.value; is = p.elsewhere c e ∙ b.is; low = b.low }

      by : IsKept old new to (d + k) ⊎ IsLowered h old new to (d + k) → HasCost (cost_in new.costs) c n
      by (inl p) = subst (λ (s : Search). HasCost (cost_in s.costs) c n) (sym p.same) b
      by (inr p) = lowered p (same_or_not c to)

  -- the cost that was asked for
  pub reached : HasCost (cost_in new.costs) to (d + k)
  reached = by l
    where
      by : IsKept old new to (d + k) ⊎ IsLowered h old new to (d + k) → HasCost (cost_in new.costs) to (d + k)
      by (inl p) = falls to (d + k) p.low
      by (inr p) = record { value = d + k; is = p.here; low = omega arith }

  -- the cell from which the step goes keeps its cost
  pub keeps_cost : cost_in new.costs u ≡ Some d
  keeps_cost = by l
    where
      by : IsKept old new to (d + k) ⊎ IsLowered h old new to (d + k) → cost_in new.costs u ≡ Some d
      by (inl p) = ap (λ (s : Search). cost_in s.costs u) p.same ∙ at_u
      by (inr p) = p.elsewhere u (λ e. omega (arith, p.higher d (ap (cost_in old.costs) (sym e) ∙ at_u))) ∙ at_u

  pub drains_on : (rest : List Cell) → Drains h field old (d + h u) rest → Drains h field new (d + h u) rest
  drains_on rest dr = by l
    where
      now : ℕ
      now = d + h u

      lowered : IsLowered h old new to (d + k) → Drains h field new now rest
      lowered p =
          record {
            guide = subst (λ (v : Cell). IsGuide field v h) (sym p.start_is) dr.guide;
            size_is = p.size_is ∙ dr.size_is;
            search = same_search h field now (cost_in new.costs) old.start new.start (size_of old.costs) (size_of new.costs) (takens old) (takens new)
                p.start_is p.size_is p.taken_is
                (lowers same_or_not dr.guide.falls dr.search (cost_in new.costs) u to k d at_u refl step p.higher p.here p.elsewhere);
            near = λ c n e t. near c n e t (same_or_not c to);
            queued = λ c n e t. subst (λ (q : List (List Cell)). ((n + h c ≡ now) × Contains rest c) ⊎ Contains (get_or q ((n + h c) % 32) []) c) (sym p.queued)
                (queued c n e t (same_or_not c to));
            listed = λ c is_in t. stays c now (dr.listed c is_in (sym (same_taken c) ∙ t)) (same_or_not c to);
            early = λ key c lo hi is_in t. early key c lo hi (subst (λ (q : List (List Cell)). Contains (get_or q (key % 32) []) c) p.queued is_in) t
                (cases_eq (key % 32) b);
          }
        where
          stays : (c : Cell) (key : ℕ) → IsEarly h old c key → (c ≡ to) ⊎ (c ≢ to) → IsEarly h new c key
          stays c key v (inl f) = record {
            value = d + k;
            cost = ap (cost_in new.costs) f ∙ p.here;
            low = omega (arith, p.higher v.value (ap (cost_in old.costs) (sym f) ∙ v.cost), v.low);
          }
          stays c key v (inr f) = record { value = v.value; cost = p.elsewhere c f ∙ v.cost; low = v.low }

          b : ℕ
          b = (d + k + h to) % 32

          more : List (List Cell)
          more = set old.buckets.items b (get_or old.buckets.items b [] ++ to ∷ [])

          b_in : b < length old.buckets.items
          b_in = omega (arith, ring-length old)

          same_taken : (c : Cell) → taken_in new c ≡ taken_in old c
          same_taken c = ap₂ (λ (size : Size) (xs : List Bool). entry_at false size xs c) p.size_is p.taken_is

          early : (key : ℕ) (c : Cell) → now ≤ key → key < now + 32 → Contains (get_or more (key % 32) []) c → taken_in new c ≡ false
              → (key % 32 ≡ b) ⊎ (key % 32 ≢ b) → IsEarly h new c key
          early key c lo hi is_in t (inl e) =
              ⊎_elim
              (λ (q : Contains (get_or old.buckets.items b []) c).
              stays c key (dr.early key c lo hi (subst (λ (n : ℕ). Contains (get_or old.buckets.items n []) c) (sym e) q) (sym (same_taken c) ∙ t)) (same_or_not c to))
              (λ (q : to ≡ c). record {
                value = d + k;
                cost = ap (cost_in new.costs) (sym q) ∙ p.here;
                low = subst (λ (v : Cell). d + k + h v ≤ key) q
                    (omega (arith, e, lo, hi, dr.guide.falls.falls u to k step, dr.guide.rises u to k d (dr.search.walks u d at_u) step));
              })
              (Contains-push_cases (get_or old.buckets.items b []) to c
              (subst (λ (xs : List Cell). Contains xs c) (get_or-set_same old.buckets.items b (get_or old.buckets.items b [] ++ to ∷ []) [] b_in)
              (subst (λ (n : ℕ). Contains (get_or more n []) c) e is_in)))
          early key c lo hi is_in t (inr e) =
              stays c key (dr.early key c lo hi
              (subst (λ (xs : List Cell). Contains xs c) (get_or-set_other old.buckets.items b (key % 32) (get_or old.buckets.items b [] ++ to ∷ []) [] e) is_in)
              (sym (same_taken c) ∙ t)) (same_or_not c to)

          total_is : (c : Cell) (n : ℕ) → cost_in new.costs c ≡ Some n → c ≡ to → n + h c ≡ d + k + h to
          total_is c n e f = let both : Some n ≡ Some (d + k) = sym e ∙ ap (cost_in new.costs) f ∙ p.here in let equal : n ≡ d + k = cc in
              ap₂ (λ (a b : ℕ). a + b) equal (ap h f)

          near : (c : Cell) (n : ℕ) → cost_in new.costs c ≡ Some n → taken_in new c ≡ false → (c ≡ to) ⊎ (c ≢ to) → n + h c < now + 32
          near c n e t (inl f) = omega (arith, total_is c n e f, dr.guide.rises u to k d (dr.search.walks u d at_u) step)
          near c n e t (inr f) = dr.near c n (sym (p.elsewhere c f) ∙ e) (sym (same_taken c) ∙ t)

          queued : (c : Cell) (n : ℕ) → cost_in new.costs c ≡ Some n → taken_in new c ≡ false → (c ≡ to) ⊎ (c ≢ to) → ((n + h c ≡ now) × Contains rest c)
              ⊎ Contains (get_or more ((n + h c) % 32) []) c
          queued c n e t (inl f) =
              inr (subst (λ (x : ℕ). Contains (get_or more (x % 32) []) c) (sym (total_is c n e f))
              (subst (λ (xs : List Cell). Contains xs c) (sym (get_or-set_same old.buckets.items b (get_or old.buckets.items b [] ++ to ∷ []) [] b_in))
              (subst (λ (x : Cell). Contains (get_or old.buckets.items b [] ++ to ∷ []) x) (sym f) (Contains-push (get_or old.buckets.items b []) to))))
          queued c n e t (inr f) =
              ⊎_elim
              (λ (q : (n + h c ≡ now) × Contains rest c). inl q)
              (λ (q : Contains (bucket_in old ((n + h c) % 32)) c). inr (bucket_grows old.buckets.items b ((n + h c) % 32) to c b_in q))
              (dr.queued c n (sym (p.elsewhere c f) ∙ e) (sym (same_taken c) ∙ t))

      by : IsKept old new to (d + k) ⊎ IsLowered h old new to (d + k) → Drains h field new now rest
      by (inl p) = subst (λ (s : Search). Drains h field s now rest) (sym p.same) dr
      by (inr p) = lowered p

  pub size_stays : size_of new.costs ≡ size_of old.costs
  size_stays = ⊎_elim (λ (p : IsKept old new to (d + k)). ap (λ (s : Search). size_of s.costs) p.same) (λ (p : IsLowered h old new to (d + k)). p.size_is) l

  pub start_stays : new.start ≡ old.start
  start_stays = ⊎_elim (λ (p : IsKept old new to (d + k)). ap (λ (s : Search). s.start) p.same) (λ (p : IsLowered h old new to (d + k)). p.start_is) l

  pub taken_stays : takens new ≡ takens old
  taken_stays = ⊎_elim (λ (p : IsKept old new to (d + k)). ap takens p.same) (λ (p : IsLowered h old new to (d + k)). p.taken_is) l

-- ---- the steps from a cell in the directions before one are reckoned with

pub record Expanding (h : Cell → ℕ) (field : Field) (first s : Search) (from : Cell) (cost which : ℕ) : Type 0 where
  pub kept : (rest : List Cell) → Drains h field first (cost + h from) rest → Drains h field s (cost + h from) rest
  pub from_is : cost_in s.costs from ≡ Some cost
  pub start_is : s.start ≡ first.start
  pub size_is : size_of s.costs ≡ size_of first.costs
  pub taken_is : takens s ≡ takens first
  pub steps : (b : Cell) (j : ℕ) → j < which → step_to field first.start from j ≡ Some b → HasCost (cost_in s.costs) b (cost + step_cost j)

pub expanding_begins : (h : Cell → ℕ) (field : Field) (first : Search) (from : Cell) (cost : ℕ) → cost_in first.costs from ≡ Some cost
    → Expanding h field first first from cost 0
expanding_begins h field first from cost e =
    record { kept = λ rest dr. dr; from_is = e; start_is = refl; size_is = refl; taken_is = refl; steps = λ b j lt f. absurd (omega arith) }

pub expanding_more : (h : Cell → ℕ) (field : Field) (first old new : Search) (from to : Cell) (cost which : ℕ)
    → Expanding h field first old from cost which → step_to field old.start from which ≡ Some to →
    Lowers h old new to (cost + step_cost which) → Expanding h field first new from cost (which + 1)
expanding_more h field first old new from to cost which x e l =
    record {
      kept = λ rest dr. drains_on h field old new from to cost (step_cost which) x.from_is step l rest (x.kept rest dr);
      from_is = keeps_cost h field old new from to cost (step_cost which) x.from_is step l;
      start_is = start_stays h field old new from to cost (step_cost which) x.from_is step l ∙ x.start_is;
      size_is = size_stays h field old new from to cost (step_cost which) x.from_is step l ∙ x.size_is;
      taken_is = taken_stays h field old new from to cost (step_cost which) x.from_is step l ∙ x.taken_is;
      steps = λ b j lt f. steps b j f (eq-or-lt_of_le lt);
    }
  where
    step : IsStep field old.start from to (step_cost which)
    step = step-of field old.start from to which e

    steps : (b : Cell) (j : ℕ) → step_to field first.start from j ≡ Some b → (suc j ≡ which + 1) ⊎ (suc j < which + 1)
        → HasCost (cost_in new.costs) b (cost + step_cost j)
    steps b j f (inl same) =
        let j_is : j ≡ which = omega arith in
        let both : Some to ≡ Some b = sym e ∙ ap₂ (λ (s : Cell) (w : ℕ). step_to field s from w) x.start_is (sym j_is) ∙ f in
        let to_is : to ≡ b = cc in
        let r = reached h field old new from to cost (step_cost which) x.from_is step l in
        record { value = r.value; is = ap (cost_in new.costs) (sym to_is) ∙ r.is; low = omega (arith, r.low, ap step_cost j_is) }
    steps b j f (inr before) = falls h field old new from to cost (step_cost which) x.from_is step l b (cost + step_cost j)
        (x.steps b j (omega arith) f)

pub expanding_none : (h : Cell → ℕ) (field : Field) (first s : Search) (from : Cell) (cost which : ℕ) → Expanding h field first s from cost which
    → step_to field s.start from which ≡ None → Expanding h field first s from cost (which + 1)
expanding_none h field first s from cost which x e =
    record {
      kept = x.kept;
      from_is = x.from_is;
      start_is = x.start_is;
      size_is = x.size_is;
      taken_is = x.taken_is;
      steps =
          λ b j lt f. steps b j f (eq-or-lt_of_le lt);
    }
  where
    steps : (b : Cell) (j : ℕ) → step_to field first.start from j ≡ Some b → (suc j ≡ which + 1) ⊎ (suc j < which + 1)
        → HasCost (cost_in s.costs) b (cost + step_cost j)
    steps b j f (inl same) =
        let j_is : j ≡ which = omega arith in
        let none : None ≡ Some b = sym e ∙ ap₂ (λ (v : Cell) (w : ℕ). step_to field v from w) x.start_is (sym j_is) ∙ f in
        cc
    steps b j f (inr before) = x.steps b j (omega arith) f

pub expanded : (h : Cell → ℕ) (field : Field) (first s : Search) (from : Cell) (cost which : ℕ) → 8 ≤ which → Expanding h field first s from cost which
    → Expands h field first s from cost
expanded h field first s from cost which all x =
    record {
      kept = x.kept;
      from_is = x.from_is;
      start_is = x.start_is;
      size_is = x.size_is;
      taken_is = x.taken_is;
      steps = λ b k step.
          let d = direction-of field first.start from b k step in
          let r = x.steps b d.which (let below = d.below_eight in omega arith) d.leads in
          record { value = r.value; is = r.is; low = omega (arith, r.low, d.cost_is) };
    }

-- ---- a bucket is gone through

contains_tail : (x c : Cell) (rest : List Cell) → c ≢ x → Contains (x ∷ rest) c → Contains rest c
contains_tail x c rest e (zero, h, is) = absurd (e (sym is))
contains_tail x c rest e (suc k, h, is) = (k, omega arith, is)

contains_more : (x c : Cell) (rest : List Cell) → Contains rest c → Contains (x ∷ rest) c
contains_more x c rest (k, h, is) = (suc k, omega arith, is)

-- the first of the rest waits by this key where it was not taken
pub waits-first : (h : Cell → ℕ) (field : Field) (s : Search) (now : ℕ) (x : Cell) (d : ℕ) (rest : List Cell) → Drains h field s now (x ∷ rest)
    → cost_in s.costs x ≡ Some d → taken_in s x ≡ false → Waits h s now x d
waits-first h field s now x d rest dr e t =
    let v = dr.listed x (0, omega arith, refl) t in
    let both : Some v.value ≡ Some d = sym v.cost ∙ e in
    let equal : v.value ≡ d = cc in
    record { cost = e; not_taken = t; key = omega (arith, equal, v.low, dr.search.waiting x d e t) }

-- the first of the rest does not wait by this key
pub drains_past : (h : Cell → ℕ) (field : Field) (s : Search) (now : ℕ) (x : Cell) (rest : List Cell) → ((d : ℕ) → Waits h s now x d → ⊥)
    → Drains h field s now (x ∷ rest) → Drains h field s now rest
drains_past h field s now x rest stale dr =
    record {
      guide = dr.guide;
      size_is = dr.size_is;
      search = dr.search;
      near = dr.near;
      queued = λ c n e t.
          ⊎_elim
          (λ (q : (n + h c ≡ now) × Contains (x ∷ rest) c).
          let other : c ≢ x = λ f. stale n
          (record { cost = ap (cost_in s.costs) (sym f) ∙ e; not_taken = ap (taken_in s) (sym f) ∙ t; key = ap (λ (v : Cell). n + h v) (sym f) ∙ q.0 }) in
          inl (q.0, contains_tail x c rest other q.1))
          (λ (q : Contains (bucket_in s ((n + h c) % 32)) c). inr q)
          (dr.queued c n e t);
      listed = λ c is_in t. dr.listed c (contains_more x c rest is_in) t;
      early = dr.early;
    }

-- the first of the rest is taken
pub drains_taken : (h : Cell → ℕ) (field : Field) (old new : Search) (now : ℕ) (x : Cell) (d : ℕ) (rest : List Cell)
    → Takes old new x → cost_in old.costs x ≡ Some d → d + h x ≡ now →
    ((b : Cell) (k : ℕ) → IsStep field old.start x b k → HasCost (cost_in old.costs) b (d + k)) → Drains h field old now (x ∷ rest)
    → Drains h field new now rest
drains_taken h field old new now x d rest t at_x key steps dr =
    record {
      guide = subst (λ (v : Cell). IsGuide field v h) (sym t.start_is) dr.guide;
      size_is = ap size_of t.costs_are ∙ dr.size_is;
      search =
          subst (λ (s : Cell). IsSearch (IsStep field s) s h (cost_in new.costs) (taken_in new) now) (sym t.start_is)
          (subst (λ (v : Cell → Option ℕ). IsSearch (IsStep field old.start) old.start h v (taken_in new) now) (ap cost_in (sym t.costs_are))
          (takes same_or_not dr.guide.falls dr.search (taken_in new) x d at_x key steps t.here t.elsewhere));
      near = λ c n e f. dr.near c n (same_cost c ∙ e) (sym (t.elsewhere c (not_x c f)) ∙ f);
      queued = λ c n e f.
          subst (λ (q : List (List Cell)). ((n + h c ≡ now) × Contains rest c) ⊎ Contains (get_or q ((n + h c) % 32) []) c) (sym t.buckets_are)
          (⊎_elim
          (λ (q : (n + h c ≡ now) × Contains (x ∷ rest) c). inl (q.0, contains_tail x c rest (not_x c f) q.1))
          (λ (q : Contains (bucket_in old ((n + h c) % 32)) c). inr q)
          (dr.queued c n (same_cost c ∙ e) (sym (t.elsewhere c (not_x c f)) ∙ f)));
      listed = λ c is_in f. stays c now (dr.listed c (contains_more x c rest is_in) (sym (t.elsewhere c (not_x c f)) ∙ f));
      early = λ key c lo hi is_in f. stays c key (dr.early key c lo hi
          (subst (λ (q : List (List Cell)). Contains (get_or q (key % 32) []) c) t.buckets_are is_in) (sym (t.elsewhere c (not_x c f)) ∙ f));
    }
  where
    not_x : (c : Cell) → taken_in new c ≡ false → c ≢ x
    not_x c f e = true≢false (sym t.here ∙ ap (taken_in new) (sym e) ∙ f)

    same_cost : (c : Cell) → cost_in old.costs c ≡ cost_in new.costs c
    same_cost c = ap (λ v. cost_in v c) (sym t.costs_are)

    stays : (c : Cell) (key : ℕ) → IsEarly h old c key → IsEarly h new c key
    stays c key v = record { value = v.value; cost = sym (same_cost c) ∙ v.cost; low = v.low }

pub record Draining (h : Cell → ℕ) (field : Field) (first s : Search) (now : ℕ) (rest : List Cell) (any : Bool) : Type 0 where
  pub drains : Drains h field s now rest
  pub progress : Progress first s any

pub draining_begins : (h : Cell → ℕ) (field : Field) (s : Search) (now : ℕ) (rest : List Cell) → Drains h field s now rest → Draining h field s s now rest false
draining_begins h field s now rest d = record { drains = d; progress = record { start_is = refl; fewer = omega arith; same = λ e. refl } }

pub draining_past : (h : Cell → ℕ) (field : Field) (first s : Search) (now : ℕ) (x : Cell) (rest : List Cell) (any : Bool) → ((d : ℕ) → Waits h s now x d → ⊥)
    → Draining h field first s now (x ∷ rest) any → Draining h field first s now rest any
draining_past h field first s now x rest any stale t = record { drains = drains_past h field s now x rest stale t.drains; progress = t.progress }

pub draining_taken : (h : Cell → ℕ) (field : Field) (first s expanded new : Search) (now : ℕ) (x : Cell) (d : ℕ) (rest : List Cell) (any : Bool)
    → Waits h s now x d → Expands h field s expanded x d → Takes expanded new x →
    Draining h field first s now (x ∷ rest) any → Draining h field first new now rest true
draining_taken h field first s expanded new now x d rest any w ex t dr =
    record {
      drains = drains_taken h field expanded new now x d rest t ex.from_is w.key
          (λ b k step. ex.steps b k (subst (λ (v : Cell). IsStep field v x b k) ex.start_is step))
          (subst (λ (n : ℕ). Drains h field expanded n (x ∷ rest)) w.key
          (ex.kept (x ∷ rest) (subst (λ (n : ℕ). Drains h field s n (x ∷ rest)) (sym w.key) dr.drains)));
      progress = record {
        start_is = t.start_is ∙ ex.start_is ∙ dr.progress.start_is;
        fewer = omega (
          arith,
          t.fewer (ap₂ (λ (size : Size) (xs : List Bool). entry_at false size xs x) ex.size_is ex.taken_is ∙ w.not_taken),
          untaken_same,
          dr.progress.fewer,
          no_less any,
        );
        same = λ e. absurd (true≢false e);
      };
    }
  where
    untaken_same : untaken expanded ≡ untaken s
    untaken_same = ap untaken_of ex.taken_is
      where
        untaken_of : List Bool → ℕ
        untaken_of xs = count_by not xs

    no_less : (b : Bool) → 0 ≤ cond b 1 0
    no_less b = omega arith

-- ---- one bucket after another

-- a bucket is taken out
pub drains_first : (h : Cell → ℕ) (field : Field) (old new : Search) (now idle : ℕ) → Ready h field old now idle → Empties old new (now % 32)
    → Drains h field new now (bucket_in old (now % 32))
drains_first h field old new now idle r t =
    record {
      guide = subst (λ (v : Cell). IsGuide field v h) (sym t.start_is) r.guide;
      size_is = ap size_of t.costs_are ∙ r.size_is;
      search = same_search h field now (cost_in new.costs) old.start new.start (size_of old.costs) (size_of new.costs) (takens old) (takens new) t.start_is
          (ap size_of t.costs_are) t.taken_is
          (subst (λ (v : Cell → Option ℕ). IsSearch (IsStep field old.start) old.start h v (taken_in old) now) (ap cost_in (sym t.costs_are)) r.search);
      near = λ c n e f. omega (arith, r.near c n (same_cost c ∙ e) (same_taken c ∙ f));
      queued = λ c n e f.
          subst (λ (q : List (List Cell)). ((n + h c ≡ now) × Contains (bucket_in old (now % 32)) c) ⊎ Contains (get_or q ((n + h c) % 32) []) c)
          (sym t.buckets_are)
          (queued c n (same_cost c ∙ e) (same_taken c ∙ f) (cases_eq ((n + h c) % 32) (now % 32)));
      listed = λ c is_in f. stays c now (r.early now c (omega arith) (omega arith) is_in (same_taken c ∙ f));
      early = λ key c lo hi is_in f. early key c lo hi (subst (λ (q : List (List Cell)). Contains (get_or q (key % 32) []) c) t.buckets_are is_in) f
          (cases_eq (key % 32) (now % 32));
    }
  where
    same_cost : (c : Cell) → cost_in old.costs c ≡ cost_in new.costs c
    same_cost c = ap (λ v. cost_in v c) (sym t.costs_are)

    same_taken : (c : Cell) → taken_in old c ≡ taken_in new c
    same_taken c = ap₂ (λ (size : Size) (xs : List Bool). entry_at false size xs c) (ap size_of (sym t.costs_are)) (sym t.taken_is)

    queued : (c : Cell) (n : ℕ) → cost_in old.costs c ≡ Some n → taken_in old c ≡ false → ((n + h c) % 32 ≡ now % 32) ⊎ ((n + h c) % 32 ≢ now % 32) →
        ((n + h c ≡ now) × Contains (bucket_in old (now % 32)) c) ⊎ Contains (get_or (set old.buckets.items (now % 32) []) ((n + h c) % 32) []) c
    queued c n e f (inl same) =
        let at_least = r.search.waiting c n e f in
        let at_most = r.near c n e f in
        inl (omega arith, subst (λ (b : ℕ). Contains (bucket_in old b) c) same (r.queued c n e f))
    queued c n e f (inr apart) =
        inr (subst (λ (xs : List Cell). Contains xs c) (sym (get_or-set_other old.buckets.items (now % 32) ((n + h c) % 32) [] [] apart)) (r.queued c n e f))

    stays : (c : Cell) (key : ℕ) → IsEarly h old c key → IsEarly h new c key
    stays c key v = record { value = v.value; cost = sym (same_cost c) ∙ v.cost; low = v.low }

    early : (key : ℕ) (c : Cell) → now ≤ key → key < now + 32 → Contains (get_or (set old.buckets.items (now % 32) []) (key % 32) []) c → taken_in new c ≡ false
        → (key % 32 ≡ now % 32) ⊎ (key % 32 ≢ now % 32) → IsEarly h new c key
    early key c lo hi is_in f (inl e) =
        absurd (nothing_in c (subst (λ (xs : List Cell). Contains xs c) (get_or-set_same old.buckets.items (now % 32) [] [] (omega (arith, ring-length old)))
        (subst (λ (n : ℕ). Contains (get_or (set old.buckets.items (now % 32) []) n []) c) e is_in)))
    early key c lo hi is_in f (inr e) =
        stays c key (r.early key c lo hi
        (subst (λ (xs : List Cell). Contains xs c) (get_or-set_other old.buckets.items (now % 32) (key % 32) [] [] e) is_in) (same_taken c ∙ f))

-- a bucket was gone through, and the search stays at its key
pub ready_again : (h : Cell → ℕ) (field : Field) (s : Search) (now : ℕ) → now % 2 ≡ 0 → Drains h field s now [] → Ready h field s now 0
ready_again h field s now even d =
    record {
      even = even;
      guide = d.guide;
      size_is = d.size_is;
      search = d.search;
      near = λ c n e f. omega (arith, d.near c n e f);
      queued = λ c n e f.
          ⊎_elim
          (λ (q : (n + h c ≡ now) × Contains [] c). absurd (nothing_in c q.1))
          (λ (q : Contains (bucket_in s ((n + h c) % 32)) c). q)
          (d.queued c n e f);
      early = d.early;
    }

-- how many keys have had no cell to take may be forgotten
pub ready_anew : (h : Cell → ℕ) (field : Field) (s : Search) (now idle : ℕ) → Ready h field s now idle → Ready h field s now 0
ready_anew h field s now idle r =
    record {
      even = r.even;
      guide = r.guide;
      size_is = r.size_is;
      search = r.search;
      near = λ c n e f. omega (arith, r.near c n e f);
      queued = r.queued;
      early = r.early;
    }

-- a bucket had no cell to take, and the search goes on to the next even key
pub ready_next : (h : Cell → ℕ) (field : Field) (old new : Search) (now idle : ℕ) → Ready h field old now idle
    → Empties old new (now % 32) → Drains h field new now [] → Ready h field new (now + 2) (idle + 2)
ready_next h field old new now idle r t d =
    let again = ready_again h field new now r.even d in
    record {
      even = omega (arith, r.even);
      guide = d.guide;
      size_is = d.size_is;
      search =
          subst (λ (n : ℕ). IsSearch (IsStep field new.start) new.start h (cost_in new.costs) (taken_in new) n) two
          (goes-on same_or_not d.guide.falls
          (goes-on same_or_not d.guide.falls d.search
          (λ c n e f key.
          nothing_in c (subst (λ (xs : List Cell). Contains xs c) emptied (subst (λ (v : ℕ). Contains (bucket_in new (v % 32)) c) key (again.queued c n e f)))))
          (λ c n e f key. omega (arith, key, r.even, d.guide.even c, walk-even field new.start (d.search.walks c n e))));
      near = λ c n e f. omega (arith, r.near c n (same_cost c ∙ e) (same_taken c ∙ f));
      queued = again.queued;
      early = λ key c lo hi is_in f. early key c lo hi is_in f (cases_lt key (now + 32));
    }
  where
    early : (key : ℕ) (c : Cell) → now + 2 ≤ key → key < now + 2 + 32 → Contains (bucket_in new (key % 32)) c → taken_in new c ≡ false
        → (key < now + 32) ⊎ (now + 32 ≤ key) → IsEarly h new c key
    early key c lo hi is_in f (inl lt) = d.early key c (omega arith) lt is_in f
    early key c lo hi is_in f (inr le) =
        let same : key % 32 ≡ (key - 32) % 32 = omega arith in
        let v = d.early (key - 32) c (omega arith) (omega arith) (subst (λ (n : ℕ). Contains (bucket_in new n) c) same is_in) f in
        record { value = v.value; cost = v.cost; low = omega (arith, v.low) }

    two : now + 1 + 1 ≡ now + 2
    two = omega arith

    emptied : bucket_in new (now % 32) ≡ []
    emptied = ap (λ (q : List (List Cell)). get_or q (now % 32) []) t.buckets_are ∙ get_or-set_same old.buckets.items (now % 32) [] []
        (omega (arith, ring-length old))

    same_cost : (c : Cell) → cost_in old.costs c ≡ cost_in new.costs c
    same_cost c = ap (λ v. cost_in v c) (sym t.costs_are)

    same_taken : (c : Cell) → taken_in old c ≡ taken_in new c
    same_taken c = ap₂ (λ (size : Size) (xs : List Bool). entry_at false size xs c) (ap size_of (sym t.costs_are)) (sym t.taken_is)

-- a bucket is empty, and the search goes on to the next even key
pub ready_passed : (h : Cell → ℕ) (field : Field) (s : Search) (now idle : ℕ) → Ready h field s now idle
    → bucket_in s (now % 32) ≡ [] → Ready h field s (now + 2) (idle + 2)
ready_passed h field s now idle r none = ready_next h field s s now idle r
    (record {
      start_is = refl;
      costs_are = refl;
      taken_is = refl;
      buckets_are =
          sym (ap (set s.buckets.items (now % 32)) (sym none) ∙ set-get_or s.buckets.items (now % 32) []);
    }) drains
  where
    drains : Drains h field s now []
    drains = record {
      guide = r.guide;
      size_is = r.size_is;
      search = r.search;
      near = λ c n e f. omega (arith, r.near c n e f);
      queued = λ c n e f. inr (r.queued c n e f);
      listed = λ c is_in. absurd (nothing_in c is_in);
      early = r.early;
    }

-- after as many buckets with no cell to take as there are, none waits
ready_last : (h : Cell → ℕ) (field : Field) (s : Search) (now idle : ℕ) → 32 ≤ idle → Ready h field s now idle → (c : Cell) (d : ℕ) → cost_in s.costs c ≡ Some d
    → taken_in s c ≡ true
ready_last h field s now idle all r c d e = by (cases_Bool (taken_in s c))
  where
    by : (taken_in s c ≡ true) ⊎ (taken_in s c ≡ false) → taken_in s c ≡ true
    by (inl f) = f
    by (inr f) = absurd (omega (arith, r.near c d e f, r.search.waiting c d e f))

pub costs-found : (h : Cell → ℕ) (field : Field) (s : Search) (now idle : ℕ) → 32 ≤ idle → Ready h field s now idle
    → AreCosts field s.start (cost_in s.costs)
costs-found h field s now idle last r =
    record {
      least = least;
      all = λ c d w.
          let v = all-found same_or_not r.guide.falls r.search (ready_last h field s now idle last r) w.walk in
          let own = least c v.value v.is in
          let equal : v.value ≡ d = omega (arith, v.low, w.least v.value own.walk) in
          v.is ∙ ap Some equal;
    }
  where
    least : (c : Cell) (d : ℕ) → cost_in s.costs c ≡ Some d → IsCost field s.start c d
    least c d e =
        let (v, is, le) = r.search.passed c (ready_last h field s now idle last r c d e) in
        let both : Some d ≡ Some v = sym e ∙ is in
        let equal : d ≡ v = cc in
        cost-least same_or_not r.guide.falls r.search c d e (omega arith)

-- what has its least cost before all cells have been taken
pub costs-up_to : (h : Cell → ℕ) (field : Field) (s : Search) (now idle bound : ℕ) → Ready h field s now idle
    → bound < now → AreCostsUpTo field s.start h bound (cost_in s.costs)
costs-up_to h field s now idle bound r lt =
    record {
      least = least;
      all = λ c d w low. all c d w low (walk-found same_or_not r.guide.falls r.search w.walk);
    }
  where
    least : (c : Cell) (d : ℕ) → cost_in s.costs c ≡ Some d → d + h c ≤ bound → IsCost field s.start c d
    least c d e low = cost-least same_or_not r.guide.falls r.search c d e (omega arith)

    all : (c : Cell) (d : ℕ) → IsCost field s.start c d → d + h c ≤ bound → (now ≤ d + h c) ⊎ HasCost (cost_in s.costs) c d → cost_in s.costs c ≡ Some d
    all c d w low (inl le) = absurd (omega arith)
    all c d w low (inr v) =
        let own = least c v.value v.is (omega (arith, v.low)) in
        let equal : v.value ≡ d = omega (arith, v.low, w.least v.value own.walk) in
        v.is ∙ ap Some equal

-- a search that has come to an end may stop
pub stopped : (h : Cell → ℕ) (field : Field) (s : Search) (now idle : ℕ) (ends : List Cell) → Ready h field s now idle
    → IsComeTo (cost_in s.costs) ends now → HasStopped field s.start h ends (cost_in s.costs)
stopped h field s zero idle ends r come = absurd (omega (arith, come.below))
stopped h field s (suc n) idle ends r come =
    record {
      bound = n;
      come = record { end = come.end; value = come.value; among = come.among; reached = come.reached; below = omega (arith, come.below) };
      up_to = costs-up_to h field s (suc n) idle n r (omega arith);
    }

pub ready_begins : (h : Cell → ℕ) (size : Size) (is_open : Cell → Bool) (start : Cell) (s : Search)
    → IsGuide (record { size = size; is_open = is_open }) start h → Begins h size start s → Ready h (record { size = size; is_open = is_open }) s (h start) 0
ready_begins h size is_open start s guide b =
    record {
      even = guide.even start;
      guide = subst (λ (v : Cell). IsGuide field v h) (sym b.start_is) guide;
      size_is = b.size_is;
      search = record {
        begins = ap (cost_in s.costs) b.start_is ∙ b.here;
        walks = λ c d e. let p = at_start c d e in
            subst (λ (x : Cell). Walk (IsStep field s.start) s.start x d) (b.start_is ∙ sym p.0)
            (subst (λ (n : ℕ). Walk (IsStep field s.start) s.start s.start n) (sym p.1) stay);
        passed = λ c f. absurd (true≢false (sym f ∙ b.none_taken c));
        reckoned = λ a v k d f. absurd (true≢false (sym f ∙ b.none_taken a));
        waiting = λ c d e f. let p = at_start c d e in omega (arith, p.1, ap h p.0);
      };
      near = λ c d e f. let p = at_start c d e in omega (arith, p.1, ap h p.0);
      queued = λ c d e f. let p = at_start c d e in
          let key : d + h c ≡ h start = omega (arith, p.1, ap h p.0) in
          subst (λ (n : ℕ). Contains (bucket_in s (n % 32)) c) (sym key) (subst (λ (x : Cell). Contains (bucket_in s (h start % 32)) x) (sym p.0) b.queued);
      early = λ key c lo hi is_in f.
          let is = b.only (key % 32) c (omega arith) is_in in
          record { value = 0; cost = ap (cost_in s.costs) is ∙ b.here; low = omega (arith, lo, ap h is) };
    }
  where
    field : Field
    field = record { size = size; is_open = is_open }

    at_start : (c : Cell) (d : ℕ) → cost_in s.costs c ≡ Some d → (c ≡ start) × (d ≡ 0)
    at_start c d e = by (same_or_not c start)
      where
        by : (c ≡ start) ⊎ (c ≢ start) → (c ≡ start) × (d ≡ 0)
        by (inl f) = let both : Some d ≡ Some 0 = sym e ∙ ap (cost_in s.costs) f ∙ b.here in let free : d ≡ 0 = cc in (f, free)
        by (inr f) = let none : Some d ≡ None = sym e ∙ b.elsewhere c f in let never : ⊥ = cc in absurd never

-- what one round leaves
pub record Round (h : Cell → ℕ) (field : Field) (old new : Search) (now now' idle idle' : ℕ) : Type 0 where
  pub start_is : new.start ≡ old.start
  pub ready : Ready h field new now' idle'
  pub idle_in : idle' ≤ 33
  pub falls : now' + (33 * untaken new + (33 - idle')) ≤ now + (33 * untaken old + (33 - idle))
  pub smaller : 33 * untaken new + (33 - idle') < 33 * untaken old + (33 - idle)

pub round-of : (h : Cell → ℕ) (field : Field) (old between new : Search) (now now' idle idle' : ℕ) (any : Bool)
    → idle < 32 → Ready h field old now idle → Empties old between (now % 32) → Drains h field new now [] → Progress between new any →
    (any ≡ true → (now' ≡ now) × (idle' ≡ 0)) → (any ≡ false → (now' ≡ now + 2) × (idle' ≡ idle + 2)) → Round h field old new now now' idle idle'
round-of h field old between new now now' idle idle' true lt r t d p e f =
    let (stays, none) = e refl in
    record {
      start_is = p.start_is ∙ t.start_is;
      ready = subst (λ (n : ℕ). Ready h field new n idle') (sym stays) (subst (Ready h field new now) (sym none) (ready_again h field new now r.even d));
      idle_in = omega arith;
      falls = omega (arith, p.fewer, ap (count_by not) t.taken_is);
      smaller = omega (arith, p.fewer, ap (count_by not) t.taken_is);
    }
round-of h field old between new now now' idle idle' false lt r t d p e f =
    let (goes, more) = f refl in
    let same : new ≡ between = p.same refl in
    let back : Drains h field between now [] = subst (λ (s : Search). Drains h field s now []) same d in
    record {
      start_is = p.start_is ∙ t.start_is;
      ready = subst (λ (n : ℕ). Ready h field new n idle') (sym goes)
          (subst (Ready h field new (now + 2)) (sym more) (subst (λ (s : Search). Ready h field s (now + 2) (idle + 2)) (sym same)
          (ready_next h field old between now idle r t back)));
      idle_in = omega arith;
      falls = omega (arith, p.fewer, ap (count_by not) t.taken_is);
      smaller = omega (arith, p.fewer, ap (count_by not) t.taken_is);
    }
