-- Why the cells that are found backwards by tight steps are the trail of the definition.
use Rattle.{sim_laws.proofs.Keys.first_of_not_before, sim_path.proofs.Common.{ap, append-nil, append_assoc, AreCosts, AreDead, AreEnds, arith, back_step, Bool}}
use Rattle.sim_path.proofs.Common.{cases_Bool, cases_lt, Cell, cond, Contains, Contains-append_left, Contains-push, Contains-push_cases, end_key, eq-eqb, false}
use Rattle.sim_path.proofs.Common.{Field, floor_cost, free-of_walk, go, HasGoneTo, HasStopped, inl, inr, is_before, is_free, IsBest, IsBestOf, IsCost, IsEnd}
use Rattle.sim_path.proofs.Common.{IsEstimate, IsFirstTight, IsFloor, IsNoneOf, IsOnGround, IsPredecessor, IsReached, IsSearched, IsStep, IsStrictWeakOrder}
use Rattle.sim_path.proofs.Common.{IsTight, IsTightStep, IsTightTrail, IsTrail, IsWayEnd, key_to, LeadBack, LeadsTo, least_step, length, length-append}
use Rattle.sim_path.proofs.Common.{lesser_of, List, ltb, ltb-true, move-of, nat_list_cmp_total, ne_eqb, neighbour, neighbour-back, neighbour-below_eight}
use Rattle.sim_path.proofs.Common.{neighbour-on, None, not, octile, octile-none, octile-self, Option, ranks_by, Reached, refl, same_from_push, same_or_not}
use Rattle.sim_path.proofs.Common.{Some, stay, step_back, step_cost, subst, sym, true, true≢false, Walk, walk-on, ℕ, ⊎_elim, [], ◌*◌, ◌++◌, ◌+◌, ◌-◌, ◌<◌, ◌∙◌}
use Rattle.sim_path.{proofs.{Common.{◌∷◌, ◌≡◌, ◌≢◌, ◌≤◌, ◌⊎◌}, Ends.{back-of_all, last_step}}, specs.declared.slope.Slope.Slope}
use Rattle.{sim_path.specs.{Questions.{AreLive, IsSlope, slope_of}, SlopeLaws.slope-floor}, sim_search.{proofs.Moves.direction-of, specs.Rows.number_in}}

-- The best of a list of cells, and why it is the end of the way where the cells are the ends of the search.

not_lower : (a b : ℕ) → b ≤ a → ltb a b ≡ false
not_lower a b le = by (ltb a b) refl
  where
    by : (t : Bool) → ltb a b ≡ t → ltb a b ≡ false
    by true e = absurd (omega (arith, ltb-true a b e))
    by false e = e

-- a key whose first number is greater does not precede
pub later : (a b : ℕ) (x y : List ℕ) → b < a → is_before (a ∷ x) (b ∷ y) ≡ false
later a b x y lt = rw (not_lower a b (omega arith), ne_eqb a b (λ (e : a ≡ b). omega arith)) refl

-- keys with the same first number are compared by the rest
pub same_first : (a b : ℕ) (x y : List ℕ) → a ≡ b → is_before (a ∷ x) (b ∷ y) ≡ is_before x y
same_first a b x y e = rw (not_lower a b (omega arith), eq-eqb a b e) refl

module _ (cost : Cell → Option ℕ) (goal : Cell) where
  abbrev before : Reached → Reached → Bool
  before r s = is_before (key_to goal r) (key_to goal s)

  order : IsStrictWeakOrder before
  order = ranks_by nat_list_cmp_total (key_to goal)

  itself : (r : Reached) → before r r ≡ false
  itself r = by (cases_Bool (before r r))
    where
      by : (before r r ≡ true) ⊎ (before r r ≡ false) → before r r ≡ false
      by (inl e) = order.one_way r r e
      by (inr e) = e

  pub best_of-none : IsBestOf cost goal [] None
  best_of-none c d (k, h, is) e = omega (arith, h)

  pub best_of-past : (cells : List Cell) (x : Cell) (best : Option Reached) → cost x ≡ None → IsBestOf cost goal cells best
      → IsBestOf cost goal (cells ++ x ∷ []) best
  best_of-past cells x None none b =
      λ c d h e.
      ⊎_elim
      (λ (m : Contains cells c). b c d m e)
      (λ (f : x ≡ c). let both : None ≡ Some d = sym none ∙ ap cost f ∙ e in cc)
      (Contains-push_cases cells x c h)
  best_of-past cells x (Some best) none (b, m) = (
    record {
      reached = b.reached;
      least = λ c d h e.
          ⊎_elim
          (λ (n : Contains cells c). b.least c d n e)
          (λ (f : x ≡ c). let both : None ≡ Some d = sym none ∙ ap cost f ∙ e in let never : ⊥ = cc in absurd never)
          (Contains-push_cases cells x c h);
    },
    Contains-append_left cells (x ∷ []) best.cell m,
  )

  abbrev reached : Cell → ℕ → Reached
  reached c n = record { cell = c; cost = n }

  own : (x c : Cell) (d n : ℕ) → cost x ≡ Some d → x ≡ c → cost c ≡ Some n → reached c n ≡ reached x d
  own x c d n is f e =
      let both : Some d ≡ Some n = sym is ∙ ap cost f ∙ e in
      let equal : d ≡ n = cc in
      cc

  pub best_of-more : (cells : List Cell) (x : Cell) (d : ℕ) (best : Option Reached) → cost x ≡ Some d → IsBestOf cost goal cells best →
      IsBestOf cost goal (cells ++ x ∷ []) (Some (lesser_of (key_to goal) best (record { cell = x; cost = d })))
  best_of-more cells x d None is b = (
    record {
      reached = is;
      least = λ c n h e.
          ⊎_elim
          (λ (m : Contains cells c). absurd (b c n m e))
          (λ (f : x ≡ c). ap (λ (r : Reached). before r (record { cell = x; cost = d })) (own x c d n is f e) ∙ itself (record { cell = x; cost = d }))
          (Contains-push_cases cells x c h);
    },
    Contains-push cells x,
  )
  best_of-more cells x d (Some best) is (b, m) = by (before this best) refl
    where
      this : Reached
      this = record { cell = x; cost = d }

      by : (t : Bool) → before this best ≡ t → IsBestOf cost goal (cells ++ x ∷ []) (Some (cond t this best))
      by true lower = (
        record {
          reached = is;
          least = λ c n h e.
              ⊎_elim
              (λ (k : Contains cells c). order.chain (record { cell = c; cost = n }) best this (b.least c n k e) (order.one_way this best lower))
              (λ (f : x ≡ c). ap (λ (r : Reached). before r this) (own x c d n is f e) ∙ itself this)
              (Contains-push_cases cells x c h);
        },
        Contains-push cells x,
      )
      by false higher = (
        record {
          reached = b.reached;
          least = λ c n h e.
              ⊎_elim
              (λ (k : Contains cells c). b.least c n k e)
              (λ (f : x ≡ c). ap (λ (r : Reached). before r best) (own x c d n is f e) ∙ higher)
              (Contains-push_cases cells x c h);
        },
        Contains-append_left cells (x ∷ []) best.cell m,
      )

-- ---- the best of the ends is the end of the way

module _ (field : Field) (start goal : Cell) (near : ℕ) (ends : List Cell) (cost : Cell → Option ℕ) (best : Reached) (a : AreEnds field start goal near ends)
    (b : IsBest cost goal (Contains ends) best) (among : Contains ends best.cell) where
  best_near : octile best.cell goal ≡ near
  best_near = a.as_near best.cell among

  -- a reached cell that does not precede where it is as near does not precede
  compared : (c : Cell) (n : ℕ) → IsCost field start c n → (octile c goal ≡ near → is_before (end_key goal c n) (end_key goal best.cell best.cost) ≡ false)
      → is_before (end_key goal c n) (end_key goal best.cell best.cost) ≡ false
  compared c n h near_one = by (cases_lt near (octile c goal))
    where
      by : (near < octile c goal) ⊎ (octile c goal ≤ near) → is_before (end_key goal c n) (end_key goal best.cell best.cost) ≡ false
      by (inl lt) = later (octile c goal) (octile best.cell goal) (n ∷ c.z ∷ c.x ∷ []) (best.cost ∷ best.cell.z ∷ best.cell.x ∷ []) (omega (arith, best_near))
      by (inr le) = near_one (omega (arith, a.away c n h.walk))

  pub end-of_all : AreCosts field start cost → IsEnd field start goal best.cell best.cost
  end-of_all all =
      record {
        reached = all.least best.cell best.cost b.reached;
        least = λ c n h. compared c n h (λ e. b.least c n (a.all c n h.walk e) (all.all c n h));
      }

  module _ (estimate : Cell → ℕ) (falls : IsEstimate (IsStep field start) estimate) (none : (c : Cell) → octile c goal ≡ near → estimate c ≡ 0)
      (s : HasStopped field start estimate ends cost) where
    best_low : best.cost ≤ s.bound
    best_low =
        let come = s.come in
        let end_near : octile come.end goal ≡ octile best.cell goal = a.as_near come.end come.among ∙ sym best_near in
        let h = b.least come.end come.value come.among come.reached in
        let rest = same_first (octile come.end goal) (octile best.cell goal) (come.value ∷ come.end.z ∷ come.end.x ∷ [])
        (best.cost ∷ best.cell.z ∷ best.cell.x ∷ []) end_near in
        omega (arith, come.below, first_of_not_before come.value best.cost (come.end.z ∷ come.end.x ∷ []) (best.cell.z ∷ best.cell.x ∷ []) (sym rest ∙ h))

    pub back-of_stopped : LeadBack field start cost best
    back-of_stopped =
        record {
          estimate = estimate;
          falls = falls;
          bound = s.bound;
          low = omega (arith, best_low, none best.cell best_near);
          reached = b.reached;
          up_to = s.up_to;
        }

    pub end-of_stopped : IsEnd field start goal best.cell best.cost
    end-of_stopped =
        record {
          reached = s.up_to.least best.cell best.cost b.reached (omega (arith, best_low, none best.cell best_near));
          least = λ c n h. compared c n h (λ e. by c n h e (cases_lt s.bound n));
        }
      where
        by : (c : Cell) (n : ℕ) → IsCost field start c n → octile c goal ≡ near → (s.bound < n) ⊎ (n ≤ s.bound)
            → is_before (end_key goal c n) (end_key goal best.cell best.cost) ≡ false
        by c n h e (inl lt) =
            same_first (octile c goal) (octile best.cell goal) (n ∷ c.z ∷ c.x ∷ []) (best.cost ∷ best.cell.z ∷ best.cell.x ∷ []) (e ∙ sym best_near)
            ∙ later n best.cost (c.z ∷ c.x ∷ []) (best.cell.z ∷ best.cell.x ∷ []) (omega (arith, best_low))
        by c n h e (inr le) = b.least c n (a.all c n h.walk e) (s.up_to.all c n h (omega (arith, none c e)))

-- where none of the ends has a cost, all cells have their least costs
pub all-by_none : (field : Field) (start : Cell) (estimate : Cell → ℕ) (ends : List Cell) (cost : Cell → Option ℕ) → IsNoneOf cost ends
    → IsSearched field start estimate ends cost → AreCosts field start cost
all-by_none field start estimate ends cost none (inl all) = all
all-by_none field start estimate ends cost none (inr s) = absurd (none s.come.end s.come.value s.come.among s.come.reached)

pub end-by_search : (field : Field) (start goal : Cell) (near : ℕ) (ends : List Cell) (cost : Cell → Option ℕ) (best : Reached)
    → AreEnds field start goal near ends → IsBestOf cost goal ends (Some best) → HasGoneTo field start goal near ends cost → IsWayEnd field start goal cost best
end-by_search field start goal near ends cost best a (b, among) gone = by gone.searched
  where
    by : IsSearched field start gone.estimate ends cost → IsWayEnd field start goal cost best
    by (inl all) = record { is_end = end-of_all field start goal near ends cost best a b among all; back = back-of_all field start cost best all b.reached }
    by (inr s) =
        record {
          is_end = end-of_stopped field start goal near ends cost best a b among gone.estimate gone.falls gone.none_left s;
          back = back-of_stopped field start goal near ends cost best a b among gone.estimate gone.falls gone.none_left s;
        }

module _ (field : Field) (start : Cell) (floor : Cell → ℕ) where
  -- where p is tight, c is, and p is its predecessor
  pub record IsLink (c p : Cell) : Type 0 where
    pub other : c ≢ start
    pub tight : IsTight field start floor p → IsTight field start floor c
    pub before : IsTight field start floor p → IsPredecessor field start p c (floor c)

  -- the cells from the end back to one, each linked to the next
  pub data IsChain (end : Cell) : List Cell → Cell → Type 0 where
    begin : IsChain end [] end
    more : {xs : List Cell} {c p : Cell} → IsChain end xs c → IsLink c p → IsChain end (xs ++ c ∷ []) p

  -- a cell of the ground that may be entered
  pub record IsFree (c : Cell) : Type 0 where
    pub on : IsOnGround field.size c
    pub free : is_free field start c ≡ true

  pub data AreFree : List Cell → Type 0 where
    no_more : AreFree []
    one_more : {xs : List Cell} {c : Cell} → AreFree xs → IsFree c → AreFree (xs ++ c ∷ [])

  -- what is known on the way back
  pub record IsAt (end : Cell) (trail : List Cell) (dead : Cell → Bool) (at : Cell) : Type 0 where
    pub chain : IsChain end trail at
    pub frees : AreFree trail
    pub free : IsFree at
    pub are_dead : AreDead field start floor dead

module _ (field : Field) (start : Cell) (floor : Cell → ℕ) (start_on : IsOnGround field.size start) (is_floor : IsFloor field start floor) where
  -- no walk costs less than the floor
  pub walk-far : {c : Cell} {n : ℕ} → Walk (IsStep field start) start c n → floor c ≤ n
  walk-far stay = omega (arith, is_floor.begins)
  walk-far (go {a = a} {b = b} {n = n} {k = k} w s) = omega (arith, walk-far w, is_floor.rises a b k s)

  pub tight-of_walk : (c : Cell) → Walk (IsStep field start) start c (floor c) → IsTight field start floor c
  tight-of_walk c w = record { walk = w; least = λ n v. walk-far v }

  pub tight-start : IsTight field start floor start
  tight-start = tight-of_walk start (subst (λ (n : ℕ). Walk (IsStep field start) start start n) (sym is_floor.begins) stay)

  tight-on : (c : Cell) → IsTight field start floor c → IsOnGround field.size c
  tight-on c t = walk-on field start start_on t.walk

  -- what leads to a cell that costs as little as its floor costs as little as its own
  pub leads-tight : (p c : Cell) → LeadsTo field start p c (floor c) → IsTight field start floor p
  leads-tight p c l =
      let near = is_floor.rises p c l.last l.step in
      let equal : l.before ≡ floor p = omega (arith, near, l.sum, walk-far l.reached.walk) in
      subst (λ (n : ℕ). IsCost field start p n) equal l.reached

  -- and leads to it by a tight step, in each direction in which it lies
  leads-tight_step : (p c : Cell) (which : ℕ) → LeadsTo field start p c (floor c) → neighbour field.size c which ≡ Some p
      → IsTightStep field start floor c p which
  leads-tight_step p c which l e =
      let back = back_step field start c p which l.last (walk-on field start start_on l.reached.walk) (free-of_walk field start l.reached.walk) l.step e in
      let near = is_floor.rises p c l.last l.step in
      record { leads = back.leads; sum = omega (arith, back.cost_is, near, l.sum, walk-far l.reached.walk) }

  -- a tight step from a cell that is free
  module _ (c p : Cell) (which : ℕ) (c_on : IsOnGround field.size c) (t : IsTightStep field start floor c p which)
      (c_free : IsStep field start p c (step_cost which)) where
    pub tight-more : IsTight field start floor p → IsTight field start floor c
    tight-more own = tight-of_walk c (subst (λ (n : ℕ). Walk (IsStep field start) start c n) t.sum (go own.walk c_free))

  pub chain-pop : (end : Cell) (xs zs : List Cell) (b at : Cell) → IsChain field start floor end zs at → zs ≡ xs ++ b ∷ [] → IsChain field start floor end xs b
  chain-pop end xs zs b at begin e = absurd (omega (arith, ap length e, length-append xs (b ∷ [])))
  chain-pop end xs zs b at (more {xs = ys} {c = c} {p = p} ch link) e =
      let (f, g) = same_from_push ys xs c b e in
      subst (λ (v : List Cell). IsChain field start floor end v b) f (subst (λ (v : Cell). IsChain field start floor end ys v) g ch)

  -- where the last cell is tight, the chain is a trail
  chain-trail : (end at : Cell) (xs rest : List Cell) → IsChain field start floor end xs at → IsTight field start floor at → IsTrail field start at rest
      → IsTightTrail field start floor end (xs ++ rest)
  chain-trail end at xs rest begin t h = record { tight = t; is_trail = h }
  chain-trail end at zs rest (more {xs = xs} {c = c} {p = p} ch link) t h =
      let own = link.tight t in
      let longer : IsTrail field start c (c ∷ rest) = (refl, link.other, floor c, own, p, link.before t, h) in
      subst (λ (v : List Cell). IsTightTrail field start floor end v) (sym (append_assoc xs (c ∷ []) rest)) (chain-trail end c xs (c ∷ rest) ch own longer)

  pub chain-done : (end at : Cell) (xs : List Cell) → IsChain field start floor end xs at → at ≡ start → IsTightTrail field start floor end xs
  chain-done end at xs ch e =
      subst (λ (v : List Cell). IsTightTrail field start floor end v) (append-nil xs)
      (chain-trail end at xs [] ch (subst (λ (v : Cell). IsTight field start floor v) (sym e) tight-start) e)

  -- ---- one cell further back, or a dead one

  pub free-last : (xs zs : List Cell) (b : Cell) → AreFree field start floor zs → zs ≡ xs ++ b ∷ [] → AreFree field start floor xs × IsFree field start floor b
  free-last xs zs b no_more e = absurd (omega (arith, ap length e, length-append xs (b ∷ [])))
  free-last xs zs b (one_more {xs = ys} {c = c} f free) e =
      let (g, h) = same_from_push ys xs c b e in
      (subst (AreFree field start floor) g f, subst (IsFree field start floor) h free)

  pub link-of : (dead : Cell → Bool) (c p : Cell) → c ≢ start → IsOnGround field.size c → is_free field start c ≡ true → AreDead field start floor dead
      → IsFirstTight field start floor dead c 8 (Some p) → IsLink field start floor c p
  link-of dead c p other c_on c_free are_dead (which, lt, t, first) =
      record {
        other = other;
        tight = λ own. tight-more c p which c_on t step own;
        before = λ own. record {
          which = which;
          neighbour_is = (move-of field start c p which t.leads).leads;
          leads = record { before = floor p; last = step_cost which; reached = own; step = step; sum = t.sum };
          first = λ j q below e l. let own = leads-tight q c l in are_dead q (first j q below (leads-tight_step q c j l e) own) own;
        };
      }
    where
      step : IsStep field start p c (step_cost which)
      step = step_back field start c p which c_on c_free t.leads

  pub step-free : (dead : Cell → Bool) (c p : Cell) → IsFirstTight field start floor dead c 8 (Some p) → IsFree field start floor p
  step-free dead c p (which, lt, t, first) = let m = move-of field start c p which t.leads in
      record { on = neighbour-on field.size c p which m.leads; free = m.free }

  pub dead-more : (dead next : Cell → Bool) (c : Cell) → c ≢ start → ((v : Cell) → v ≢ c → next v ≡ dead v) → AreDead field start floor dead
      → IsFirstTight field start floor dead c 8 None → AreDead field start floor next
  dead-more dead next c other elsewhere are_dead none =
      λ v h t.
      ⊎_elim
      (λ (e : v ≡ c). not_tight (subst (λ (u : Cell). IsTight field start floor u) e t))
      (λ (e : v ≢ c). are_dead v (sym (elsewhere v e) ∙ h) t)
      (same_or_not v c)
    where
      not_tight : IsTight field start floor c → ⊥
      not_tight t =
          ⊎_elim
          other
          (λ (l : (p : Cell) × LeadsTo field start p c (floor c)).
          let leads = l.1 in
          let back = neighbour-back field.size l.0 c leads.step.which (walk-on field start start_on leads.reached.walk) leads.step.leads in
          let own = leads-tight l.0 c leads in
          let is_dead = none back.way_back l.0 (neighbour-below_eight field.size c l.0 back.way_back back.leads)
          (leads-tight_step l.0 c back.way_back leads back.leads) own in
          are_dead l.0 is_dead own)
          (last_step field start (λ v. None) start_on c (floor c) t)

  pub at-begins : (end : Cell) (dead : Cell → Bool) → ((c : Cell) → dead c ≡ false) → IsFree field start floor end → IsAt field start floor end [] dead end
  at-begins end dead none f = record { chain = begin; frees = no_more; free = f; are_dead = λ c h t. true≢false (sym h ∙ none c) }

  pub at-further : (end : Cell) (trail : List Cell) (dead : Cell → Bool) (at from : Cell) → at ≢ start → IsAt field start floor end trail dead at →
      IsFirstTight field start floor dead at 8 (Some from) → IsAt field start floor end (trail ++ at ∷ []) dead from
  at-further end trail dead at from other a first =
      record {
        chain = more a.chain (link-of dead at from other a.free.on a.free.free a.are_dead first);
        frees = one_more a.frees a.free;
        free =
            step-free dead at from first;
        are_dead = a.are_dead;
      }

  pub at-back : (end : Cell) (trail rest : List Cell) (dead next : Cell → Bool) (at last : Cell) → at ≢ start → ((v : Cell) → v ≢ at → next v ≡ dead v)
      → IsAt field start floor end trail dead at → IsFirstTight field start floor dead at 8 None → trail ≡ rest ++ last ∷ [] →
      IsAt field start floor end rest next last
  at-back end trail rest dead next at last other elsewhere a none e =
      let (frees, free) = free-last rest trail last a.frees e in
      record {
        chain = chain-pop end rest trail last at a.chain e;
        frees = frees;
        free = free;
        are_dead = dead-more dead next at other elsewhere a.are_dead none;
      }

  -- ---- the end

  pub tight-end : (goal : Cell) (near : ℕ) (ends : List Cell) (best : Reached) → AreEnds field start goal near ends
      → IsBest (floor_cost floor) goal (Contains ends) best → Contains ends best.cell →
      IsTight field start floor best.cell → IsEnd field start goal best.cell (floor best.cell)
  tight-end goal near ends best a b among tight = record { reached = tight; least = λ c n h. compared c n h (cases_lt near (octile c goal)) }
    where
      e : Cell
      e = best.cell

      best_near : octile e goal ≡ near
      best_near = a.as_near e among

      both : Some (floor e) ≡ Some best.cost
      both = b.reached

      cost_is : floor e ≡ best.cost
      cost_is = cc

      tied : (c : Cell) (n : ℕ) → IsCost field start c n → octile c goal ≡ octile e goal → (floor c < n) ⊎ (n ≤ floor c)
          → is_before (end_key goal c n) (end_key goal e (floor e)) ≡ false
      tied c n h same (inl lt) =
          let first = same_first (octile c goal) (octile e goal) (floor c ∷ c.z ∷ c.x ∷ []) (best.cost ∷ e.z ∷ e.x ∷ []) same in
          let low = first_of_not_before (floor c) best.cost (c.z ∷ c.x ∷ []) (e.z ∷ e.x ∷ [])
          (sym first ∙ b.least c (floor c) (a.all c n h.walk (same ∙ best_near)) refl) in
          same_first (octile c goal) (octile e goal) (n ∷ c.z ∷ c.x ∷ []) (floor e ∷ e.z ∷ e.x ∷ []) same ∙ later n (floor e) (c.z ∷ c.x ∷ []) (e.z ∷ e.x ∷ [])
          (omega (arith, low, cost_is))
      tied c n h same (inr le) =
          let equal : floor c ≡ n = omega (arith, walk-far h.walk) in
          let known = b.least c (floor c) (a.all c n h.walk (same ∙ best_near)) refl in
          subst (λ (m : ℕ). is_before (end_key goal c m) (end_key goal e (floor e)) ≡ false) equal
          (subst (λ (m : ℕ). is_before (end_key goal c (floor c)) (end_key goal e m) ≡ false) (sym cost_is) known)

      compared : (c : Cell) (n : ℕ) → IsCost field start c n → (near < octile c goal) ⊎ (octile c goal ≤ near)
          → is_before (end_key goal c n) (end_key goal e (floor e)) ≡ false
      compared c n h (inl lt) = later (octile c goal) (octile e goal) (n ∷ c.z ∷ c.x ∷ []) (floor e ∷ e.z ∷ e.x ∷ []) (omega (arith, best_near))
      compared c n h (inr le) = tied c n h (omega (arith, best_near, a.away c n h.walk)) (cases_lt (floor c) n)

-- No shortest way leads to a cell that is not live.

falls-by : (whole a b n k : ℕ) → n + k ≤ whole - 2 * b → whole - 2 * a ≤ n → 2 * a ≤ k + 2 * b → 10 ≤ k → 2 * b + k ≡ 2 * a
falls-by whole a b n k e f g h = omega arith

some-step : (k which : ℕ) → k ≡ step_cost which → 10 ≤ k
some-step k which e = omega (arith, e, least_step which)

not-true : (b : Bool) → not b ≡ true → b ≡ true → ⊥
not-true b e f = true≢false (sym e ∙ ap not f)

module _ (field : Field) (start : Cell) (s : Slope) (start_on : IsOnGround field.size start) (is : IsSlope field start s) (live : Cell → Bool)
    (are : AreLive field start (number_in s.distances.now) live) where
  is_floor : IsFloor field start (slope_of s)
  is_floor = slope-floor field start s is

  live-walk : {c : Cell} {n : ℕ} → Walk (IsStep field start) start c n → n ≤ slope_of s c → live c ≡ true
  live-walk stay le = are.begins
  live-walk (go {a = a} {b = b} {n = n} {k = k} w step) le =
      let number = number_in s.distances.now in
      let d = direction-of field start a b k step in
      let before = live-walk w (omega (arith, le, is_floor.rises a b k step)) in
      let sum = falls-by s.whole (number a) (number b) n k le (walk-far field start (slope_of s) start_on is_floor w)
      (is.distances.onwards start a b k is.is_open step) (some-step k d.which d.cost_is) in
      are.onwards a before d.which b d.below_eight (record { leads = d.leads; sum = ap (λ (m : ℕ). 2 * number b + m) (sym d.cost_is) ∙ sum })

  pub live-dead : AreDead field start (slope_of s) (λ (c : Cell). not (live c))
  live-dead c h t = not-true (live c) h (live-walk t.walk (omega arith))

-- a walk back begins at an end that may be entered
pub live-begins : (field : Field) (start : Cell) (floor : Cell → ℕ) (end : Cell) (dead : Cell → Bool) → AreDead field start floor dead
    → IsFree field start floor end → IsAt field start floor end [] dead end
live-begins field start floor end dead are_dead free =
    record { chain = begin; frees = no_more; free = free; are_dead = are_dead }

pub alone : (goal c : Cell) → Contains (goal ∷ []) c → goal ≡ c
alone goal c h = ⊎_elim (λ (m : Contains [] c). let (k, lt, e) = m in absurd (omega (arith, lt))) (λ (e : goal ≡ c). e) (Contains-push_cases [] goal c h)

module _ (field : Field) (start goal : Cell) (floor : Cell → ℕ) (start_on : IsOnGround field.size start) (is_floor : IsFloor field start floor)
    (tight : IsTight field start floor goal) where
  ends : AreEnds field start goal 0 (goal ∷ [])
  ends = record {
    away = λ c n w. omega arith;
    all = λ c n w e. subst (Contains (goal ∷ [])) (sym (octile-none c goal e)) (Contains-push [] goal);
    as_near = λ c h. subst (λ (v : Cell). octile v goal ≡ 0) (alone goal c h) (octile-self goal);
    reached = λ c h. subst (IsReached field start) (alone goal c h) (record { cost = floor goal; walk = tight.walk });
    some = (goal, Contains-push [] goal);
  }

  -- a goal that is reached is the end
  pub goal-end : IsEnd field start goal goal (floor goal)
  goal-end =
      let best = best_of-more (floor_cost floor) goal [] goal (floor goal) None refl (best_of-none (floor_cost floor) goal) in
      tight-end field start floor start_on is_floor goal 0 (goal ∷ []) (record { cell = goal; cost = floor goal }) ends best.0 best.1 tight
