-- Why landmarks and distances guide a search: the least costs from an open cell differ along a step by no more than it costs, and so do the
-- rows and numbers.
use Rattle.sim_search.proofs.Common.{abs_diff, Aim, ap, ap₂, AreCosts, arith, Bool, cases_eq, cases_lt, Cell, estimate_to, Field, get_or, get_or-set_other}
use Rattle.sim_search.proofs.Common.{get_or-set_same, go, HasCost, inl, inr, is_free, is_some, is_straight, IsGuide, IsOnGround, IsStep, length}
use Rattle.sim_search.proofs.Common.{length-replicate, List, max, None, Option, refl, replicate, set, Some, stay, subst, suc, sym, true, true≢false, Walk}
use Rattle.sim_search.proofs.Common.{walk-on, zero, ℕ, ◌%◌, ◌&&◌, ◌*◌, ◌+◌, ◌<◌, ◌||◌, ◌∙◌, ◌≡◌, ◌≤◌, ◌⊎◌}
use Rattle.sim_search.{proofs.Moves.{direction-of, estimate-guides, even_step, free-of_walk, free-open, most_step, step_back}, specs.Rows.{alike, apart}}
use Rattle.{sim_search.specs.Rows.{AreDistances, AreLandmarks, between, half_of, number_of, row_with}, std.proofs.lemmas.{List.length-set, Option.same_Some}}

turned-near : (a b k : ℕ) → 2 * abs_diff a b ≤ k → 2 * abs_diff b a ≤ k
turned-near a b k h = omega (arith, h)

some-of : {X : Type 0} (o : Option X) → is_some o ≡ true → (x : X) × (o ≡ Some x)
some-of None h = absurd (true≢false (sym h))
some-of (Some x) h = (x, refl)

-- ---- landmarks with the rows themselves

-- the cell has a row, and no number of it lies further from that of another row than half of this
record IsRowNear (row : Cell → Option (List ℕ)) (c : Cell) (k : ℕ) (other : List ℕ) : Type 0 where
  pub own : List ℕ
  pub is : row c ≡ Some own
  pub near : (i : ℕ) → 2 * abs_diff (get_or own i 0) (get_or other i 0) ≤ k

record AreRows (field : Field) (row : Cell → Option (List ℕ)) : Type 0 where
  pub full : (c : Cell) (own : List ℕ) → row c ≡ Some own → length own ≡ 8
  pub onwards : (start a b : Cell) (k : ℕ) (own : List ℕ) → field.is_open start ≡ true → IsStep field start a b k → row a ≡ Some own → IsRowNear row b k own
  pub back : (start a b : Cell) (k : ℕ) (own : List ℕ) → field.is_open start ≡ true → IsOnGround field.size a → field.is_open a ≡ true
      → IsStep field start a b k → row b ≡ Some own → IsRowNear row a k own

rows-of : (field : Field) (row : Cell → Option (List ℕ)) → AreLandmarks field row → AreRows field row
rows-of field row known =
    record {
      full = known.full;
      onwards = λ start a b k own opened s e.
          let (q, f) = some-of (row b) (known.onwards start a b k opened s (ap is_some e)) in
          record { own = q; is = f; near = λ i. turned-near (get_or own i 0) (get_or q i 0) k (known.near start a b k own q opened s e f i) };
      back = λ start a b k own opened on free s e.
          let (p, f) = some-of (row a) (known.back start a b k opened on free s (ap is_some e)) in
          record { own = p; is = f; near = λ i. known.near start a b k p own opened s f e i };
    }

of-rows : (field : Field) (row : Cell → Option (List ℕ)) → AreRows field row → AreLandmarks field row
of-rows field row x =
    record {
      full = x.full;
      onwards = λ start a b k opened s h. let (p, e) = some-of (row a) h in ap is_some (x.onwards start a b k p opened s e).is;
      back = λ start a b k opened on free s h. let (q, e) = some-of (row b) h in ap is_some (x.back start a b k q opened on free s e).is;
      near = λ start a b k p q opened s e f i.
          let n = x.onwards start a b k p opened s e in
          let same : n.own ≡ q = same_Some _ _ (sym n.is ∙ f) in
          subst (λ (xs : List ℕ). 2 * abs_diff (get_or p i 0) (get_or xs i 0) ≤ k) same (turned-near (get_or n.own i 0) (get_or p i 0) k (n.near i));
    }

-- ---- each cell to which a walk leads has a cost that is no higher

module _ (field : Field) (mark : Cell) (cost : Cell → Option ℕ) (known : AreCosts field mark cost) where
  none-walks : (c : Cell) → cost c ≡ None → (bound n : ℕ) → n < bound → Walk (IsStep field mark) mark c n → ⊥
  none-walks c e zero n lt w = absurd (omega (arith, lt))
  none-walks c e (suc bound) n lt w =
      let below = λ (m : ℕ) (less : m < bound) (v : Walk (IsStep field mark) mark c m). none-walks c e bound m less v in
      let is : cost c ≡ Some n = known.all c n (record { walk = w; least = λ m v. least below m v (cases_lt m n) }) in
      let both : None ≡ Some n = sym e ∙ is in
      cc
    where
      least : ((m : ℕ) → m < bound → Walk (IsStep field mark) mark c m → ⊥) → (m : ℕ) → Walk (IsStep field mark) mark c m → (m < n) ⊎ (n ≤ m) → n ≤ m
      least below m v (inl less) = absurd (below m (omega (arith, lt, less)) v)
      least below m v (inr le) = le

  found : (c : Cell) (n : ℕ) → Walk (IsStep field mark) mark c n → HasCost cost c n
  found c n w = by (cost c) refl
    where
      by : (o : Option ℕ) → cost c ≡ o → HasCost cost c n
      by None e = absurd (none-walks c e (suc n) n (omega arith) w)
      by (Some d) e = record { value = d; is = e; low = (known.least c d e).least n w }

  -- ---- costs along a step

  -- a cell has a cost that differs from another by no more than this
  record IsCostNear (c : Cell) (k other : ℕ) : Type 0 where
    pub own : ℕ
    pub is : cost c ≡ Some own
    pub least : other ≤ own + k
    pub most : own ≤ other + k

  module _ (mark_on : IsOnGround field.size mark) (mark_open : field.is_open mark ≡ true) where
    -- where the start of a search is open, its steps are those of a walk from the landmark
    same-step : (start a b : Cell) (k : ℕ) → field.is_open start ≡ true → IsStep field start a b k → IsStep field mark a b k
    same-step start a b k opened s =
        record {
          which = s.which;
          leads = s.leads;
          free = same b ∙ s.free;
          beside = ap (λ (t : Bool). is_straight s.which || t)
              (ap₂ (λ (p q : Bool). p && q) (same (record { x = a.x; z = b.z })) (same (record { x = b.x; z = a.z }))) ∙ s.beside;
          cost_is = s.cost_is;
        }
      where
        same : (c : Cell) → is_free field mark c ≡ is_free field start c
        same c = free-open field mark mark_open c ∙ sym (free-open field start opened c)

    step-even : (a b : Cell) (k : ℕ) → IsStep field mark a b k → k % 2 ≡ 0
    step-even a b k s = omega (arith, s.cost_is, even_step s.which)

    -- a step back from an open cell's neighbour
    turned-step : (a b : Cell) (k : ℕ) → IsOnGround field.size a → is_free field mark a ≡ true → IsStep field mark a b k → IsStep field mark b a k
    turned-step a b k on free s =
        let d = direction-of field mark a b k s in
        subst (λ (n : ℕ). IsStep field mark b a n) (sym d.cost_is) (step_back field mark a b d.which on free d.leads)

    cost-onwards : (a b : Cell) (k d : ℕ) → IsStep field mark a b k → cost a ≡ Some d → IsCostNear b k d
    cost-onwards a b k d s e =
        let w = (known.least a d e).walk in
        let f = found b (d + k) (go w s) in
        let back = go (known.least b f.value f.is).walk (turned-step a b k (walk-on field mark mark_on w) (free-of_walk field mark w) s) in
        record { own = f.value; is = f.is; least = (known.least a d e).least (f.value + k) back; most = f.low }

    cost-back : (a b : Cell) (k d : ℕ) → IsOnGround field.size a → field.is_open a ≡ true → IsStep field mark a b k → cost b ≡ Some d → IsCostNear a k d
    cost-back a b k d on opened s e =
        let f = found a (d + k) (go (known.least b d e).walk (turned-step a b k on (free-open field mark mark_open a ∙ opened) s)) in
        record { own = f.value; is = f.is; least = (known.least b d e).least (f.value + k) (go (known.least a f.value f.is).walk s); most = f.low }

    -- ---- rows along a step

    halves : (d e k : ℕ) → k % 2 ≡ 0 → d ≤ e + k → e ≤ d + k → 2 * abs_diff (half_of e) (half_of d) ≤ k
    halves d e k even f g = omega (arith, even, f, g)

    nothing : (i k : ℕ) → 2 * abs_diff (get_or (replicate 8 0) i 0) (get_or (replicate 8 0) i 0) ≤ k
    nothing i k = omega arith

    -- rows of nothing
    pub alike-landmarks : AreLandmarks field (λ (c : Cell). alike (cost c))
    alike-landmarks = of-rows field (λ (c : Cell). alike (cost c))
        (record {
          full = λ c own e. full (cost c) own e;
          onwards = λ start a b k own opened s e. by_cost (cost a) refl own e b k (λ d f. cost-onwards a b k d (same-step start a b k opened s) f);
          back = λ start a b k own opened on free s e. by_cost (cost b) refl own e a k (λ d f. cost-back a b k d on free (same-step start a b k opened s) f);
        })
      where
        full : (o : Option ℕ) (own : List ℕ) → alike o ≡ Some own → length own ≡ 8
        full None own e = let never : ⊥ = cc in absurd never
        full (Some d) own e = let nothing_in : ℕ = 0 in ap length (sym (same_Some _ _ e)) ∙ length-replicate 8 nothing_in

        by_cost : {v : Cell} (o : Option ℕ) → cost v ≡ o → (own : List ℕ) → alike o ≡ Some own → (c : Cell) (k : ℕ)
            → ((d : ℕ) → cost v ≡ Some d → IsCostNear c k d) → IsRowNear (λ (x : Cell). alike (cost x)) c k own
        by_cost None f own e c k near = let never : ⊥ = cc in absurd never
        by_cost (Some d) f own e c k near =
            let n = near d f in
            record {
              own = replicate 8 0;
              is = ap alike n.is;
              near = λ i. subst (λ (xs : List ℕ). 2 * abs_diff (get_or (replicate 8 0) i 0) (get_or xs i 0) ≤ k) (same_Some _ _ e) (nothing i k);
            }

    -- ---- numbers along a step

    number-near : (d e k : ℕ) → k % 2 ≡ 0 → d ≤ e + k → 2 * half_of d ≤ k + 2 * half_of e
    number-near d e k even f = omega (arith, even, f)

    number-onwards : (a b : Cell) (k : ℕ) → IsStep field mark a b k → (o : Option ℕ) → cost a ≡ o → 2 * number_of o ≤ k + 2 * number_of (cost b)
    number-onwards a b k s None e = omega arith
    number-onwards a b k s (Some d) e =
        let n = cost-onwards a b k d s e in
        subst (λ (o : Option ℕ). 2 * half_of d ≤ k + 2 * number_of o) (sym n.is) (number-near d n.own k (step-even a b k s) n.least)

    number-back : (a b : Cell) (k : ℕ) → IsOnGround field.size a → field.is_open a ≡ true → IsStep field mark a b k → (o : Option ℕ) → cost b ≡ o
        → 2 * number_of o ≤ k + 2 * number_of (cost a)
    number-back a b k on free s None e = omega arith
    number-back a b k on free s (Some d) e =
        let n = cost-back a b k d on free s e in
        subst (λ (o : Option ℕ). 2 * half_of d ≤ k + 2 * number_of o) (sym n.is) (number-near d n.own k (step-even a b k s) n.least)

    -- the goal itself costs nothing
    pub nothing-here : cost mark ≡ Some 0
    nothing-here = known.all mark 0 (record { walk = stay; least = λ m v. omega arith })

    -- the costs of walks from a goal are the distances to it
    pub numbers-distances : AreDistances field mark (λ (c : Cell). number_of (cost c))
    numbers-distances =
        record {
          here = ap number_of nothing-here;
          onwards = λ start a b k opened s. number-onwards a b k (same-step start a b k opened s) (cost a) refl;
          back = λ start a b k opened on free s. number-back a b k on free (same-step start a b k opened s) (cost b) refl;
        }

    -- one number of each row is set
    module _ (row : Cell → Option (List ℕ)) (which : ℕ) (below : which < 8) (known_rows : AreLandmarks field row) where
      old : AreRows field row
      old = rows-of field row known_rows

      abbrev pub new : Cell → Option (List ℕ)
      new c = row_with which (row c) (cost c)

      -- a row that was set
      record IsRowSet (c : Cell) (own : List ℕ) : Type 0 where
        pub before : List ℕ
        pub before_is : row c ≡ Some before
        pub value : ℕ
        pub value_is : cost c ≡ Some value
        pub own_is : own ≡ set before which (half_of value)

      row-set : (c : Cell) (own : List ℕ) → new c ≡ Some own → IsRowSet c own
      row-set c own e = by (row c) (cost c) refl refl e
        where
          by : (r : Option (List ℕ)) (o : Option ℕ) → row c ≡ r → cost c ≡ o → row_with which r o ≡ Some own → IsRowSet c own
          by None o f g h = let never : ⊥ = cc in absurd never
          by (Some p) None f g h = let never : ⊥ = cc in absurd never
          by (Some p) (Some d) f g h = record { before = p; before_is = f; value = d; value_is = g; own_is = sym (same_Some _ _ h) }

      near-at : (p q : List ℕ) (d e k i : ℕ) → length p ≡ 8 → length q ≡ 8 → 2 * abs_diff (half_of d) (half_of e) ≤ k
          → 2 * abs_diff (get_or p i 0) (get_or q i 0) ≤ k → (i ≡ which) ⊎ (i ≡ which → ⊥)
          → 2 * abs_diff (get_or (set p which (half_of d)) i 0) (get_or (set q which (half_of e)) i 0) ≤ k
      near-at p q d e k i f g h l (inl same) =
          subst (λ (j : ℕ). 2 * abs_diff (get_or (set p which (half_of d)) j 0) (get_or (set q which (half_of e)) j 0) ≤ k) (sym same)
          (rw (get_or-set_same p which (half_of d) 0 (omega (arith, below, f)), get_or-set_same q which (half_of e) 0 (omega (arith, below, g))) h)
      near-at p q d e k i f g h l (inr other) =
          rw (get_or-set_other p which i (half_of d) 0 other, get_or-set_other q which i (half_of e) 0 other) l

      -- the row of a cell whose old row and cost are near
      row-near : (v c : Cell) (k : ℕ) (own : List ℕ) (s : IsRowSet v own) → k % 2 ≡ 0 → IsRowNear row c k s.before → IsCostNear c k s.value
          → IsRowNear new c k own
      row-near v c k own s even r n =
          record {
            own = set r.own which (half_of n.own);
            is = ap₂ (λ (a : Option (List ℕ)) (b : Option ℕ). row_with which a b) r.is n.is;
            near = λ i. subst (λ (xs : List ℕ). 2 * abs_diff (get_or (set r.own which (half_of n.own)) i 0) (get_or xs i 0) ≤ k) (sym s.own_is)
                (near-at r.own s.before n.own s.value k i (old.full c r.own r.is) (old.full v s.before s.before_is)
                (halves s.value n.own k even n.least n.most) (r.near i) (cases_eq i which));
          }

      pub set-landmarks : AreLandmarks field new
      set-landmarks = of-rows field new
          (record {
            full = λ c own e. let s = row-set c own e in ap length s.own_is ∙ length-set s.before which (half_of s.value) ∙ old.full c s.before s.before_is;
            onwards = λ start a b k own opened step e.
                let s = row-set a own e in
                let m = same-step start a b k opened step in
                row-near a b k own s (step-even a b k m) (old.onwards start a b k s.before opened step s.before_is) (cost-onwards a b k s.value m s.value_is);
            back = λ start a b k own opened on free step e.
                let s = row-set b own e in
                let m = same-step start a b k opened step in
                row-near b a k own s (step-even a b k m) (old.back start a b k s.before opened on free step s.before_is)
                (cost-back a b k s.value on free m s.value_is);
          })

-- rows that are the same are landmarks too
pub same-landmarks : (field : Field) (row same : Cell → Option (List ℕ)) → ((c : Cell) → same c ≡ row c) → AreLandmarks field row → AreLandmarks field same
same-landmarks field row same e known =
    record {
      full = λ c own f. known.full c own (sym (e c) ∙ f);
      onwards = λ start a b k opened s h. ap is_some (e b) ∙ known.onwards start a b k opened s (ap is_some (sym (e a)) ∙ h);
      back = λ start a b k opened on free s h. ap is_some (e a) ∙ known.back start a b k opened on free s (ap is_some (sym (e b)) ∙ h);
      near = λ start a b k p q opened s f g i. known.near start a b k p q opened s (sym (e a) ∙ f) (sym (e b) ∙ g) i;
    }

-- ---- the estimate

apart-falls : (n : ℕ) (a b g : List ℕ) (k : ℕ) → ((i : ℕ) → 2 * abs_diff (get_or b i 0) (get_or a i 0) ≤ k) → 2 * apart n a g ≤ k + 2 * apart n b g
apart-falls zero a b g k near = omega arith
apart-falls (suc n) a b g k near = wider (apart n a g) (apart n b g) (get_or a n 0) (get_or b n 0) (get_or g n 0) (apart-falls n a b g k near) (near n)
  where
    wider : (p q x y z : ℕ) → 2 * p ≤ k + 2 * q → 2 * abs_diff y x ≤ k → 2 * max p (abs_diff x z) ≤ k + 2 * max q (abs_diff y z)
    wider p q x y z f h = omega (arith, f, h)

apart-self : (n : ℕ) (a : List ℕ) → apart n a a ≡ 0
apart-self zero a = refl
apart-self (suc n) a = none (apart n a a) (get_or a n 0) (apart-self n a)
  where
    none : (p x : ℕ) → p ≡ 0 → max p (abs_diff x x) ≡ 0
    none p x e = omega (arith, e)

-- no walk leads from a cell to itself and costs anything
pub between-self : (row : Option (List ℕ)) → between row row ≡ 0
between-self None = refl
between-self (Some a) = ap (λ (n : ℕ). 2 * n) (apart-self 8 a)

module _ (field : Field) (row : Cell → Option (List ℕ)) (aim : Aim) (own : Option (List ℕ)) (start : Cell) (start_on : IsOnGround field.size start)
    (start_open : field.is_open start ≡ true) (landmarks : AreLandmarks field row) where
  known : AreRows field row
  known = rows-of field row landmarks

  rows-near : (a b : List ℕ) (k : ℕ) (o : Option (List ℕ)) → ((i : ℕ) → 2 * abs_diff (get_or b i 0) (get_or a i 0) ≤ k)
      → between (Some a) o ≤ k + between (Some b) o
  rows-near a b k None near = omega arith
  rows-near a b k (Some g) near = apart-falls 8 a b g k near

  between-falls : (a b : Cell) (k : ℕ) → IsStep field start a b k → between (row a) own ≤ k + between (row b) own
  between-falls a b k s = by (row a) refl
    where
      by : (o : Option (List ℕ)) → row a ≡ o → between o own ≤ k + between (row b) own
      by None e = omega arith
      by (Some p) e =
          let n = known.onwards start a b k p start_open s e in
          subst (λ (o : Option (List ℕ)). between (Some p) own ≤ k + between o own) (sym n.is) (rows-near p n.own k own n.near)

  between-rises : (a b : Cell) (k n : ℕ) → Walk (IsStep field start) start a n → IsStep field start a b k → between (row b) own ≤ k + between (row a) own
  between-rises a b k n w s = by (row b) refl
    where
      by : (o : Option (List ℕ)) → row b ≡ o → between o own ≤ k + between (row a) own
      by None e = omega arith
      by (Some p) e =
          let opened = sym (free-open field start start_open a) ∙ free-of_walk field start w in
          let r = known.back start a b k p start_open (walk-on field start start_on w) opened s e in
          subst (λ (o : Option (List ℕ)). between (Some p) own ≤ k + between o own) (sym r.is) (rows-near p r.own k own r.near)

  between-even : (a b : Option (List ℕ)) → between a b % 2 ≡ 0
  between-even None b = refl
  between-even (Some p) None = refl
  between-even (Some p) (Some q) = twice (apart 8 p q)
    where
      twice : (n : ℕ) → 2 * n % 2 ≡ 0
      twice n = omega arith

  greater-even : (p q : ℕ) → p % 2 ≡ 0 → q % 2 ≡ 0 → max p q % 2 ≡ 0
  greater-even p q f g = omega (arith, f, g)

  greater-falls : (p q u v k : ℕ) → p ≤ k + u → q ≤ k + v → max p q ≤ k + max u v
  greater-falls p q u v k f g = omega (arith, f, g)

  greater-rises : (p q u v k : ℕ) → k ≤ 14 → k + p + 1 ≤ u + 32 → q ≤ k + v → k + max p q + 1 ≤ max u v + 32
  greater-rises p q u v k m f g = omega (arith, m, f, g)

  step-most : (a b : Cell) (k : ℕ) → IsStep field start a b k → k ≤ 14
  step-most a b k s = omega (arith, s.cost_is, most_step s.which)

  pub landmarks-guide : IsGuide field start (λ (c : Cell). max (estimate_to aim c) (between (row c) own))
  landmarks-guide =
      let octile = estimate-guides aim field start in
      record {
        falls = record {
          falls = λ a b k s. greater-falls (estimate_to aim a) (between (row a) own) (estimate_to aim b) (between (row b) own) k (octile.falls.falls a b k s)
              (between-falls a b k s);
        };
        rises = λ a b k n w s. greater-rises (estimate_to aim b) (between (row b) own) (estimate_to aim a) (between (row a) own) k (step-most a b k s)
            (octile.rises a b k n w s) (between-rises a b k n w s);
        even = λ c. greater-even (estimate_to aim c) (between (row c) own) (octile.even c) (between-even (row c) own);
      }

-- ---- distances

-- numbers that are the same are distances too
pub same-distances : (field : Field) (goal : Cell) (number same : Cell → ℕ) → ((c : Cell) → same c ≡ number c) → AreDistances field goal number
    → AreDistances field goal same
same-distances field goal number same e known =
    record {
      here = e goal ∙ known.here;
      onwards = λ start a b k opened s. omega (arith, e a, e b, known.onwards start a b k opened s);
      back = λ start a b k opened on free s. omega (arith, e a, e b, known.back start a b k opened on free s);
    }

-- twice the distances guide a search from an open cell
pub distances-guide : (field : Field) (goal : Cell) (number : Cell → ℕ) (start : Cell) → IsOnGround field.size start → field.is_open start ≡ true
    → AreDistances field goal number → IsGuide field start (λ (c : Cell). 2 * number c)
distances-guide field goal number start on opened known =
    record {
      falls = record { falls = λ a b k s. known.onwards start a b k opened s };
      rises = λ a b k n w s.
          let free = sym (free-open field start opened a) ∙ free-of_walk field start w in
          omega (arith, known.back start a b k opened (walk-on field start on w) free s, s.cost_is, most_step s.which);
      even = λ c. twice (number c);
    }
  where
    twice : (n : ℕ) → 2 * n % 2 ≡ 0
    twice n = omega arith

-- an estimate that tells nothing guides each search
pub nothing-guides : (field : Field) (start : Cell) → IsGuide field start (λ (c : Cell). 0)
nothing-guides field start =
    record {
      falls = record { falls = λ a b k s. omega arith };
      rises = λ a b k n w s. omega (arith, s.cost_is, most_step s.which);
      even = λ c. omega arith;
    }
