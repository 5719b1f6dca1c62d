-- Regions: cells are joined both ways, labels tell which are, and so which cells a walk reaches.
use Rattle.{sim_grid.proofs.Beside.same_or_not, sim_laws.proofs.Neighbours.past_eight}
use Rattle.sim_search.proofs.Common.{alone, and_parts, ap, AreLabels, arith, back, beside, beside_open, Bool, cases_Bool, Cell, cell_at, cell_at-is}
use Rattle.sim_search.proofs.Common.{cell_at-some, Contains, false, Field, forward, go, HasShoreLabel, inl, inr, ints, is_free, is_straight, IsJoined, IsLabel}
use Rattle.sim_search.proofs.Common.{IsOnGround, IsOpenStep, IsReached, IsShore, IsStep, itself, LabelsTell, level, List, lt-ltb, ltb-true, neighbour}
use Rattle.sim_search.proofs.Common.{neighbour-back, neighbour-on, NoLabelIsClosed, None, on, Option, place_of, pos, refl, same_by_parts, same_cell}
use Rattle.sim_search.proofs.Common.{same_cell-true, same_from_place, Size, Some, stay, step_cost, subst, suc, sym, true, true≢false, Walk, walk-on, zero, ℕ, ℤ}
use Rattle.sim_search.{proofs.Common.{◌+ℤ◌, ◌+◌, ◌<◌, ◌||◌, ◌∙◌, ◌≡◌, ◌≢◌, ◌≤◌, ◌⊎◌}, specs.Floods.{AreJoined, IsBeside, IsMore, IsNotFirst, IsRim}}

pub place-same : (size : Size) (c e : Cell) → IsOnGround size c → IsOnGround size e → place_of size c ≡ place_of size e → c ≡ e
place-same size c e f g h = let parts = same_from_place c.z c.x e.z e.x size.width f.east g.east h in same_by_parts c e parts.1 parts.0

module _ (field : Field) where
  pub joined-on : {a b : Cell} → IsJoined field a b → IsOnGround field.size b
  joined-on (alone h e) = h
  joined-on (on {b = b} {c = c} j s) = neighbour-on field.size b c s.which s.leads

  pub joined-open : {a b : Cell} → IsJoined field a b → field.is_open b ≡ true
  joined-open (alone h e) = e
  joined-open (on j s) = s.free

  pub from-on : {a b : Cell} → IsJoined field a b → IsOnGround field.size a
  from-on (alone h e) = h
  from-on (on j s) = from-on j

  pub from-open : {a b : Cell} → IsJoined field a b → field.is_open a ≡ true
  from-open (alone h e) = e
  from-open (on j s) = from-open j

  pub step-turned : (a b : Cell) → IsOnGround field.size a → field.is_open a ≡ true → IsOpenStep field a b → IsOpenStep field b a
  step-turned a b h e s =
      let r = neighbour-back field.size a b s.which h s.leads in
      record { which = r.way_back; straight = ltb-true r.way_back 4 (r.as_straight ∙ lt-ltb s.which 4 s.straight); leads = r.leads; free = e }

  pub joined-chain : {a b c : Cell} → IsJoined field a b → IsJoined field b c → IsJoined field a c
  joined-chain i (alone h e) = i
  joined-chain i (on j s) = on (joined-chain i j) s

  pub joined-turned : {a b : Cell} → IsJoined field a b → IsJoined field b a
  joined-turned (alone h e) = alone h e
  joined-turned (on {b = b} {c = c} j s) =
      joined-chain (on (alone (neighbour-on field.size b c s.which s.leads) s.free) (step-turned b c (joined-on j) (joined-open j) s)) (joined-turned j)

  -- ---- labels

  pub label-one : (a c : Cell) (l m : ℕ) → IsLabel field a l → IsLabel field c m → IsJoined field a c → l ≡ m
  label-one a c l m x y j =
      omega (arith, x.least y.first (joined-chain j y.joined), y.place, y.least x.first (joined-chain (joined-turned j) x.joined), x.place)

  pub label-shared : (a c : Cell) (l : ℕ) → IsLabel field a l → IsLabel field c l → IsJoined field a c
  label-shared a c l x y =
      let same : x.first ≡ y.first = place-same field.size x.first y.first (joined-on x.joined) (joined-on y.joined) (x.place ∙ sym y.place) in
      joined-chain (subst (λ (v : Cell). IsJoined field a v) same x.joined) (joined-turned y.joined)

  module _ (label : Cell → Option ℕ) (known : AreLabels field label) where
    pub label-joined : (a c : Cell) (l : ℕ) → label a ≡ Some l → IsJoined field a c → label c ≡ Some l
    label-joined a c l e j =
        let (m, f) = known.all c (joined-on j) (joined-open j) in
        let same : l ≡ m = label-one a c l m (known.sound a l e) (known.sound c m f) j in
        f ∙ ap Some (sym same)

-- ---- a diagonal step goes round a corner

pub record IsCorner (size : Size) (a b : Cell) : Type 0 where
  pub first : ℕ
  pub last : ℕ
  pub first_straight : first < 4
  pub last_straight : last < 4
  pub to_corner : neighbour size a first ≡ Some (record { x = a.x; z = b.z })
  pub from_corner : neighbour size (record { x = a.x; z = b.z }) last ≡ Some b

corner-in : (size : Size) (a b : Cell) (x z : ℤ) → IsOnGround size a → cell_at size (pos a.x +ℤ x) (pos a.z +ℤ z) ≡ Some b
    → cell_at size (pos a.x +ℤ level) (pos a.z +ℤ z) ≡ Some (record { x = a.x; z = b.z })
corner-in size a b x z h e =
    let p = cell_at-some size (pos a.x +ℤ x) (pos a.z +ℤ z) b e in
    cell_at-is size (pos a.x +ℤ level) (pos a.z +ℤ z) (record { x = a.x; z = b.z })
    (record { on = record { east = h.east; north = p.on.north }; by_x = omega (arith, ints); by_z = p.by_z })

corner-out : (size : Size) (a b : Cell) (x z : ℤ) → cell_at size (pos a.x +ℤ x) (pos a.z +ℤ z) ≡ Some b → cell_at size (pos a.x +ℤ x) (pos b.z +ℤ level) ≡
    Some b
corner-out size a b x z e =
    let p = cell_at-some size (pos a.x +ℤ x) (pos a.z +ℤ z) b e in
    cell_at-is size (pos a.x +ℤ x) (pos b.z +ℤ level) b (record { on = p.on; by_x = p.by_x; by_z = omega (arith, ints) })

corner : (size : Size) (a b : Cell) (which : ℕ) → IsOnGround size a → neighbour size a which ≡ Some b → is_straight which ≡ false → IsCorner size a b
corner size a b zero h e f = absurd (true≢false f)
corner size a b (suc zero) h e f = absurd (true≢false f)
corner size a b (suc (suc zero)) h e f = absurd (true≢false f)
corner size a b (suc (suc (suc zero))) h e f = absurd (true≢false f)
corner size a b (suc (suc (suc (suc zero)))) h e f =
    record {
      first = 1;
      last = 0;
      first_straight = omega arith;
      last_straight = omega arith;
      to_corner = corner-in size a b forward forward h e;
      from_corner =
          corner-out size a b forward forward e;
    }
corner size a b (suc (suc (suc (suc (suc zero))))) h e f =
    record {
      first = 1;
      last = 2;
      first_straight = omega arith;
      last_straight = omega arith;
      to_corner = corner-in size a b back forward h e;
      from_corner =
          corner-out size a b back forward e;
    }
corner size a b (suc (suc (suc (suc (suc (suc zero)))))) h e f =
    record {
      first = 3;
      last = 2;
      first_straight = omega arith;
      last_straight = omega arith;
      to_corner = corner-in size a b back back h e;
      from_corner =
          corner-out size a b back back e;
    }
corner size a b (suc (suc (suc (suc (suc (suc (suc zero))))))) h e f =
    record {
      first = 3;
      last = 0;
      first_straight = omega arith;
      last_straight = omega arith;
      to_corner = corner-in size a b forward back h e;
      from_corner =
          corner-out size a b forward back e;
    }
corner size a b (suc (suc (suc (suc (suc (suc (suc (suc w)))))))) h e f = absurd (past_eight size a b w e)

-- ---- which cells a walk reaches

module _ (field : Field) (start : Cell) (start_on : IsOnGround field.size start) where
  free-open : (c : Cell) → c ≢ start → is_free field start c ≡ true → field.is_open c ≡ true
  free-open c other e = by (cases_Bool (same_cell c start))
    where
      by : (same_cell c start ≡ true) ⊎ (same_cell c start ≡ false) → field.is_open c ≡ true
      by (inl f) = absurd (other (same_cell-true c start f))
      by (inr f) = ap (λ (b : Bool). b || field.is_open c) (sym f) ∙ e

  open-free : (c : Cell) → field.is_open c ≡ true → is_free field start c ≡ true
  open-free c e = by (same_cell c start)
    where
      by : (b : Bool) → (b || field.is_open c) ≡ true
      by true = refl
      by false = e

  -- the cell is joined to an open cell that is the start or lies beside it
  pub record IsAshore (c : Cell) : Type 0 where
    pub shore : Cell
    pub is_shore : IsShore field start shore
    pub joined : IsJoined field shore c

  landed : (c : Cell) (which : ℕ) → which < 4 → neighbour field.size start which ≡ Some c → field.is_open c ≡ true → IsAshore c
  landed c which lt e f = record { shore = c; is_shore = beside which lt e; joined = alone (neighbour-on field.size start c which e) f }

  go-on : (b c : Cell) (which : ℕ) → which < 4 → neighbour field.size b which ≡ Some c → field.is_open c ≡ true → (b ≡ start) ⊎ IsAshore b → IsAshore c
  go-on b c which lt e f (inl same) = landed c which lt (subst (λ (v : Cell). neighbour field.size v which ≡ Some c) same e) f
  go-on b c which lt e f (inr a) =
      record { shore = a.shore; is_shore = a.is_shore; joined = on a.joined (record { which = which; straight = lt; leads = e; free = f }) }

  pub ashore : {c : Cell} {n : ℕ} → Walk (IsStep field start) start c n → (c ≡ start) ⊎ IsAshore c
  ashore stay = inl refl
  ashore (go {a = b} {b = c} {n = n} {k = k} w s) = by (same_or_not c start) (ashore w)
    where
      around : field.is_open c ≡ true → (b ≡ start) ⊎ IsAshore b → (is_straight s.which ≡ true) ⊎ (is_straight s.which ≡ false) → IsAshore c
      around f h (inl straight) = go-on b c s.which (ltb-true s.which 4 straight) s.leads f h
      around f h (inr across) = round (same_or_not corner_cell start)
        where
          way_round : IsCorner field.size b c
          way_round = corner field.size b c s.which (walk-on field start start_on w) s.leads across

          corner_cell : Cell
          corner_cell = record { x = b.x; z = c.z }

          free : is_free field start corner_cell ≡ true
          free = (and_parts (is_free field start (record { x = b.x; z = c.z })) (is_free field start (record { x = c.x; z = b.z }))
              (ap (λ (t : Bool). t || beside_open (is_free field start) b c) (sym across) ∙ s.beside)).0

          round : (corner_cell ≡ start) ⊎ (corner_cell ≢ start) → IsAshore c
          round (inl e) = landed c way_round.last way_round.last_straight
              (subst (λ (v : Cell). neighbour field.size v way_round.last ≡ Some c) e way_round.from_corner) f
          round (inr e) = go-on corner_cell c way_round.last way_round.last_straight way_round.from_corner f
              (inr (go-on b corner_cell way_round.first way_round.first_straight way_round.to_corner (free-open corner_cell e free) h))

      by : (c ≡ start) ⊎ (c ≢ start) → (b ≡ start) ⊎ IsAshore b → (c ≡ start) ⊎ IsAshore c
      by (inl e) h = inl e
      by (inr e) h = inr (around (free-open c e s.free) h (cases_Bool (is_straight s.which)))

  straight-step : (a b : Cell) (which : ℕ) → which < 4 → neighbour field.size a which ≡ Some b → field.is_open b ≡ true
      → IsStep field start a b (step_cost which)
  straight-step a b which lt e f =
      record {
        which = which;
        leads = e;
        free = open-free b f;
        beside = ap (λ (t : Bool). t || beside_open (is_free field start) a b) (lt-ltb which 4 lt);
        cost_is =
            refl;
      }

  shore-reached : {a : Cell} → IsShore field start a → field.is_open a ≡ true → IsReached field start a
  shore-reached itself e = record { cost = 0; walk = stay }
  shore-reached (beside {c = c} which lt f) e = record { cost = 0 + step_cost which; walk = go stay (straight-step start c which lt f e) }

  pub joined-reached : {a c : Cell} → IsReached field start a → IsJoined field a c → IsReached field start c
  joined-reached r (alone h e) = r
  joined-reached r (on {b = b} {c = c} j s) =
      let before = joined-reached r j in
      record { cost = before.cost + step_cost s.which; walk = go before.walk (straight-step b c s.which s.straight s.leads s.free) }

pub labels-tell : LabelsTell
labels-tell field label start start_on known = record { reached = reached; back = back }
  where
    reached : (c : Cell) → (c ≡ start → ⊥) → IsReached field start c → HasShoreLabel field label start c
    reached c other r = by (ashore field start start_on r.walk)
      where
        by : (c ≡ start) ⊎ IsAshore field start start_on c → HasShoreLabel field label start c
        by (inl e) = absurd (other e)
        by (inr a) =
            let (l, e) = known.all a.shore (from-on field a.joined) (from-open field a.joined) in
            record { shore = a.shore; is_shore = a.is_shore; value = l; of_shore = e; of_cell = label-joined field label known a.shore c l e a.joined }

    back : (c : Cell) → HasShoreLabel field label start c → IsReached field start c
    back c h =
        let own = known.sound h.shore h.value h.of_shore in
        joined-reached field start start_on (shore-reached field start start_on h.is_shore (from-open field own.joined))
        (label-shared field h.shore c h.value own (known.sound c h.value h.of_cell))

pub no_label-closed : NoLabelIsClosed
no_label-closed field label c known on_ground = (closed, none)
  where
    closed : label c ≡ None → field.is_open c ≡ false
    closed e = by (cases_Bool (field.is_open c))
      where
        by : (field.is_open c ≡ true) ⊎ (field.is_open c ≡ false) → field.is_open c ≡ false
        by (inl f) = let (l, is) = known.all c on_ground f in let both : None ≡ Some l = sym e ∙ is in let never : ⊥ = cc in absurd never
        by (inr f) = f

    none : field.is_open c ≡ false → label c ≡ None
    none e = by (label c) refl
      where
        by : (o : Option ℕ) → label c ≡ o → label c ≡ None
        by None f = f
        by (Some l) f = absurd (true≢false (sym (from-open field (known.sound c l f).joined) ∙ e))

-- Why the labels of all other cells stay where some were closed or opened.

-- a ground of this size with these open cells
abbrev pub over : Size → (Cell → Bool) → Field
over size p = record { size = size; is_open = p }

module _ (size : Size) (p q : Cell → Bool) (cells : List Cell) (m : IsMore (over size p) (over size q) cells) where
  step-more : (a b : Cell) → IsOpenStep (over size q) a b → IsOpenStep (over size p) a b
  step-more a b s =
      record { which = s.which; straight = s.straight; leads = s.leads; free = m.keeps b (neighbour-on size a b s.which s.leads) s.free }

  joined-more : {a b : Cell} → IsJoined (over size q) a b → IsJoined (over size p) a b
  joined-more {a} {b} (alone h e) = alone h (m.keeps a h e)
  joined-more (on {b = b} {c = c} j s) = on (joined-more j) (step-more b c s)

  -- ---- cells were closed: the second ground is the new one

  module _ (rim : List Cell) (r : IsRim (over size q) cells rim) (joint : AreJoined (over size q) rim) where
    -- steps over the cells that are still open lead to the rim
    pub record IsOut (a : Cell) : Type 0 where
      pub shore : Cell
      pub on_rim : Contains rim shore
      pub joined : IsJoined (over size q) a shore

    rerouted : {a e : Cell} → q a ≡ true → IsJoined (over size p) a e
        → ((q e ≡ true) × IsJoined (over size q) a e) ⊎ ((q e ≡ false) × IsOut a)
    rerouted is_open (alone h e) = inl (is_open, alone h is_open)
    rerouted {a} is_open (on {b = b} {c = c} j s) = by (rerouted is_open j) (cases_Bool (q c))
      where
        there : IsOnGround size c
        there = neighbour-on size b c s.which s.leads

        step : q c ≡ true → IsOpenStep (over size q) b c
        step e = record { which = s.which; straight = s.straight; leads = s.leads; free = e }

        by : ((q b ≡ true) × IsJoined (over size q) a b) ⊎ ((q b ≡ false) × IsOut a) → (q c ≡ true) ⊎ (q c ≡ false)
            → ((q c ≡ true) × IsJoined (over size q) a c) ⊎ ((q c ≡ false) × IsOut a)
        by (inl (e, i)) (inl f) = inl (f, on i (step f))
        by (inl (e, i)) (inr f) =
            let back = step-turned (over size p) b c (joined-on (over size p) j) (joined-open (over size p) j) s in
            inr (
              f,
              record {
                shore = b;
                on_rim = r.all c b (m.listed c there s.free f) (record { which = back.which; straight = back.straight; leads = back.leads; free = e });
                joined = i;
              },
            )
        by (inr (e, out)) (inl f) =
            let listed = m.listed b (joined-on (over size p) j) (joined-open (over size p) j) e in
            inl (f, joined-chain (over size q) out.joined (joint out.shore c out.on_rim (r.all b c listed (step f))))
        by (inr (e, out)) (inr f) = inr (f, out)

    module _ (label new : Cell → Option ℕ) (known : AreLabels (over size p) label) (none : ((c : Cell) → Contains cells c → IsNotFirst size label c)
        ⊎ ((b : Cell) → Contains rim b → ⊥))
        (here : (c : Cell) → Contains cells c → new c ≡ None) (elsewhere : (c : Cell) → (new c ≡ label c) ⊎ Contains cells c) where
      still_open : (c : Cell) (l : ℕ) → new c ≡ Some l → IsLabel (over size p) c l → q c ≡ true
      still_open c l e own = by (cases_Bool (q c))
        where
          by : (q c ≡ true) ⊎ (q c ≡ false) → q c ≡ true
          by (inl f) = f
          by (inr f) =
              let listed = m.listed c (from-on (over size p) own.joined) (from-open (over size p) own.joined) f in
              let both : None ≡ Some l = sym (here c listed) ∙ e in
              absurd (let never : ⊥ = cc in never)

      label_stays : (c : Cell) (l : ℕ) → label c ≡ Some l → q c ≡ true → IsLabel (over size p) c l → IsLabel (over size q) c l
      label_stays c l e f own = by (rerouted f own.joined)
        where
          never : (first : Cell) → IsOut c → Contains cells first → label first ≡ Some (place_of size first)
              → ((v : Cell) → Contains cells v → IsNotFirst size label v) ⊎ ((b : Cell) → Contains rim b → ⊥) → ⊥
          never first out listed is (inl h) = h first listed is
          never first out listed is (inr h) = h out.shore out.on_rim

          by : ((q own.first ≡ true) × IsJoined (over size q) c own.first) ⊎ ((q own.first ≡ false) × IsOut c) → IsLabel (over size q) c l
          by (inl (g, i)) = record { first = own.first; joined = i; place = own.place; least = λ v j. own.least v (joined-more j) }
          by (inr (g, out)) =
              let listed = m.listed own.first (joined-on (over size p) own.joined) (joined-open (over size p) own.joined) g in
              let same : label own.first ≡ Some l = label-joined (over size p) label known c own.first l e own.joined in
              absurd (never own.first out listed (same ∙ ap Some (sym own.place)) none)

      pub closed-labels : AreLabels (over size q) new
      closed-labels = record { sound = λ c l e. sound c l e (elsewhere c); all = all }
        where
          sound : (c : Cell) (l : ℕ) → new c ≡ Some l → (new c ≡ label c) ⊎ Contains cells c → IsLabel (over size q) c l
          sound c l e (inl same) =
              let is : label c ≡ Some l = sym same ∙ e in
              let own = known.sound c l is in
              label_stays c l is (still_open c l e own) own
          sound c l e (inr listed) = let both : None ≡ Some l = sym (here c listed) ∙ e in absurd (let never : ⊥ = cc in never)

          all : (c : Cell) → IsOnGround size c → q c ≡ true → (l : ℕ) × (new c ≡ Some l)
          all c h e = by (known.all c h (m.keeps c h e)) (elsewhere c)
            where
              by : (l : ℕ) × (label c ≡ Some l) → (new c ≡ label c) ⊎ Contains cells c → (l : ℕ) × (new c ≡ Some l)
              by (l, is) (inl same) = (l, same ∙ is)
              by (l, is) (inr listed) = absurd (true≢false (sym e ∙ m.closed c listed))

  -- ---- cells were opened: the first ground is the new one

  module _ (label new : Cell → Option ℕ) (known : AreLabels (over size q) label) (value : ℕ) (joint : AreJoined (over size p) cells)
      (low : (c : Cell) → Contains cells c → value ≤ place_of size c)
      (alike : (c : Cell) → Contains cells c → (which : ℕ) (b : Cell) (l : ℕ) → which < 4 → neighbour size c which ≡ Some b → label b ≡ Some l → l ≡ value)
    where
      -- a way through the cells that were opened begins and ends in the region with this label, or at one of them
      pub record IsThrough (a e : Cell) : Type 0 where
        pub begin : label a ≡ Some value
        pub end : Contains cells e ⊎ (label e ≡ Some value)

      passed : {a e : Cell} → q a ≡ true → IsJoined (over size p) a e → IsJoined (over size q) a e ⊎ IsThrough a e
      passed is_open (alone h e) = inl (alone h is_open)
      passed {a} is_open (on {b = b} {c = c} j s) = by (passed is_open j) (cases_Bool (q c))
        where
          there : IsOnGround size c
          there = neighbour-on size b c s.which s.leads

          step : q c ≡ true → IsOpenStep (over size q) b c
          step e = record { which = s.which; straight = s.straight; leads = s.leads; free = e }

          next : q c ≡ true → Contains cells b ⊎ (label b ≡ Some value) → label c ≡ Some value
          next e (inl listed) = let (l, is) = known.all c there e in is ∙ ap Some (alike b listed s.which c l s.straight s.leads is)
          next e (inr is) =
              let own = known.sound b value is in
              label-joined (over size q) label known b c value is
              (on (alone (from-on (over size q) own.joined) (from-open (over size q) own.joined)) (step e))

          by : IsJoined (over size q) a b ⊎ IsThrough a b → (q c ≡ true) ⊎ (q c ≡ false) → IsJoined (over size q) a c ⊎ IsThrough a c
          by (inl i) (inl f) = inl (on i (step f))
          by (inl i) (inr f) =
              let listed = m.listed c there s.free f in
              let back = step-turned (over size p) b c (joined-on (over size p) j) (joined-open (over size p) j) s in
              let (l, is) = known.all b (joined-on (over size q) i) (joined-open (over size q) i) in
              let same : l ≡ value = alike c listed back.which b l back.straight back.leads is in
              inr (record {
                begin = label-joined (over size q) label known b a value (is ∙ ap Some same) (joined-turned (over size q) i);
                end = inl listed;
              })
          by (inr t) (inl f) = inr (record { begin = t.begin; end = inr (next f t.end) })
          by (inr t) (inr f) = inr (record { begin = t.begin; end = inl (m.listed c there s.free f) })

      below : (e : Cell) → Contains cells e ⊎ (label e ≡ Some value) → value ≤ place_of size e
      below e (inl listed) = low e listed
      below e (inr is) =
          let own = known.sound e value is in own.least e (alone (from-on (over size q) own.joined) (from-open (over size q) own.joined))

      -- the first cell of the region with this label, seen from one that was opened
      pub record IsRoot (c : Cell) : Type 0 where
        pub root : Cell
        pub joined : IsJoined (over size p) c root
        pub place : place_of size root ≡ value

      pub root-beside : (c : Cell) → Contains cells c → IsBeside size label cells value → IsRoot c
      root-beside c listed b =
          let n = b.next in
          let own = known.sound n.beside value n.has in
          let free = m.keeps n.beside (from-on (over size q) own.joined) (from-open (over size q) own.joined) in
          let step : IsOpenStep (over size p) b.from n.beside = record { which = n.which; straight = n.straight; leads = n.leads; free = free } in
          record {
            root = own.first;
            joined = joined-chain (over size p) (on (joint c b.from listed b.listed) step) (joined-more own.joined);
            place = own.place;
          }

      pub root-alone : (c f : Cell) → Contains cells c → Contains cells f → place_of size f ≡ value → IsRoot c
      root-alone c f listed also e = record { root = f; joined = joint c f listed also; place = e }

      least : (c : Cell) → Contains cells c → (v : Cell) → IsJoined (over size p) c v → value ≤ place_of size v
      least c listed v j = by (cases_Bool (q v))
        where
          back : IsJoined (over size q) v c ⊎ IsThrough v c → value ≤ place_of size v
          back (inl i) = absurd (true≢false (sym (joined-open (over size q) i) ∙ m.closed c listed))
          back (inr t) = below v (inr t.begin)

          by : (q v ≡ true) ⊎ (q v ≡ false) → value ≤ place_of size v
          by (inl f) = back (passed f (joined-turned (over size p) j))
          by (inr f) = low v (m.listed v (joined-on (over size p) j) (joined-open (over size p) j) f)

      module _ (source : (c : Cell) → Contains cells c → IsRoot c) (here : (c : Cell) → Contains cells c → new c ≡ Some value)
          (elsewhere : (c : Cell) → (new c ≡ label c) ⊎ Contains cells c) where
        pub opened-labels : AreLabels (over size p) new
        opened-labels = record { sound = λ c l e. sound c l e (elsewhere c); all = all }
          where
            sound : (c : Cell) (l : ℕ) → new c ≡ Some l → (new c ≡ label c) ⊎ Contains cells c → IsLabel (over size p) c l
            sound c l e (inl same) =
                let is : label c ≡ Some l = sym same ∙ e in
                let own = known.sound c l is in
                record {
                  first = own.first;
                  joined = joined-more own.joined;
                  place = own.place;
                  least = λ v j. kept own v is (passed (from-open (over size q) own.joined) j);
                }
              where
                kept : IsLabel (over size q) c l → (v : Cell) → label c ≡ Some l → IsJoined (over size q) c v ⊎ IsThrough c v → l ≤ place_of size v
                kept own v is (inl i) = own.least v i
                kept own v is (inr t) =
                    let both : Some l ≡ Some value = sym is ∙ t.begin in
                    let equal : l ≡ value = cc in
                    omega (arith, below v t.end)
            sound c l e (inr listed) =
                let both : Some value ≡ Some l = sym (here c listed) ∙ e in
                let equal : value ≡ l = cc in
                let s = source c listed in
                subst (λ (n : ℕ). IsLabel (over size p) c n) equal
                (record { first = s.root; joined = s.joined; place = s.place; least = least c listed })

            all : (c : Cell) → IsOnGround size c → p c ≡ true → (l : ℕ) × (new c ≡ Some l)
            all c h e = by (cases_Bool (q c)) (elsewhere c)
              where
                by : (q c ≡ true) ⊎ (q c ≡ false) → (new c ≡ label c) ⊎ Contains cells c → (l : ℕ) × (new c ≡ Some l)
                by _ (inr listed) = (value, here c listed)
                by (inl f) (inl same) = let (l, is) = known.all c h f in (l, same ∙ is)
                by (inr f) (inl same) = (value, here c (m.listed c h e f))
