-- The costs that the rounds find are the least costs of walks.
use Rattle.sim_base.specs.{Places.same_table, Ways.{costs_after, costs_of, end_of, first_costs, LeadsTo, least_by, next_costs, points_to, predecessor}}
use Rattle.sim_base.specs.Ways.{reached_of, steps_by, trail_by, unless_same, way_over}
use Rattle.sim_laws.proofs.Common.{ap, ap₂, arith, beside_open, Bool, Cell, cell_of, cells_of, cond, cond-true, cond_both, cost_by, Costs, end_key, entry}
use Rattle.sim_laws.proofs.Common.{eq-eqb, eqb-true, false, Field, filter_map, find, first_points, go, inl, inr, is_before, is_free, is_straight, IsCost, IsEnd}
use Rattle.sim_laws.proofs.Common.{IsFound, IsOnGround, IsPredecessor, IsStep, IsTrail, length, List, ltb, map, MatchBool, nat_eq, neighbour, None, Option}
use Rattle.sim_laws.proofs.Common.{option_eq, option_map, Point, range_with_len, Reached, refl, same_cell, Size, Some, Source, stay, step_cost, step_from}
use Rattle.sim_laws.proofs.Common.{steps_of, subst, suc, sym, Table, table_of, trail_of, true, true≢false, Walk, way_between, way_of, zero, ℕ, ⊎_elim, [], ◌*◌}
use Rattle.sim_laws.proofs.{Common.{◌+◌, ◌-◌, ◌<◌, ◌||◌, ◌∙◌, ◌∷◌, ◌≡◌, ◌≤◌, ◌⊎◌}, Neighbours.{entry-table_of, find-filter_map, Finds, free, free-is, free_of}}
use Rattle.sim_laws.proofs.Neighbours.{Has, Has-cells_of, Has-filter_map, Has-of_cells_of, Has-of_filter_map, Has-source, IsListed-from_step, IsSource-from_has}
use Rattle.sim_laws.proofs.Neighbours.{IsStep-from, neighbour-below_eight, neighbour-on, same_cell-self, same_cell-true, step_from-is, step_from-some, steps-is}
use Rattle.sim_laws.proofs.{Neighbours.straight-in_line, OneWay.way_unique, Removing.{least_of-has, least_of-some}}
use Rattle.sim_laws.{proofs.Trips.{begin, cut, cut-short, more, Trip, trip-on, walk-on}, specs.WayLaws.{WayIsWayOf, WayOfByGround, WayOfIsWay}}
use Rattle.std.{proofs.{Common.{add-zero, ltb-false}, lemmas.Bool.cond-false}, specs.Cmp.Lexicographic.pointwise_decides}

not_before : (a b : ℕ) → is_before (a ∷ []) (b ∷ []) ≡ false → b ≤ a
not_before a b h = by (ltb a b) refl
  where
    by : (t : Bool) → ltb a b ≡ t → b ≤ a
    by true e = absurd (true≢false (rw e at h))
    by false e = ltb-false a b e

pub option_map-some : {X Y : Type 0} (f : X → Y) (o : Option X) (y : Y) → option_map f o ≡ Some y → (x : X) × (o ≡ Some x) × (f x ≡ y)
option_map-some f None y e = absurd (cc)
option_map-some f (Some x) y e = (x, refl, cc)

pub cost_by-some : (costs : Costs) (s : Source) (d : ℕ) → cost_by costs s ≡ Some d → (e : ℕ) × (entry None costs s.cell ≡ Some e) × (e + s.cost ≡ d)
cost_by-some costs s d h = option_map-some (λ e. e + s.cost) (entry None costs s.cell) d h

pub cost_by-is : (costs : Costs) (s : Source) (e : ℕ) → entry None costs s.cell ≡ Some e → cost_by costs s ≡ Some (e + s.cost)
cost_by-is costs s e h = ap (option_map (λ d. d + s.cost)) h

abbrev standing : Cell → Source
standing c = record { cell = c; cost = 0 }

least_by-some : (costs : Costs) (c : Cell) (steps : List Source) (d : ℕ) → least_by costs c steps ≡ Some d → (s : Source) × Has (standing c ∷ steps) s
    × (cost_by costs s ≡ Some d)
least_by-some costs c steps d e =
    let least = least_of-some (λ (n : ℕ). n ∷ []) (filter_map (cost_by costs) (standing c ∷ steps)) d e in
    Has-of_filter_map (cost_by costs) (standing c ∷ steps) d least.member

least_by-le : (costs : Costs) (c : Cell) (steps : List Source) (s : Source) (k : ℕ) → Has (standing c ∷ steps) s → cost_by costs s ≡ Some k → (d : ℕ)
    × (least_by costs c steps ≡ Some d) × (d ≤ k)
least_by-le costs c steps s k h e =
    let all = filter_map (cost_by costs) (standing c ∷ steps) in
    let member = Has-filter_map (cost_by costs) (standing c ∷ steps) s k h e in
    let (d, f, least) = least_of-has (λ (n : ℕ). n ∷ []) all k member in
    (d, f, not_before k d (least.least k member))

pub same_option : (a b : Option ℕ) → (option_eq nat_eq a b ≡ true → a ≡ b) × (a ≡ b → option_eq nat_eq a b ≡ true)
same_option None None = (λ h. refl, λ h. refl)
same_option None (Some b) = (λ h. absurd (true≢false (sym h)), λ h. absurd (cc))
same_option (Some a) None = (λ h. absurd (true≢false (sym h)), λ h. absurd (cc))
same_option (Some a) (Some b) = (λ h. ap Some (eqb-true a b h), λ h. eq-eqb a b (cc))

same_table-true : (s t : Costs) → same_table (option_eq nat_eq) s t ≡ true → s ≡ t
same_table-true s t h = (pointwise_decides (pointwise_decides same_option) s t).0 h

abbrev pub steps : Field → Cell → Table (List Source)
steps field start = steps_of field start

abbrev pub costs : Field → Cell → Costs
costs field start = costs_of field.size (steps_of field start) start

module _ (field : Field) (start : Cell) (start_on : IsOnGround field.size start) where
  abbrev round : Costs → Costs
  round = next_costs field.size (steps field start)

  abbrev rounds : ℕ → Costs → Costs
  rounds = costs_after field.size (steps field start)

  round-at : (costs : Costs) (c : Cell) → IsOnGround field.size c → entry None (round costs) c ≡ least_by costs c (entry [] (steps field start) c)
  round-at costs c on = entry-table_of field.size None (λ e. least_by costs e (entry [] (steps field start) e)) c on

  -- each cost is that of a walk
  abbrev IsSound : Costs → Type 0
  IsSound costs = (c : Cell) (d : ℕ) → IsOnGround field.size c → entry None costs c ≡ Some d → Walk (IsStep field start) start c d

  -- no trip with at most m steps costs less
  abbrev IsWithin : ℕ → Costs → Type 0
  IsWithin m costs = (c : Cell) (xs : List Cell) (k : ℕ) → Trip field start c xs k → length xs ≤ m → (d : ℕ) × (entry None costs c ≡ Some d) × (d ≤ k)

  first-at : (c : Cell) → IsOnGround field.size c → entry None (first_costs field.size start) c ≡ cond (same_cell c start) (Some 0) None
  first-at c on = entry-table_of field.size None (λ e. cond (same_cell e start) (Some 0) None) c on

  first-sound : IsSound (first_costs field.size start)
  first-sound c d on e = by (same_cell c start) refl (sym (first-at c on) ∙ e)
    where
      by : (b : Bool) → same_cell c start ≡ b → cond b (Some 0) None ≡ Some d → Walk (IsStep field start) start c d
      by true f g =
          let none : 0 ≡ d = cc in
          let here : c ≡ start = same_cell-true c start f in
          rw (here, ← none) stay
      by false f g = absurd (cc)

  first-within : IsWithin 0 (first_costs field.size start)
  first-within c xs k begin h = (0, first-at start start_on ∙ ap (λ (b : Bool). cond b (Some 0) None) (same_cell-self start), omega arith)
  first-within c xs k (more t s) h = absurd (omega arith)

  round-sound : (costs : Costs) → IsSound costs → IsSound (round costs)
  round-sound costs sound c d on e =
      let (s, h, f) = least_by-some costs c (entry [] (steps field start) c) d (sym (round-at costs c on) ∙ e) in
      by s h (cost_by-some costs s d f)
    where
      by : (s : Source) → Has (standing c ∷ entry [] (steps field start) c) s → (n : ℕ) × (entry None costs s.cell ≡ Some n) × (n + s.cost ≡ d)
          → Walk (IsStep field start) start c d
      by s (inl is) (n, f, g) =
          let here : s.cell ≡ c = ap (λ (v : Source). v.cell) (sym is) in
          let nothing : s.cost ≡ 0 = ap (λ (v : Source). v.cost) (sym is) in
          let same : n ≡ d = omega arith in
          rw (← same) (sound c n on (ap (entry None costs) (sym here) ∙ f))
      by s (inr listed) (n, f, g) =
          let source = IsSource-from_has field start c s on listed in
          rw (← g) (go (sound s.cell n source.on f) source.step)

  round-within : (m : ℕ) (costs : Costs) → IsWithin m costs → IsWithin (suc m) (round costs)
  round-within m costs within c xs k begin h =
      let (d, e, f) = within start [] 0 begin (omega arith) in
      let (n, g, le) = least_by-le costs start (entry [] (steps field start) start) (standing start) (d + 0) (inl refl)
      (cost_by-is costs (standing start) d e) in
      (n, round-at costs start start_on ∙ g, omega arith)
  round-within m costs within c xs k (more {a = a} {b = b} {xs = ys} {n = n} {k = j} t s) h =
      let (d, e, f) = within a ys n t (omega arith) in
      let source : Source = record { cell = a; cost = j } in
      let listed = Has-source field start a b j (trip-on field start start_on t) s in
      let (r, g, le) = least_by-le costs b (entry [] (steps field start) b) source (d + j) (inr listed) (cost_by-is costs source d e) in
      (r, round-at costs b (neighbour-on field.size a b s.which s.leads) ∙ g, omega arith)

  -- where a round changes nothing, no more rounds do
  still-within : (m : ℕ) (costs : Costs) → costs ≡ round costs → IsWithin m costs → (n : ℕ) → IsWithin (m + n) costs
  still-within m costs same within zero = rw add-zero within
  still-within m costs same within (suc n) =
      let more = round-within (m + n) costs (still-within m costs same within n) in
      λ c xs k t h. (rw (← same) at more) c xs k t (omega arith)

  pub rounds-sound : (n : ℕ) (costs : Costs) → IsSound costs → IsSound (rounds n costs)
  rounds-sound zero costs sound = sound
  rounds-sound (suc n) costs sound = by (same_table (option_eq nat_eq) costs (round costs)) (round-sound costs sound)
      (rounds-sound n (round costs) (round-sound costs sound))
    where
      by : (b : Bool) → IsSound (round costs) → IsSound (rounds n (round costs)) → IsSound (unless_same (rounds n) (round costs) b)
      by true one all = one
      by false one all = all

  pub rounds-within : (n m : ℕ) (costs : Costs) → IsWithin m costs → IsWithin (m + n) (rounds n costs)
  rounds-within zero m costs within = rw add-zero within
  rounds-within (suc n) m costs within =
      by (same_table (option_eq nat_eq) costs (round costs)) refl (rounds-within n (suc m) (round costs) (round-within m costs within))
    where
      by : (b : Bool) → same_table (option_eq nat_eq) costs (round costs) ≡ b → IsWithin (suc m + n) (rounds n (round costs))
          → IsWithin (m + suc n) (unless_same (rounds n) (round costs) b)
      by true e all = let same : costs ≡ round costs = same_table-true costs (round costs) e in rw (← same) (still-within m costs same within (suc n))
      by false e all = λ c xs k t h. all c xs k t (omega arith)

  costs-within : IsWithin (field.size.width * field.size.depth) (costs field start)
  costs-within =
      let cells = field.size.width * field.size.depth in
      let all = rounds-within cells 0 (first_costs field.size start) first-within in
      λ c xs k t h. all c xs k t (omega arith)

  -- each walk's end has a cost, which is no greater
  pub costs-le : (c : Cell) (n : ℕ) → Walk (IsStep field start) start c n → (d : ℕ) × (entry None (costs field start) c ≡ Some d) × (d ≤ n)
  costs-le c n w =
      let simple = cut field start start_on w in
      let short = cut-short field start start_on c n simple in
      let (d, e, le) = costs-within c simple.before simple.cost simple.trip (omega arith) in
      (d, e, let f = simple.within in omega arith)

  pub IsCost-from_costs : (c : Cell) (d : ℕ) → IsOnGround field.size c → entry None (costs field start) c ≡ Some d → IsCost field start c d
  IsCost-from_costs c d on e =
      record {
        walk = rounds-sound (field.size.width * field.size.depth) (first_costs field.size start) first-sound c d on e;
        least = λ n w.
            let (k, f, le) = costs-le c n w in
            let same : k ≡ d = cc in
            omega arith;
      }

  pub costs-from_IsCost : (c : Cell) (d : ℕ) → IsCost field start c d → entry None (costs field start) c ≡ Some d
  costs-from_IsCost c d h =
      let (k, f, le) = costs-le c d h.walk in
      let other = IsCost-from_costs c k (walk-on field start start_on h.walk) f in
      let same : k ≡ d = omega (arith, le, h.least k other.walk) in
      f ∙ ap Some same

-- A way depends on the cells of the ground alone.

same_map : {X : Type 0} (f g : ℕ → X) (a n : ℕ) → ((j : ℕ) → j < a + n → f j ≡ g j) → map f (range_with_len a n) ≡ map g (range_with_len a n)
same_map f g a zero h = refl
same_map {X} f g a (suc n) h = ap₂ {C = List X} (λ x xs. x ∷ xs) (h a (omega arith)) (same_map f g (a + 1) n (λ j lt. h j (omega arith)))

same_table_of : {X : Type 0} (size : Size) (f g : Cell → X) → ((c : Cell) → IsOnGround size c → f c ≡ g c) → table_of size f ≡ table_of size g
same_table_of {X = X} size f g h =
    same_map (row f) (row g) 0 size.depth
    (λ z north. same_map (at f z) (at g z) 0 size.width (λ x east. h (record { x = x; z = z }) (record { east = omega arith; north = omega arith })))
  where
    at : (Cell → X) → ℕ → ℕ → X
    at k z x = k (record { x = x; z = z })

    row : (Cell → X) → ℕ → List X
    row k z = map (at k z) (range_with_len 0 size.width)

pub way_of-same : WayOfByGround
unfolding way_of
way_of-same size is_open is_clear h from goal = by (same_cell (cell_of from) (cell_of goal))
  where
    open_field : Field
    open_field = record { size = size; is_open = is_open }

    clear_field : Field
    clear_field = record { size = size; is_open = is_clear }

    start : Cell
    start = cell_of from

    free : table_of size (is_free open_field start) ≡ table_of size (is_free clear_field start)
    free = same_table_of size (is_free open_field start) (is_free clear_field start) (λ c on. ap (λ (b : Bool). same_cell c start || b) (h c on))

    by : (b : Bool) → way_between open_field from goal b ≡ way_between clear_field from goal b
    by true = refl
    by false = ap (λ (t : Table Bool). way_over size start goal (steps_by size t)) free

-- The end that the function finds is the definition's end, and the cells that it goes back by are a trail.

pub least_step : (which : ℕ) → 10 ≤ step_cost which
least_step which = cond_both (is_straight which) 10 14 (λ (n : ℕ). 10 ≤ n) (λ e. omega arith) (λ e. omega arith)

module _ (field : Field) (start : Cell) where
  step-costs : (a b : Cell) (k : ℕ) → IsStep field start a b k → 10 ≤ k
  step-costs a b k s = omega (arith, s.cost_is, least_step s.which)

  at_start : (c : Cell) → Walk (IsStep field start) start c 0 → c ≡ start
  at_start c w = by 0 w (omega arith)
    where
      by : {e : Cell} (n : ℕ) → Walk (IsStep field start) start e n → n ≤ 0 → e ≡ start
      by n stay h = refl
      by n (go {a = a} {b = b} {k = k} w s) h = absurd (omega (arith, step-costs a b k s))

  module _ (start_on : IsOnGround field.size start) where
    abbrev found : Costs
    found = costs field start

    abbrev listed : Cell → List Source
    listed = entry [] (steps field start)

    abbrev made : Cell → Option Reached
    made c = option_map (λ d. record { cell = c; cost = d }) (entry None found c)

    reached-has : (c : Cell) (d : ℕ) → IsCost field start c d → Has (reached_of field.size found) (record { cell = c; cost = d })
    reached-has c d h =
        let on = walk-on field start start_on h.walk in
        let reach : ℕ → Reached = λ n. record { cell = c; cost = n } in
        Has-filter_map made (cells_of field.size) c (reach d) (Has-cells_of field.size c on)
        (ap (option_map reach) (costs-from_IsCost field start start_on c d h))

    reached-is : (r : Reached) → Has (reached_of field.size found) r → IsCost field start r.cell r.cost
    reached-is r h =
        let (c, m, e) = Has-of_filter_map made (cells_of field.size) r h in
        let on = Has-of_cells_of field.size c m in
        let (d, f, is) = option_map-some (λ (n : ℕ). record { cell = c; cost = n }) (entry None found c) r e in
        subst (λ (v : Reached). IsCost field start v.cell v.cost) is (IsCost-from_costs field start start_on c d on f)

    -- the function finds an end
    pub record IsEndFound (goal : Cell) : Type 0 where
      pub last : Reached
      pub is : end_of field.size goal found ≡ Some last
      pub is_end : IsEnd field start goal last.cell last.cost

    pub end_is_found : (goal : Cell) → IsEndFound goal
    end_is_found goal =
        let key : Reached → List ℕ = λ r. end_key goal r.cell r.cost in
        let own : IsCost field start start 0 = record { walk = stay; least = λ n w. omega arith } in
        let (r, e, least) = least_of-has key (reached_of field.size found) (record { cell = start; cost = 0 }) (reached-has start 0 own) in
        record {
          last = r;
          is = e;
          is_end = record { reached = reached-is r least.member; least = λ c n h. least.least (record { cell = c; cost = n }) (reached-has c n h) };
        }

    abbrev makes_up : ℕ → Source → Bool
    makes_up d s = option_eq nat_eq (cost_by found s) (Some d)

    leads_from : (c : Cell) (d : ℕ) (s : Source) → IsStep field start s.cell c s.cost → IsOnGround field.size s.cell → makes_up d s ≡ true
        → LeadsTo field start s.cell c d
    leads_from c d s step on h =
        let (n, e, sum) = cost_by-some found s d ((same_option (cost_by found s) (Some d)).0 h) in
        record { before = n; last = s.cost; reached = IsCost-from_costs field start start_on s.cell n on e; step = step; sum = sum }

    makes_up_from : (p c : Cell) (d j : ℕ) → LeadsTo field start p c d → neighbour field.size c j ≡ Some p → (s : Source)
        × (step_from field.size (free field start) c j ≡ Some s) × (makes_up d s ≡ true)
    makes_up_from p c d j h e =
        let on = walk-on field start start_on h.reached.walk in
        let step = IsListed-from_step field start p c h.last on h.step in
        let straight : is_straight j ≡ is_straight step.which = straight-in_line field.size c p j e ∙
        sym (straight-in_line field.size c p step.which step.leads) in
        let passes = ap (λ (b : Bool). b || beside_open (free field start) p c) straight ∙ step.passes in
        let s : Source = record { cell = p; cost = step_cost j } in
        let same : step_cost j ≡ h.last = ap (λ (b : Bool). cond b 10 14) straight ∙ sym step.cost_is in
        let total : h.before + step_cost j ≡ d = omega (arith, same, h.sum) in
        let known = cost_by-is found s h.before (costs-from_IsCost field start start_on p h.before h.reached) in
        (s, step_from-is field.size (free field start) c p j e passes, (same_option (cost_by found s) (Some d)).1 (known ∙ ap Some total))

    -- what the search for a predecessor of c, which costs d, finds
    abbrev Answers : Cell → ℕ → Option Source → Type 0
    Answers c d None = c ≡ start
    Answers c d (Some s) = IsPredecessor field start s.cell c d × IsOnGround field.size s.cell × (entry None found s.cell ≡ Some (d - s.cost)) × (1 ≤ s.cost)
        × (s.cost ≤ d)

    -- c is the start, or a step leads to it
    last_step : (c : Cell) (d : ℕ) → IsCost field start c d → (c ≡ start) ⊎ ((p : Cell) × LeadsTo field start p c d)
    last_step c d h = by h.walk h.least
      where
        by : {e : Cell} {n : ℕ} → Walk (IsStep field start) start e n → ((m : ℕ) → Walk (IsStep field start) start e m → n ≤ m) → (e ≡ start)
            ⊎ ((p : Cell) × LeadsTo field start p e n)
        by stay least = inl refl
        by (go {a = a} {b = b} {n = n} {k = k} w s) least =
            let is_least : (m : ℕ) → Walk (IsStep field start) start a m → n ≤ m = λ m v. omega (arith, least (m + k) (go v s)) in
            inr (a, record { before = n; last = k; reached = record { walk = w; least = is_least }; step = s; sum = refl })

    predecessor_is : (c : Cell) (d : ℕ) → IsOnGround field.size c → IsCost field start c d → Answers c d (predecessor found d (listed c))
    predecessor_is c d on h = by_free (free field start c) refl
      where
        from : ℕ → Option Source
        from = step_from field.size (free field start) c

        by_last : (o : Option Source) → Finds from (makes_up d) 0 8 o → is_free field start c ≡ true → (c ≡ start) ⊎ ((p : Cell) × LeadsTo field start p c d)
            → Answers c d o
        by_last None none is_open (inl e) = e
        by_last None none is_open (inr (p, leads)) =
            let there = walk-on field start start_on leads.reached.walk in
            let step = IsListed-from_step field start p c leads.last there leads.step in
            let (s, gives, fits) = makes_up_from p c d step.which leads step.leads in
            let eight = neighbour-below_eight field.size c p step.which step.leads in
            absurd (true≢false (sym fits ∙ none step.which s (omega arith) (omega arith) gives))
        by_last (Some s) first is_open last =
            let found_step = step_from-some field.size (free field start) c first.place s first.gives in
            let there = neighbour-on field.size c s.cell first.place found_step.leads in
            let step = IsStep-from field start c first.place s on is_open found_step in
            let (n, e, sum) = cost_by-some found s d ((same_option (cost_by found s) (Some d)).0 first.passes) in
            let rest : n ≡ d - s.cost = omega arith in (
              record {
                which = first.place;
                neighbour_is = found_step.leads;
                leads = leads_from c d s step there first.passes;
                first = λ j q lt e leads. let (t, gives, fits) = makes_up_from q c d j leads e in
                    true≢false (sym fits ∙ first.none_before j t (omega arith) lt gives);
              },
              there,
              e ∙ ap Some rest,
              omega (arith, step-costs s.cell c s.cost step),
              omega arith,
            )

        by_free : (b : Bool) → free field start c ≡ b → Answers c d (predecessor found d (listed c))
        by_free true e =
            let all : listed c ≡ filter_map from (range_with_len 0 8) = steps-is field start c on ∙
            cond-true (free field start c) (filter_map from (range_with_len 0 8)) [] e in
            rw all (by_last (find (makes_up d) (filter_map from (range_with_len 0 8))) (find-filter_map from (makes_up d) 0 8) (sym (free-is field start c on) ∙
            e) (last_step c d h))
        by_free false e =
            let all : listed c ≡ [] = steps-is field start c on ∙ cond-false (free field start c) (filter_map from (range_with_len 0 8)) [] e in
            rw all
            (⊎_elim
            (λ (s : c ≡ start). s)
            (λ (l : (p : Cell) × LeadsTo field start p c d). absurd (true≢false (sym (free_of field start l.0 c l.1.last on l.1.step) ∙ e)))
            (last_step c d h))

    pub trail_is : (n : ℕ) (c : Cell) (d : ℕ) → IsOnGround field.size c → entry None found c ≡ Some d → d ≤ n
        → IsTrail field start c (trail_of (steps field start) found n c d)
    trail_is zero c d on e h =
        let cost = IsCost-from_costs field start start_on c d on e in
        let none : d ≡ 0 = omega arith in
        at_start c (rw none at cost.walk)
    trail_is (suc n) c d on e h =
        by (predecessor found d (listed c)) (predecessor_is c d on cost) (trail_is n)
      where
        cost : IsCost field start c d
        cost = IsCost-from_costs field start start_on c d on e

        by : (o : Option Source) → Answers c d o → ((p : Cell) (m : ℕ) → IsOnGround field.size p → entry None found p ≡ Some m → m ≤ n
            → IsTrail field start p (trail_of (steps field start) found n p m)) → IsTrail field start c (trail_by (trail_of (steps field start) found n) c d o)
        by None is rest = is
        by (Some s) (is, there, known, one, le) rest =
            let own : c ≡ start → Walk (IsStep field start) start c 0 = λ f. rw f stay in
            (refl, λ f. omega (arith, cost.least 0 (own f)), d, cost, s.cell, is, rest s.cell (d - s.cost) there known (omega arith))

-- The function answers a way.

found_way : (field : Field) (from goal : Point) → IsOnGround field.size (cell_of from) → IsFound field from goal (way_between field from goal false)
found_way field from goal on =
    let start = cell_of from in
    let found = costs field start in
    let end = end_is_found field start on (cell_of goal) in
    let reached = end.is_end.reached in
    record {
      last = end.last.cell;
      cost = end.last.cost;
      trail = trail_of (steps field start) found end.last.cost end.last.cell end.last.cost;
      is_end = end.is_end;
      is_trail = trail_is field start on end.last.cost end.last.cell end.last.cost (walk-on field start on reached.walk)
          (costs-from_IsCost field start on end.last.cell end.last.cost reached) (omega arith);
      way_is = ap (λ (o : Option Reached). first_points (points_to (steps field start) found goal o)) end.is;
    }

pub way_of-is_way : WayOfIsWay
unfolding way_of
way_of-is_way field from goal on = by (same_cell (cell_of from) (cell_of goal))
  where
    by : (b : Bool) → MatchBool b (way_between field from goal b ≡ record { points = goal ∷ []; whole = true })
        (IsFound field from goal (way_between field from goal b))
    by true = refl
    by false = found_way field from goal on

pub way-is_way_of : WayIsWayOf
way-is_way_of field from goal way on h = way_unique field from goal way (way_of field from goal) h (way_of-is_way field from goal on)
