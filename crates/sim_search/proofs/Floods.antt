-- Why the flood finds the labels.
use Rattle.sim_search.proofs.Common.{Field, Fills, Flood, Flooded, Floods, HasLabel, inl, inr, is_late, is_none_late, IsJoined, IsLabel, IsOnGround, IsOpenStep}
use Rattle.sim_search.proofs.Common.{Marks, neighbour, neighbour-on, on, place_of, size_in, Spreads, subst, sym, true≢false, work_left, ⊎_elim, ◌∙◌}
use Rattle.sim_search.proofs.Common.{ap, AreLabels, arith, cases_lt, Cell, Contains-append_left, Contains-push, Contains-push_cases, entry_in, eq-or-lt_of_le}
use Rattle.sim_search.proofs.Common.{◌≡◌, ℕ, suc, ◌+◌, ◌*◌, ◌<◌, ◌≤◌, true, ◌≢◌, ◌⊎◌, List, [], ◌∷◌, ◌++◌, is_none, Some, None, Contains, Option, refl, alone}
use Rattle.sim_search.proofs.Regions.{from-on, from-open, joined-chain, joined-on, joined-open, joined-turned, place-same}
use Rattle.{sim_base.proofs.Lists.nothing_in, sim_grid.proofs.Beside.place-below, sim_grid.proofs.Beside.same_or_not}

pub none-is : (o : Option ℕ) → is_none o ≡ true → o ≡ None
none-is None e = refl
none-is (Some n) e = absurd (true≢false (sym e))

-- ---- one cell is marked

marked-keeps : (field : Field) (old new : Flood) (cell : Cell) (label : ℕ) → Marks field old new cell label → (c : Cell) (l : ℕ) → entry_in old.table c ≡ Some l
    → entry_in new.table c ≡ Some l
marked-keeps field old new cell label (inl p) c l e = ap (λ (s : Flood). entry_in s.table c) p.same ∙ e
marked-keeps field old new cell label (inr m) c l e = m.elsewhere c (λ f. let both : None ≡ Some l = sym m.had_none ∙ ap (entry_in old.table) (sym f) ∙ e in
    cc) ∙ e

marked-less : (field : Field) (old new : Flood) (cell : Cell) (label : ℕ) → Marks field old new cell label → work_left new ≤ work_left old
marked-less field old new cell label (inl p) = omega (arith, ap work_left p.same)
marked-less field old new cell label (inr m) = omega (arith, m.less)

-- the cell has a label afterwards, if it is open
marked-has : (field : Field) (old new : Flood) (cell : Cell) (label : ℕ) → Marks field old new cell label → field.is_open cell ≡ true → HasLabel new.table cell
marked-has field old new cell label (inl p) e = subst (λ (s : Flood). HasLabel s.table cell) (sym p.same) (p.has e)
marked-has field old new cell label (inr m) e = (label, m.here)

marked-floods : (field : Field) (old new : Flood) (cell : Cell) (label : ℕ) (Late : Cell → Type 0)
    → (field.is_open cell ≡ true → entry_in old.table cell ≡ None → IsLabel field cell label) →
    Marks field old new cell label → Floods field old label Late → Floods field new label Late
marked-floods field old new cell label Late right (inl p) f = subst (λ (s : Flood). Floods field s label Late) (sym p.same) f
marked-floods field old new cell label Late right (inr m) f =
    record {
      size_is = m.size_is ∙ f.size_is;
      sound = λ c l e. sound c l e (same_or_not c cell);
      stacked = λ c h. stacked c (Contains-push_cases old.waiting.items cell c (subst (λ (xs : List Cell). Contains xs c) m.waits h));
      closed = λ c l e. closed c l e (same_or_not c cell);
    }
  where
    keeps : (c : Cell) (l : ℕ) → entry_in old.table c ≡ Some l → entry_in new.table c ≡ Some l
    keeps = marked-keeps field old new cell label (inr m)

    sound : (c : Cell) (l : ℕ) → entry_in new.table c ≡ Some l → (c ≡ cell) ⊎ (c ≢ cell) → IsLabel field c l
    sound c l e (inl g) =
        let both : Some label ≡ Some l = sym m.here ∙ ap (entry_in new.table) (sym g) ∙ e in
        let equal : label ≡ l = cc in
        subst (λ (v : Cell). IsLabel field v l) (sym g) (subst (λ (n : ℕ). IsLabel field cell n) equal (right m.is_open m.had_none))
    sound c l e (inr g) = f.sound c l (sym (m.elsewhere c g) ∙ e)

    stacked : (c : Cell) → Contains old.waiting.items c ⊎ (cell ≡ c) → entry_in new.table c ≡ Some label
    stacked c (inl h) = keeps c label (f.stacked c h)
    stacked c (inr g) = ap (entry_in new.table) (sym g) ∙ m.here

    closed : (c : Cell) (l : ℕ) → entry_in new.table c ≡ Some l → (c ≡ cell) ⊎ (c ≢ cell) → Contains new.waiting.items c ⊎ Late c
        ⊎ ((e : Cell) → IsOpenStep field c e → HasLabel new.table e)
    closed c l e (inl g) = inl
        (subst (λ (xs : List Cell). Contains xs c) (sym m.waits) (subst (λ (v : Cell). Contains (old.waiting.items ++ cell ∷ []) v) (sym g)
        (Contains-push old.waiting.items cell)))
    closed c l e (inr g) = by (f.closed c l (sym (m.elsewhere c g) ∙ e))
      where
        by : Contains old.waiting.items c ⊎ Late c ⊎ ((v : Cell) → IsOpenStep field c v → HasLabel old.table v) → Contains new.waiting.items c ⊎ Late c
            ⊎ ((v : Cell) → IsOpenStep field c v → HasLabel new.table v)
        by (inl h) = inl (subst (λ (xs : List Cell). Contains xs c) (sym m.waits) (Contains-append_left old.waiting.items (cell ∷ []) c h))
        by (inr (inl h)) = inr (inl h)
        by (inr (inr h)) = inr (inr (λ v s. let (k, is) = h v s in (k, keeps v k is)))

-- ---- the neighbours of a cell in the directions before one are labelled

pub record Spreading (field : Field) (first s : Flood) (from : Cell) (label which : ℕ) : Type 0 where
  pub floods : Floods field s label (is_late from)
  pub from_is : entry_in s.table from ≡ Some label
  pub spreads : Spreads first s
  pub done : (j : ℕ) (e : Cell) → j < which → neighbour field.size from j ≡ Some e → field.is_open e ≡ true → HasLabel s.table e

pub spreading_begins : (field : Field) (first : Flood) (from : Cell) (label : ℕ) → Floods field first label (is_late from)
    → entry_in first.table from ≡ Some label → Spreading field first first from label 0
spreading_begins field first from label f e =
    record { floods = f; from_is = e; spreads = record { keeps = λ c l h. h; less = omega arith }; done = λ j v lt. absurd (omega arith) }

-- a neighbour of a labelled cell has its label
beside-label : (field : Field) (from to : Cell) (label which : ℕ) → which < 4 → IsLabel field from label → neighbour field.size from which ≡ Some to
    → field.is_open to ≡ true → IsLabel field to label
beside-label field from to label which lt own e f =
    let there = neighbour-on field.size from to which e in
    let step : IsOpenStep field from to = record { which = which; straight = lt; leads = e; free = f } in
    let out = on (alone (from-on field own.joined) (from-open field own.joined)) step in
    record {
      first = own.first;
      joined = joined-chain field (joined-turned field out) own.joined;
      place = own.place;
      least =
          λ v j. own.least v (joined-chain field out j);
    }

pub spreading_more : (field : Field) (first old new : Flood) (from to : Cell) (label which : ℕ) → which < 4 → Spreading field first old from label which
    → neighbour field.size from which ≡ Some to → Marks field old new to label → Spreading field first new from label (which + 1)
spreading_more field first old new from to label which lt x e m =
    record {
      floods = marked-floods field old new to label (is_late from) (λ f none. beside-label field from to label which lt (x.floods.sound from label x.from_is) e
          f) m x.floods;
      from_is = marked-keeps field old new to label m from label x.from_is;
      spreads = record {
        keeps = λ c l h. marked-keeps field old new to label m c l (x.spreads.keeps c l h);
        less = omega (arith, x.spreads.less, marked-less field old new to label m);
      };
      done = λ j v below f g. done j v f g (eq-or-lt_of_le below);
    }
  where
    done : (j : ℕ) (v : Cell) → neighbour field.size from j ≡ Some v → field.is_open v ≡ true → (suc j ≡ which + 1) ⊎ (suc j < which + 1) → HasLabel new.table v
    done j v f g (inl same) =
        let j_is : j ≡ which = omega arith in
        let both : Some to ≡ Some v = sym e ∙ ap (neighbour field.size from) (sym j_is) ∙ f in
        let to_is : to ≡ v = cc in
        subst (λ (c : Cell). HasLabel new.table c) to_is (marked-has field old new to label m (subst (λ (c : Cell). field.is_open c ≡ true) (sym to_is) g))
    done j v f g (inr before) = let (l, is) = x.done j v (omega arith) f g in (l, marked-keeps field old new to label m v l is)

pub spreading_none : (field : Field) (first s : Flood) (from : Cell) (label which : ℕ) → Spreading field first s from label which
    → neighbour field.size from which ≡ None → Spreading field first s from label (which + 1)
spreading_none field first s from label which x e =
    record { floods = x.floods; from_is = x.from_is; spreads = x.spreads; done = λ j v below f g. done j v f g (eq-or-lt_of_le below) }
  where
    done : (j : ℕ) (v : Cell) → neighbour field.size from j ≡ Some v → field.is_open v ≡ true → (suc j ≡ which + 1) ⊎ (suc j < which + 1) → HasLabel s.table v
    done j v f g (inl same) =
        let j_is : j ≡ which = omega arith in
        let none : None ≡ Some v = sym e ∙ ap (neighbour field.size from) (sym j_is) ∙ f in
        cc
    done j v f g (inr before) = x.done j v (omega arith) f g

pub spread-done : (field : Field) (first s : Flood) (from : Cell) (label which : ℕ) → 4 ≤ which → Spreading field first s from label which
    → Floods field s label is_none_late
spread-done field first s from label which all x =
    record { size_is = x.floods.size_is; sound = x.floods.sound; stacked = x.floods.stacked; closed = λ c l e. closed c (x.floods.closed c l e) }
  where
    closed : (c : Cell) → Contains s.waiting.items c ⊎ (c ≡ from) ⊎ ((e : Cell) → IsOpenStep field c e → HasLabel s.table e) → Contains s.waiting.items c ⊎ ⊥
        ⊎ ((e : Cell) → IsOpenStep field c e → HasLabel s.table e)
    closed c (inl h) = inl h
    closed c (inr (inl same)) =
        inr (inr (λ e t. x.done t.which e (let lt = t.straight in omega arith) (ap (λ (v : Cell). neighbour field.size v t.which) (sym same) ∙ t.leads) t.free))
    closed c (inr (inr h)) = inr (inr h)

-- ---- the cells that wait are taken one by one

-- the last cell that waits is taken, and is late
pub popped : (field : Field) (old new : Flood) (from : Cell) (label : ℕ) → new.table ≡ old.table → old.waiting.items ≡ new.waiting.items ++ from ∷ []
    → Floods field old label is_none_late → Floods field new label (is_late from)
popped field old new from label t w f =
    record {
      size_is = ap size_in t ∙ f.size_is;
      sound = λ c l e. f.sound c l (same c ∙ e);
      stacked = λ c h. sym (same c) ∙ f.stacked c (subst (λ (xs : List Cell). Contains xs c) (sym w) (Contains-append_left new.waiting.items (from ∷ []) c h));
      closed = λ c l e. closed c (f.closed c l (same c ∙ e));
    }
  where
    same : (c : Cell) → entry_in old.table c ≡ entry_in new.table c
    same c = ap (λ v. entry_in v c) (sym t)

    closed : (c : Cell) → Contains old.waiting.items c ⊎ ⊥ ⊎ ((e : Cell) → IsOpenStep field c e → HasLabel old.table e) → Contains new.waiting.items c
        ⊎ (c ≡ from) ⊎ ((e : Cell) → IsOpenStep field c e → HasLabel new.table e)
    closed c (inl h) =
        ⊎_elim
        (λ (k : Contains new.waiting.items c). inl k)
        (λ (g : from ≡ c). inr (inl (sym g)))
        (Contains-push_cases new.waiting.items from c (subst (λ (xs : List Cell). Contains xs c) w h))
    closed c (inr (inl h)) = absurd h
    closed c (inr (inr h)) = inr (inr (λ e s. let (l, is) = h e s in (l, sym (same e) ∙ is)))

pub popped-label : (field : Field) (old new : Flood) (from : Cell) (label : ℕ) → new.table ≡ old.table → old.waiting.items ≡ new.waiting.items ++ from ∷ []
    → Floods field old label is_none_late → entry_in new.table from ≡ Some label
popped-label field old new from label t w f = ap (λ v. entry_in v from) t ∙
    f.stacked from (subst (λ (xs : List Cell). Contains xs from) (sym w) (Contains-push new.waiting.items from))

-- ---- one region after another

-- where no cell waits, the region of a labelled cell is labelled
region-has : (field : Field) (s : Flood) (n : ℕ) → Flooded field s n → {a c : Cell} → IsJoined field a c → HasLabel s.table a → HasLabel s.table c
region-has field s n f (alone h e) has = has
region-has field s n f (on {b = b} {c = c} j t) has = let (l, e) = region-has field s n f j has in f.closed b l e c t

-- a cell with no label has its own place as its label, where the cells before it are labelled
pub seed-label : (field : Field) (s : Flood) (cell : Cell) → Flooded field s (place_of field.size cell) → IsOnGround field.size cell → field.is_open cell ≡ true
    → entry_in s.table cell ≡ None → IsLabel field cell (place_of field.size cell)
seed-label field s cell f there e none =
    record { first = cell; joined = alone there e; place = refl; least = λ v j. by v j (cases_lt (place_of field.size v) (place_of field.size cell)) }
  where
    by : (v : Cell) → IsJoined field cell v → (place_of field.size v < place_of field.size cell) ⊎ (place_of field.size cell ≤ place_of field.size v)
        → place_of field.size cell ≤ place_of field.size v
    by v j (inl lt) =
        let (l, is) = region-has field s (place_of field.size cell) f (joined-turned field j) (f.past v (joined-on field j) lt (joined-open field j)) in
        let both : None ≡ Some l = sym none ∙ is in
        let never : ⊥ = cc in
        absurd never
    by v j (inr le) = le

pub seed-floods : (field : Field) (old new : Flood) (cell : Cell) (label : ℕ) → label ≡ place_of field.size cell → Flooded field old (place_of field.size cell)
    → IsOnGround field.size cell → Marks field old new cell label → Floods field new label is_none_late
seed-floods field old new cell label is f there m =
    marked-floods field old new cell label is_none_late (λ e none. subst (λ (n : ℕ). IsLabel field cell n) (sym is) (seed-label field old cell f there e none))
    m
    (record {
      size_is = f.size_is;
      sound = f.sound;
      stacked = λ c h. absurd (nothing_in c (subst (λ (xs : List Cell). Contains xs c) f.none_wait h));
      closed = λ c l e. inr (inr (f.closed c l e));
    })

pub seed-done : (field : Field) (first marked last : Flood) (cell : Cell) (label : ℕ) → Flooded field first (place_of field.size cell)
    → IsOnGround field.size cell → Marks field first marked cell label →
    Floods field last label is_none_late → Fills marked last → Flooded field last (place_of field.size cell + 1)
seed-done field first marked last cell label f there m floods fills =
    record {
      size_is = floods.size_is;
      none_wait = fills.none_wait;
      sound = floods.sound;
      closed = λ c l e. closed c (floods.closed c l e);
      past = λ c h lt o. past c h o (eq-or-lt_of_le lt);
    }
  where
    closed : (c : Cell) → Contains last.waiting.items c ⊎ ⊥ ⊎ ((e : Cell) → IsOpenStep field c e → HasLabel last.table e) → (e : Cell) → IsOpenStep field c e
        → HasLabel last.table e
    closed c (inl h) = absurd (nothing_in c (subst (λ (xs : List Cell). Contains xs c) fills.none_wait h))
    closed c (inr (inl h)) = absurd h
    closed c (inr (inr h)) = h

    past : (c : Cell) → IsOnGround field.size c → field.is_open c ≡ true → (suc (place_of field.size c) ≡ place_of field.size cell + 1)
        ⊎ (suc (place_of field.size c) < place_of field.size cell + 1) → HasLabel last.table c
    past c h o (inl same) =
        let equal : cell ≡ c = place-same field.size cell c there h (omega arith) in
        let (l, is) = marked-has field first marked cell label m (subst (λ (v : Cell). field.is_open v ≡ true) (sym equal) o) in
        subst (λ (v : Cell). HasLabel last.table v) equal (l, fills.keeps cell l is)
    past c h o (inr before) =
        let (l, is) = f.past c h (omega arith) o in
        (l, fills.keeps c l (marked-keeps field first marked cell label m c l is))

pub labels-found : (field : Field) (s : Flood) (n : ℕ) → field.size.width * field.size.depth ≤ n → Flooded field s n → AreLabels field (entry_in s.table)
labels-found field s n all f = record { sound = f.sound; all = λ c h e. f.past c h (omega (arith, place-below field.size c h)) e }
