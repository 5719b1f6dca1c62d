-- Layers over cells, one cell after another.
use Rattle.sim_base.proofs.Tests.{left_true, no_number, one_more, past, right_true}
use Rattle.sim_ground.proofs.Common.{ap, AreAtMost, AreOpenWhereNone, arith, Bool, Cell, count_by, count_by-le-length, count_by_more_no, count_by_more_yes}
use Rattle.sim_ground.proofs.Common.{covers, false, get_or, get_or-replicate, get_or-set_other, get_or-set_same, get_or_default, in_row, in_rows, int_le}
use Rattle.sim_ground.proofs.Common.{is_open_at, IsGrid, IsOnGround, layers_at, LayersChange, LayersRise, length, length-replicate, length-set, length-take}
use Rattle.sim_ground.proofs.Common.{List, MayChange, MayStep, most_layers, mul-add-lt, nat_le, nat_lt, nat_tests, one_if, OpenCells, place_of, pos, Rect, refl}
use Rattle.sim_ground.proofs.Common.{replicate, same_by_parts, same_cell, same_cell-true, same_from_place, set, Size, Steps, subst, sym, take, true, ℕ, ◌&&◌}
use Rattle.{sim_ground.proofs.Common.{◌*◌, ◌+◌, ◌<◌, ◌==◌, ◌||◌, ◌∙◌, ◌≡◌, ◌≤◌}, std.proofs.lemmas.Bool.{and_from, and_right}}

-- Stretches of cells, one cell or one row more.

-- ---- truth values

or_and : (a t x : Bool) → ((a || t) && x) ≡ ((a && x) || (t && x))
or_and true true true = refl
or_and true true false = refl
or_and true false true = refl
or_and true false false = refl
or_and false true true = refl
or_and false true false = refl
or_and false false true = refl
or_and false false false = refl

turned : (x s n : Bool) → ((s && n) && x) ≡ ((x && s) && n)
turned true true true = refl
turned true true false = refl
turned true false n = refl
turned false true true = refl
turned false true false = refl
turned false false n = refl

-- ---- numbers

not_yet : (west x : ℕ) → (nat_le west x && nat_lt x x) ≡ false
not_yet west x = grind (arith, nat_tests)

has_number : (west x east : ℕ) → west ≤ x → x < east → (nat_le west x && nat_lt x east) ≡ true
has_number west x east le lt = grind (arith, nat_tests)

-- ---- a row

pub row_none : (z west : ℕ) (c : Cell) → in_row z west west c ≡ false
row_none z west c = and_right (c.z == z) (nat_le west c.x && nat_lt c.x west) (no_number west c.x)

pub row_more : (z west x : ℕ) (c : Cell) → west ≤ x → in_row z west (x + 1) c ≡ (in_row z west x c || same_cell c (record { x = x; z = z }))
row_more z west x c le = by (c.z == z) (c.x == x) (one_more west x c.x le)
  where
    by : (b e : Bool) → (nat_le west c.x && nat_lt c.x (x + 1)) ≡ ((nat_le west c.x && nat_lt c.x x) || e) → (b && (nat_le west c.x && nat_lt c.x (x + 1))) ≡
        ((b && (nat_le west c.x && nat_lt c.x x)) || (e && b))
    by true true h = h
    by true false h = h
    by false true h = refl
    by false false h = refl

-- the next cell is not among those before
pub row_apart : (z west x : ℕ) (c : Cell) → in_row z west x c ≡ true → same_cell c (record { x = x; z = z }) ≡ false
row_apart z west x c e = ap (λ (b : Bool). b && (c.z == z)) (past west x c.x (right_true (c.z == z) (nat_le west c.x && nat_lt c.x x) e))

pub row_next : (z west x : ℕ) → in_row z west x (record { x = x; z = z }) ≡ false
row_next z west x = and_right (z == z) (nat_le west x && nat_lt x x) (not_yet west x)

pub row_has : (z west x east : ℕ) → west ≤ x → x < east → in_row z west east (record { x = x; z = z }) ≡ true
row_has z west x east le lt = and_from (z == z) (nat_le west x && nat_lt x east) (grind (arith, nat_tests)) (has_number west x east le lt)

-- ---- several rows

pub rows_none : (south west east : ℕ) (c : Cell) → in_rows south south west east c ≡ false
rows_none south west east c = ap (λ (b : Bool). b && (nat_le west c.x && nat_lt c.x east)) (no_number south c.z)

pub rows_more : (south z west east : ℕ) (c : Cell) → south ≤ z → in_rows south (z + 1) west east c ≡ (in_rows south z west east c || in_row z west east c)
rows_more south z west east c le =
    ap (λ (b : Bool). b && (nat_le west c.x && nat_lt c.x east)) (one_more south z c.z le) ∙ or_and (nat_le south c.z && nat_lt c.z z) (c.z == z)
    (nat_le west c.x && nat_lt c.x east)

pub rows_apart : (south z west east : ℕ) (c : Cell) → in_rows south z west east c ≡ true → in_row z west east c ≡ false
rows_apart south z west east c e = ap (λ (b : Bool). b && (nat_le west c.x && nat_lt c.x east))
    (past south z c.z (left_true (nat_le south c.z && nat_lt c.z z) (nat_le west c.x && nat_lt c.x east) e))

-- the cells of the next row are not among those before
pub rows_next : (south z west east : ℕ) (c : Cell) → in_row z west east c ≡ true → in_rows south z west east c ≡ false
rows_next south z west east c e = by (in_rows south z west east c) refl
  where
    by : (b : Bool) → in_rows south z west east c ≡ b → b ≡ false
    by true h = absurd (let other = rows_apart south z west east c h in cc)
    by false h = refl

pub rows_has : (south z north west east : ℕ) (c : Cell) → south ≤ z → z < north → in_row z west east c ≡ true → in_rows south north west east c ≡ true
rows_has south z north west east c le lt e =
    let row : (c.z == z) ≡ true = left_true (c.z == z) (nat_le west c.x && nat_lt c.x east) e in
    and_from (nat_le south c.z && nat_lt c.z north) (nat_le west c.x && nat_lt c.x east) (grind (arith, nat_tests))
    (right_true (c.z == z) (nat_le west c.x && nat_lt c.x east) e)

-- ---- a rectangle

pub rect_is : (size : Size) (r : Rect) (south north west east : ℕ)
    → ((n : ℕ) → n < size.depth → (nat_le south n && nat_lt n north) ≡ (int_le r.z0 (pos n) && int_le (pos n) r.z1)) →
    ((n : ℕ) → n < size.width → (nat_le west n && nat_lt n east) ≡ (int_le r.x0 (pos n) && int_le (pos n) r.x1)) → (c : Cell) → IsOnGround size c
    → in_rows south north west east c ≡ covers r c
rect_is size r south north west east rows cells c on =
    ap (λ (b : Bool). b && (nat_le west c.x && nat_lt c.x east)) (rows c.z on.north) ∙ ap (λ (b : Bool). (int_le r.z0 (pos c.z) && int_le (pos c.z) r.z1) && b)
    (cells c.x on.east)
    ∙ turned (int_le r.x0 (pos c.x) && int_le (pos c.x) r.x1) (int_le r.z0 (pos c.z)) (int_le (pos c.z) r.z1)

-- ---- steps

one_apart : (a b : Bool) → (a ≡ true → b ≡ false) → one_if (a || b) ≡ one_if a + one_if b
one_apart true true h = absurd (let e = h refl in cc)
one_apart true false h = refl
one_apart false true h = refl
one_apart false false h = refl

steps_more : (more : Bool) (a b old mid new : ℕ) → Steps more a old mid → Steps more b mid new → Steps more (a + b) old new
steps_more true a b old mid new h k = omega (arith, h, k)
steps_more false a b old mid new h k = omega (arith, h, k)

steps_none : (more : Bool) (n : ℕ) → Steps more 0 n n
steps_none true n = omega arith
steps_none false n = omega arith

steps_same : (more : Bool) (old new : ℕ) → Steps more 0 old new → new ≡ old
steps_same true old new h = omega (arith, h)
steps_same false old new h = omega (arith, h)

-- ---- none, and some more

module _ (more : Bool) (size : Size) where
  pub changes_nothing : (which : Cell → Bool) (xs : List ℕ) → ((c : Cell) → which c ≡ false) → LayersChange more which size xs xs
  changes_nothing which xs none c on = subst (λ (b : Bool). Steps more (one_if b) (layers_at size xs c) (layers_at size xs c)) (sym (none c))
      (steps_none more (layers_at size xs c))

  pub changes_more : (p q r : Cell → Bool) (old mid new : List ℕ) → ((c : Cell) → r c ≡ (p c || q c)) → ((c : Cell) → p c ≡ true → q c ≡ false)
      → LayersChange more p size old mid → LayersChange more q size mid new → LayersChange more r size old new
  changes_more p q r old mid new split apart first second c on =
      subst (λ (n : ℕ). Steps more n (layers_at size old c) (layers_at size new c)) (sym (ap one_if (split c) ∙ one_apart (p c) (q c) (apart c)))
      (steps_more more (one_if (p c)) (one_if (q c)) (layers_at size old c) (layers_at size mid c) (layers_at size new c) (first c on) (second c on))

  pub changes_same : (p q : Cell → Bool) (old new : List ℕ) → ((c : Cell) → IsOnGround size c → p c ≡ q c) → LayersChange more p size old new
      → LayersChange more q size old new
  changes_same p q old new same h c on = subst (λ (b : Bool). Steps more (one_if b) (layers_at size old c) (layers_at size new c)) (same c on) (h c on)

  -- a cell that did not change yet may change as it might before
  pub may_at : (p r : Cell → Bool) (old new : List ℕ) (c : Cell) → IsOnGround size c → p c ≡ false → r c ≡ true → LayersChange more p size old new
      → MayChange more r size old → MayStep more (layers_at size new c)
  may_at p r old new c on apart inside h may =
      subst (MayStep more) (sym
      (steps_same more (layers_at size old c) (layers_at size new c)
      (subst (λ (b : Bool). Steps more (one_if b) (layers_at size old c) (layers_at size new c)) apart (h c on)))) (may c on inside)

  pub may_where : (p q : Cell → Bool) (xs : List ℕ) → ((c : Cell) → IsOnGround size c → p c ≡ q c) → MayChange more q size xs → MayChange more p size xs
  may_where p q xs same may c on e = may c on (sym (same c on) ∙ e)

-- ---- one cell

module _ (g : OpenCells) (xs ys : List ℕ) (here : Cell) (after : ℕ) (full : length xs ≡ g.size.width * g.size.depth) (there : IsOnGround g.size here)
    (is : ys ≡ set xs (place_of g.size here) after) where
  pub place_within : place_of g.size here < length xs
  place_within = subst (λ (n : ℕ). place_of g.size here < n) (sym full) (mul-add-lt here.z g.size.width here.x g.size.depth there.north there.east)

  apart : (c : Cell) → IsOnGround g.size c → (c ≡ here → ⊥) → place_of g.size c ≡ place_of g.size here → ⊥
  apart c on other f = let parts = same_from_place c.z c.x here.z here.x g.size.width on.east there.east f in other (same_by_parts c here parts.1 parts.0)

  differs : (c : Cell) → same_cell c here ≡ false → c ≡ here → ⊥
  differs c e same = let self : same_cell c here ≡ true = subst (λ (v : Cell). same_cell c v ≡ true) same (self_is c) in absurd (cc)
    where
      self_is : (v : Cell) → same_cell v v ≡ true
      self_is v = grind (arith, nat_tests)

  at_here : (c : Cell) → same_cell c here ≡ true → layers_at g.size ys c ≡ after
  at_here c e = ap (λ (v : Cell). layers_at g.size ys v) (same_cell-true c here e) ∙ ap (λ (zs : List ℕ). layers_at g.size zs here) is ∙
      get_or-set_same xs (place_of g.size here) after 0 place_within

  elsewhere : (c : Cell) → IsOnGround g.size c → same_cell c here ≡ false → layers_at g.size ys c ≡ layers_at g.size xs c
  elsewhere c on e = ap (λ (zs : List ℕ). layers_at g.size zs c) is ∙ get_or-set_other xs (place_of g.size here) (place_of g.size c) after 0
      (apart c on (differs c e))

  pub cell_changes : (more : Bool) → Steps more 1 (layers_at g.size xs here) after → LayersChange more (λ c. same_cell c here) g.size xs ys
  cell_changes more step c on = by (same_cell c here) refl
    where
      by : (b : Bool) → same_cell c here ≡ b → Steps more (one_if b) (layers_at g.size xs c) (layers_at g.size ys c)
      by true e =
          subst (λ (n : ℕ). Steps more 1 n (layers_at g.size ys c)) (sym (ap (layers_at g.size xs) (same_cell-true c here e)))
          (subst (Steps more 1 (layers_at g.size xs here)) (sym (at_here c e)) step)
      by false e = subst (Steps more 0 (layers_at g.size xs c)) (sym (elsewhere c on e)) (steps_none more (layers_at g.size xs c))

  ys_full : length ys ≡ g.size.width * g.size.depth
  ys_full = ap length is ∙ length-set xs (place_of g.size here) after ∙ full

  -- the grid is told where this opened or closed the cell
  pub cell_told : (new : OpenCells) (free : Bool) → IsGrid g → AreOpenWhereNone g xs → free ≡ (after == 0)
      → new ≡ record g { cells = set g.cells (place_of g.size here) free } → AreOpenWhereNone new ys
  cell_told new free grid agree e told = subst (λ (h : OpenCells). AreOpenWhereNone h ys) (sym told)
      (record { full = ys_full; each = λ c on. by c on (same_cell c here) refl })
    where
      inside : place_of g.size here < length g.cells
      inside = subst (λ (n : ℕ). place_of g.size here < n) (sym grid.full) (mul-add-lt here.z g.size.width here.x g.size.depth there.north there.east)

      by : (c : Cell) → IsOnGround g.size c → (b : Bool) → same_cell c here ≡ b → get_or (set g.cells (place_of g.size here) free) (place_of g.size c) false ≡
          (layers_at g.size ys c == 0)
      by c on true s =
          ap (λ (v : Cell). get_or (set g.cells (place_of g.size here) free) (place_of g.size v) false) (same_cell-true c here s) ∙
          get_or-set_same g.cells (place_of g.size here) free false inside ∙ e
          ∙ sym (ap (λ (n : ℕ). n == 0) (at_here c s))
      by c on false s = get_or-set_other g.cells (place_of g.size here) (place_of g.size c) free false (apart c on (differs c s)) ∙ agree.each c on ∙
          sym (ap (λ (n : ℕ). n == 0) (elsewhere c on s))

  -- and it is as it was where this did not
  pub cell_stays : AreOpenWhereNone g xs → (layers_at g.size xs here == 0) ≡ (after == 0) → AreOpenWhereNone g ys
  cell_stays agree e = record { full = ys_full; each = λ c on. by c on (same_cell c here) refl }
    where
      by : (c : Cell) → IsOnGround g.size c → (b : Bool) → same_cell c here ≡ b → is_open_at g c ≡ (layers_at g.size ys c == 0)
      by c on true s =
          agree.each c on ∙ ap (λ (v : Cell). layers_at g.size xs v == 0) (same_cell-true c here s) ∙ e ∙ sym (ap (λ (n : ℕ). n == 0) (at_here c s))
      by c on false s = agree.each c on ∙ sym (ap (λ (n : ℕ). n == 0) (elsewhere c on s))

-- ---- no layer yet

pub none_yet : (g : OpenCells) (size : Size) (xs : List ℕ) → g ≡ record { size = size; cells = replicate (size.width * size.depth) true }
    → xs ≡ replicate (size.width * size.depth) 0 → AreOpenWhereNone g xs
none_yet g size xs e f = subst (λ (h : OpenCells). AreOpenWhereNone h xs) (sym e)
    (subst (AreOpenWhereNone (record { size = size; cells = replicate (size.width * size.depth) true })) (sym f) (record {
      full = length-replicate (size.width * size.depth) 0;
      each = λ c on.
          let lt = mul-add-lt c.z size.width c.x size.depth on.north on.east in
          get_or-replicate (size.width * size.depth) (c.z * size.width + c.x) true false lt ∙
          sym (ap (λ (n : ℕ). n == 0) (get_or-replicate (size.width * size.depth) (c.z * size.width + c.x) 0 0 lt));
    }))

-- ---- the cell that is stepped on

module _ (g : OpenCells) (xs : List ℕ) (here : Cell) (place before after : ℕ) (full : length xs ≡ g.size.width * g.size.depth) (there : IsOnGround g.size here)
    (e : place ≡ place_of g.size here) (r : before ≡ get_or xs place before) where
  ys_is : set xs place after ≡ set xs (place_of g.size here) after
  ys_is = ap (λ (n : ℕ). set xs n after) e

  read_is : before ≡ layers_at g.size xs here
  read_is =
      let within : place < length xs = subst (λ (n : ℕ). n < length xs) (sym e) (place_within g xs (set xs place after) here after full there ys_is) in
      r ∙ get_or_default xs place before 0 within ∙ ap (λ (n : ℕ). get_or xs n 0) e

  pub step_layers : (more : Bool) → Steps more 1 before after → LayersChange more (λ c. same_cell c here) g.size xs (set xs place after)
  step_layers more step = cell_changes g xs (set xs place after) here after full there ys_is more (subst (λ (n : ℕ). Steps more 1 n after) read_is step)

  pub step_told : (new : OpenCells) (free : Bool) → IsGrid g → AreOpenWhereNone g xs → free ≡ (after == 0)
      → new ≡ record g { cells = set g.cells (place_of g.size here) free } → AreOpenWhereNone new (set xs place after)
  step_told = cell_told g xs (set xs place after) here after full there ys_is

  pub step_stays : AreOpenWhereNone g xs → (before == 0) ≡ (after == 0) → AreOpenWhereNone g (set xs place after)
  step_stays agree same = cell_stays g xs (set xs place after) here after full there ys_is agree (ap (λ (n : ℕ). n == 0) (sym read_is) ∙ same)

-- ---- a row, and several

module _ (more : Bool) (size later : Size) (old mid : List ℕ) (same : later ≡ size) where
  pub row_may : (z west east x : ℕ) → west ≤ x → x < east → IsOnGround size (record { x = x; z = z }) → LayersChange more (in_row z west x) size old mid
      → MayChange more (in_row z west east) size old → MayStep more (layers_at later mid (record { x = x; z = z }))
  row_may z west east x le lt on h may =
      let here : Cell = record { x = x; z = z } in
      subst (λ (s : Size). MayStep more (layers_at s mid here)) (sym same) (may_at more size (in_row z west x) (in_row z west east) old mid here on
      (row_next z west x) (row_has z west x east le lt) h may)

  pub row_steps : (z west x : ℕ) (new : List ℕ) → west ≤ x → LayersChange more (in_row z west x) size old mid
      → LayersChange more (λ c. same_cell c (record { x = x; z = z })) later mid new → LayersChange more (in_row z west (x + 1)) size old new
  row_steps z west x new le h step =
      let here : Cell = record { x = x; z = z } in
      changes_more more size (in_row z west x) (λ (c : Cell). same_cell c here) (in_row z west (x + 1)) old mid new (λ c. row_more z west x c le)
      (row_apart z west x) h
      (subst (λ (s : Size). LayersChange more (λ c. same_cell c here) s mid new) same step)

  pub rows_may : (south north west east z : ℕ) → south ≤ z → z < north → LayersChange more (in_rows south z west east) size old mid
      → MayChange more (in_rows south north west east) size old → MayChange more (in_row z west east) later mid
  rows_may south north west east z le lt h may =
      subst (λ (s : Size). MayChange more (in_row z west east) s mid) (sym same)
      (λ c on e. may_at more size (in_rows south z west east) (in_rows south north west east) old mid c on (rows_next south z west east c e)
      (rows_has south z north west east c le lt e) h may)

  pub rows_steps : (south west east z : ℕ) (new : List ℕ) → south ≤ z → LayersChange more (in_rows south z west east) size old mid
      → LayersChange more (in_row z west east) later mid new → LayersChange more (in_rows south (z + 1) west east) size old new
  rows_steps south west east z new le h step =
      changes_more more size (in_rows south z west east) (in_row z west east) (in_rows south (z + 1) west east) old mid new
      (λ c. rows_more south z west east c le) (rows_apart south z west east) h
      (subst (λ (s : Size). LayersChange more (in_row z west east) s mid new) same step)

-- ---- several rectangles

pub next_may : {X : Type 0} (has : X → Cell → Bool) (xs : List X) (size later : Size) (old mid : List ℕ) (i : ℕ) (x : X) → later ≡ size → i < length xs
    → LayersRise (λ c. count_by (λ (y : X). has y c) (take i xs)) size old mid → AreAtMost most_layers size old → length xs ≤ 4096
    → MayChange true (has x) later mid
next_may has xs size later old mid i x same below h most few =
    subst (λ (s : Size). MayChange true (has x) s mid) (sym same)
    (λ c on e. omega (arith, h c on, most c on, few, below, count_by-le-length (λ y. has y c) (take i xs), length-take i xs))

module _ {X : Type 0} (has : X → Cell → Bool) (xs : List X) (size later : Size) (old mid : List ℕ) (i : ℕ) (d : X) (same : later ≡ size) (below : i < length xs)
    (h : LayersRise (λ c. count_by (λ (y : X). has y c) (take i xs)) size old mid) where
  next_count : (c : Cell) → count_by (λ (y : X). has y c) (take (i + 1) xs) ≡ count_by (λ (y : X). has y c) (take i xs) + one_if (has (get_or xs i d) c)
  next_count c = by (has (get_or xs i d) c) refl
    where
      by : (b : Bool) → has (get_or xs i d) c ≡ b → count_by (λ (y : X). has y c) (take (i + 1) xs) ≡ count_by (λ (y : X). has y c) (take i xs) + one_if b
      by true e = count_by_more_yes (λ (y : X). has y c) xs i d below e
      by false e = count_by_more_no (λ (y : X). has y c) xs i d below e ∙ omega arith

  pub next_rises : (new : List ℕ) → LayersChange true (has (get_or xs i d)) later mid new → LayersRise (λ c. count_by (λ (y : X). has y c) (take (i + 1) xs))
      size old new
  next_rises new step c on = omega (arith, h c on, next_count c, subst (λ (s : Size). LayersChange true (has (get_or xs i d)) s mid new) same step c on)

  pub next_rises_at : d ≡ get_or xs i d → (new : List ℕ) → LayersChange true (has d) later mid new
      → LayersRise (λ c. count_by (λ (y : X). has y c) (take (i + 1) xs)) size old new
  next_rises_at is new step = next_rises new (subst (λ (y : X). LayersChange true (has y) later mid new) is step)
