-- The eight directions: a neighbour lies on the ground, has the cell as its own neighbour, and stands in one row or one column with it just where
-- the direction is straight.
use Rattle.sim_base.{proofs.GroundPoints.below, specs.{Places.{back, cell_at, forward, level, offsets}, Ways.steps_into}}
use Rattle.sim_laws.proofs.Common.{and_from, and_parts, ap, ap₂, arith, beside_open, Bool, Cell, cells_of, cond, cond-true, cond_some, entry, eq-eqb, eqb}
use Rattle.sim_laws.proofs.Common.{eqb-true, false, Field, filter_map, find, get_or, inl, inr, int_le, int_lt, ints, is_free, is_straight, IsOnGround, IsStep}
use Rattle.sim_laws.proofs.Common.{le-leb, leb, List, lt-ltb, ltb, map, ne_eqb, negsuc, neighbour, None, Option, option_and_then, pos, range_with_len, refl}
use Rattle.sim_laws.proofs.Common.{same_cell, Size, slice_get, slice_get_within, Some, Source, step_cost, step_from, steps_of, suc, sym, table_of, true}
use Rattle.sim_laws.proofs.Common.{true≢false, unsigned_abs, zero, ℕ, ℤ, ⊎_elim, [], ◌&&◌, ◌++◌, ◌+ℤ◌, ◌+◌, ◌<◌, ◌||◌, ◌∙◌, ◌∷◌, ◌≡◌, ◌≤◌, ◌⊎◌}
use Rattle.std.{proofs.{Common.flat_map, lemmas.{List.FromFn.get_or-map-range_with_len, Option.option_and_then_some}}, specs.List.cons_option}

-- What is among the members of a list, by recursion on the list; of a range, a map, a filter, and joined lists.

-- x is a member of the list
abbrev pub Has : {X : Type 0} → List X → X → Type 0
Has [] x = ⊥
Has (y ∷ ys) x = (y ≡ x) ⊎ Has ys x

pub Has-range : (a n j : ℕ) → a ≤ j → j < a + n → Has (range_with_len a n) j
Has-range a zero j f g = absurd (omega arith)
Has-range a (suc n) j f g = by (eq_or_more a j f) (λ h. Has-range (a + 1) n j h (omega arith))
  where
    eq_or_more : (a j : ℕ) → a ≤ j → (a ≡ j) ⊎ (a + 1 ≤ j)
    eq_or_more a j f = grind arith

    by : (a ≡ j) ⊎ (a + 1 ≤ j) → (a + 1 ≤ j → Has (range_with_len (a + 1) n) j) → (a ≡ j) ⊎ Has (range_with_len (a + 1) n) j
    by (inl e) rest = inl e
    by (inr h) rest = inr (rest h)

pub Has-in_range : (a n j : ℕ) → Has (range_with_len a n) j → (a ≤ j) × (j < a + n)
Has-in_range a zero j h = absurd h
Has-in_range a (suc n) j (inl e) = omega arith
Has-in_range a (suc n) j (inr h) = let more = Has-in_range (a + 1) n j h in omega (arith, more)

pub Has-append_left : {X : Type 0} (xs ys : List X) (x : X) → Has xs x → Has (xs ++ ys) x
Has-append_left [] ys x h = absurd h
Has-append_left (y ∷ xs) ys x (inl e) = inl e
Has-append_left (y ∷ xs) ys x (inr h) = inr (Has-append_left xs ys x h)

pub Has-append_right : {X : Type 0} (xs ys : List X) (x : X) → Has ys x → Has (xs ++ ys) x
Has-append_right [] ys x h = h
Has-append_right (y ∷ xs) ys x h = inr (Has-append_right xs ys x h)

pub Has-append_cases : {X : Type 0} (xs ys : List X) (x : X) → Has (xs ++ ys) x → Has xs x ⊎ Has ys x
Has-append_cases [] ys x h = inr h
Has-append_cases (y ∷ xs) ys x (inl e) = inl (inl e)
Has-append_cases (y ∷ xs) ys x (inr h) = ⊎_elim (λ (l : Has xs x). inl (inr l)) (λ (r : Has ys x). inr r) (Has-append_cases xs ys x h)

module _ {X Y : Type 0} where
  pub Has-map : (f : X → Y) (xs : List X) (x : X) → Has xs x → Has (map f xs) (f x)
  Has-map f [] x h = absurd h
  Has-map f (y ∷ xs) x (inl e) = inl (ap f e)
  Has-map f (y ∷ xs) x (inr h) = inr (Has-map f xs x h)

  pub Has-of_map : (f : X → Y) (xs : List X) (y : Y) → Has (map f xs) y → (x : X) × Has xs x × (f x ≡ y)
  Has-of_map f [] y h = absurd h
  Has-of_map f (x ∷ xs) y (inl e) = (x, inl refl, e)
  Has-of_map f (x ∷ xs) y (inr h) = let (v, m, e) = Has-of_map f xs y h in (v, inr m, e)

  pub Has-flat_map : (f : X → List Y) (xs : List X) (x : X) (y : Y) → Has xs x → Has (f x) y → Has (flat_map f xs) y
  Has-flat_map f [] x y h g = absurd h
  Has-flat_map f (v ∷ xs) x y (inl e) g = Has-append_left (f v) (flat_map f xs) y (rw e g)
  Has-flat_map f (v ∷ xs) x y (inr h) g = Has-append_right (f v) (flat_map f xs) y (Has-flat_map f xs x y h g)

  pub Has-of_flat_map : (f : X → List Y) (xs : List X) (y : Y) → Has (flat_map f xs) y → (x : X) × Has xs x × Has (f x) y
  Has-of_flat_map f [] y h = absurd h
  Has-of_flat_map f (v ∷ xs) y h = by (Has-append_cases (f v) (flat_map f xs) y h) (Has-of_flat_map f xs y)
    where
      by : Has (f v) y ⊎ Has (flat_map f xs) y → (Has (flat_map f xs) y → (x : X) × Has xs x × Has (f x) y) → (x : X) × Has (v ∷ xs) x × Has (f x) y
      by (inl l) rest = (v, inl refl, l)
      by (inr r) rest = let (x, m, e) = rest r in (x, inr m, e)

  pub Has-filter_map : (f : X → Option Y) (xs : List X) (x : X) (y : Y) → Has xs x → f x ≡ Some y → Has (filter_map f xs) y
  Has-filter_map f [] x y h g = absurd h
  Has-filter_map f (v ∷ xs) x y (inl e) g = let first : f v ≡ Some y = ap f e ∙ g in rw first (inl refl)
  Has-filter_map f (v ∷ xs) x y (inr h) g = by (f v) (Has-filter_map f xs x y h g)
    where
      by : (o : Option Y) → Has (filter_map f xs) y → Has (cons_option o (filter_map f xs)) y
      by None m = m
      by (Some w) m = inr m

  pub Has-of_filter_map : (f : X → Option Y) (xs : List X) (y : Y) → Has (filter_map f xs) y → (x : X) × Has xs x × (f x ≡ Some y)
  Has-of_filter_map f [] y h = absurd h
  Has-of_filter_map f (v ∷ xs) y h = by (f v) refl h (Has-of_filter_map f xs y)
    where
      by : (o : Option Y) → f v ≡ o → Has (cons_option o (filter_map f xs)) y → (Has (filter_map f xs) y → (x : X) × Has xs x × (f x ≡ Some y)) → (x : X)
          × Has (v ∷ xs) x × (f x ≡ Some y)
      by None e m rest = let (x, k, g) = rest m in (x, inr k, g)
      by (Some w) e (inl k) rest = (v, inl refl, e ∙ ap Some k)
      by (Some w) e (inr k) rest = let (x, l, g) = rest k in (x, inr l, g)

-- The first place from a on at which h gives something that passes: what it gives there, and that nothing before passes.
pub record IsFirstAt {Y : Type 0} (h : ℕ → Option Y) (test : Y → Bool) (a : ℕ) (y : Y) : Type 0 where
  pub place : ℕ
  pub gives : h place ≡ Some y
  pub passes : test y ≡ true
  pub none_before : (j : ℕ) (v : Y) → a ≤ j → j < place → h j ≡ Some v → test v ≡ false

module _ {Y : Type 0} (h : ℕ → Option Y) (test : Y → Bool) where
  -- what `find` says of what h gives at the places from a on, n of them
  abbrev pub Finds : ℕ → ℕ → Option Y → Type 0
  Finds a n None = (j : ℕ) (v : Y) → a ≤ j → j < a + n → h j ≡ Some v → test v ≡ false
  Finds a n (Some y) = IsFirstAt h test a y

  later : (a n : ℕ) (o : Option Y) → ((v : Y) → h a ≡ Some v → test v ≡ false) → Finds (a + 1) n o → Finds a (suc n) o
  later a n None here rest = λ j v f g e. ⊎_elim (λ (s : a ≡ j). here v (ap h s ∙ e)) (λ (m : a + 1 ≤ j). rest j v m (omega arith) e) (at_or_after a j f)
    where
      at_or_after : (a j : ℕ) → a ≤ j → (a ≡ j) ⊎ (a + 1 ≤ j)
      at_or_after a j f = grind arith
  later a n (Some y) here rest = record {
    place = rest.place;
    gives = rest.gives;
    passes = rest.passes;
    none_before = λ j v f g e. ⊎_elim (λ (s : a ≡ j). here v (ap h s ∙ e)) (λ (m : a + 1 ≤ j). rest.none_before j v m g e) (at_or_after a j f);
  }
    where
      at_or_after : (a j : ℕ) → a ≤ j → (a ≡ j) ⊎ (a + 1 ≤ j)
      at_or_after a j f = grind arith

  pub find-filter_map : (a n : ℕ) → Finds a n (find test (filter_map h (range_with_len a n)))
  find-filter_map a zero = λ j v f g e. absurd (omega arith)
  find-filter_map a (suc n) = by (h a) refl (find-filter_map (a + 1) n)
    where
      rest : List Y
      rest = filter_map h (range_with_len (a + 1) n)

      tested : (y : Y) (b : Bool) → h a ≡ Some y → test y ≡ b → Finds (a + 1) n (find test rest) → Finds a (suc n) (cond b (Some y) (find test rest))
      tested y true e t more = record { place = a; gives = e; passes = t; none_before = λ j v f g k. absurd (omega arith) }
      tested y false e t more = later a n (find test rest) (λ v k. let same : y ≡ v = cc in ap test (sym same) ∙ t) more

      by : (o : Option Y) → h a ≡ o → Finds (a + 1) n (find test rest) → Finds a (suc n) (find test (cons_option o rest))
      by None e more = later a n (find test rest) (λ v k. absurd (cc)) more
      by (Some y) e more = tested y (test y) e refl more

-- The cells of a ground, and tables over it.

pub same_by_parts : (c e : Cell) → c.x ≡ e.x → c.z ≡ e.z → c ≡ e
same_by_parts c e f g = ap (λ (z : ℕ). record { x = c.x; z = z }) g ∙ ap (λ (x : ℕ). record { x = x; z = e.z }) f

pub same_cell-true : (c e : Cell) → same_cell c e ≡ true → c ≡ e
same_cell-true c e h =
    let (f, g) = and_parts (eqb c.x e.x) (eqb c.z e.z) h in
    same_by_parts c e (eqb-true c.x e.x f) (eqb-true c.z e.z g)

pub same_cell-self : (c : Cell) → same_cell c c ≡ true
same_cell-self c = and_from (eqb c.x c.x) (eqb c.z c.z) (eq-eqb c.x c.x refl) (eq-eqb c.z c.z refl)

pub entry-table_of : {X : Type 0} (size : Size) (other : X) (f : Cell → X) (c : Cell) → IsOnGround size c → entry other (table_of size f) c ≡ f c
entry-table_of {X} size other f c on =
    let row : ℕ → List X = λ z. map (λ x. f (record { x = x; z = z })) (range_with_len 0 size.width) in
    let at_row : get_or (table_of size f) c.z [] ≡ row c.z = get_or-map-range_with_len row 0 size.depth c.z c.z [] on.north (omega arith) in
    let at_place : get_or (row c.z) c.x other ≡ f c = get_or-map-range_with_len (λ x. f (record { x = x; z = c.z })) 0 size.width c.x c.x other on.east
    (omega arith) in
    ap (λ (r : List X). get_or r c.x other) at_row ∙ at_place

abbrev cells_in_row : Size → ℕ → List Cell
cells_in_row size z = map (λ x. record { x = x; z = z }) (range_with_len 0 size.width)

pub Has-cells_of : (size : Size) (c : Cell) → IsOnGround size c → Has (cells_of size) c
Has-cells_of size c on =
    Has-flat_map (cells_in_row size) (range_with_len 0 size.depth) c.z c (Has-range 0 size.depth c.z (omega arith) (omega arith))
    (Has-map (λ x. record { x = x; z = c.z }) (range_with_len 0 size.width) c.x (Has-range 0 size.width c.x (omega arith) (omega arith)))

pub Has-of_cells_of : (size : Size) (c : Cell) → Has (cells_of size) c → IsOnGround size c
Has-of_cells_of size c h =
    let (z, m, k) = Has-of_flat_map (cells_in_row size) (range_with_len 0 size.depth) c h in
    let (x, l, e) = Has-of_map (λ x. record { x = x; z = z }) (range_with_len 0 size.width) c k in
    let by_z = Has-in_range 0 size.depth z m in
    let by_x = Has-in_range 0 size.width x l in
    let is_x : x ≡ c.x = ap (λ (v : Cell). v.x) e in
    let is_z : z ≡ c.z = ap (λ (v : Cell). v.z) e in
    record { east = omega (arith, by_x, is_x); north = omega (arith, by_z, is_z) }

-- the two numbers are those of c, which lies on the ground
pub record IsPlaceOf (size : Size) (x z : ℤ) (c : Cell) : Type 0 where
  pub on : IsOnGround size c
  pub by_x : x ≡ pos c.x
  pub by_z : z ≡ pos c.z

pub counts : (z : ℤ) → int_le (pos 0) z ≡ true → z ≡ pos (unsigned_abs z)
counts (pos n) h = refl
counts (negsuc n) h = absurd (true≢false (sym h))

abbrev in_bounds : Size → ℤ → ℤ → Bool
in_bounds size x z = int_le (pos 0) x && int_lt x (pos size.width) && int_le (pos 0) z && int_lt z (pos size.depth)

pub cell_at-some : (size : Size) (x z : ℤ) (c : Cell) → cell_at size x z ≡ Some c → IsPlaceOf size x z c
cell_at-some size x z c e =
    let here : Cell = record { x = unsigned_abs x; z = unsigned_abs z } in
    let (all, is) = cond_some (in_bounds size x z) here c e in
    let (three, south) = and_parts (int_le (pos 0) x && int_lt x (pos size.width) && int_le (pos 0) z) (int_lt z (pos size.depth)) all in
    let (two, north) = and_parts (int_le (pos 0) x && int_lt x (pos size.width)) (int_le (pos 0) z) three in
    let (west, east) = and_parts (int_le (pos 0) x) (int_lt x (pos size.width)) two in
    let is_x : unsigned_abs x ≡ c.x = ap (λ (v : Cell). v.x) is in
    let is_z : unsigned_abs z ≡ c.z = ap (λ (v : Cell). v.z) is in
    record {
      on = record { east = omega (arith, is_x, below x size.width west east); north = omega (arith, is_z, below z size.depth north south) };
      by_x = counts x west ∙ ap pos is_x;
      by_z = counts z north ∙ ap pos is_z;
    }

pub cell_at-is : (size : Size) (x z : ℤ) (c : Cell) → IsPlaceOf size x z c → cell_at size x z ≡ Some c
cell_at-is size x z c p =
    ap₂ (cell_at size) p.by_x p.by_z ∙ cond-true (in_bounds size (pos c.x) (pos c.z)) (Some c) None all
  where
    all : in_bounds size (pos c.x) (pos c.z) ≡ true
    all =
        and_from (leb 0 c.x && ltb c.x size.width && leb 0 c.z) (ltb c.z size.depth)
        (and_from (leb 0 c.x && ltb c.x size.width) (leb 0 c.z) (and_from (leb 0 c.x) (ltb c.x size.width) (le-leb 0 c.x (omega arith))
        (lt-ltb c.x size.width p.on.east)) (le-leb 0 c.z (omega arith)))
        (lt-ltb c.z size.depth p.on.north)

-- where c has p in a direction, p has c in the opposite one
back_at : (size : Size) (c p : Cell) (x z u v : ℤ) → x +ℤ u ≡ pos 0 → z +ℤ v ≡ pos 0 → IsOnGround size c → cell_at size (pos c.x +ℤ x) (pos c.z +ℤ z) ≡ Some p
    → cell_at size (pos p.x +ℤ u) (pos p.z +ℤ v) ≡ Some c
back_at size c p x z u v f g on e =
    let place = cell_at-some size (pos c.x +ℤ x) (pos c.z +ℤ z) p e in
    cell_at-is size (pos p.x +ℤ u) (pos p.z +ℤ v) c (record {
      on = on;
      by_x = let h = place.by_x in omega (arith, ints);
      by_z = let h = place.by_z in omega (arith, ints);
    })

-- p has c in some direction, which is straight just where the direction from c to p is
pub record HasBack (size : Size) (p c : Cell) (which : ℕ) : Type 0 where
  pub way_back : ℕ
  pub leads : neighbour size p way_back ≡ Some c
  pub as_straight : is_straight way_back ≡ is_straight which

pub past_eight : (size : Size) (c p : Cell) (w : ℕ) → neighbour size c (suc (suc (suc (suc (suc (suc (suc (suc w)))))))) ≡ Some p → ⊥
past_eight size c p w e = cc

pub neighbour-back : (size : Size) (c p : Cell) (which : ℕ) → IsOnGround size c → neighbour size c which ≡ Some p → HasBack size p c which
neighbour-back size c p zero on e = record { way_back = 2; leads = back_at size c p forward level back level refl refl on e; as_straight = refl }
neighbour-back size c p (suc zero) on e = record { way_back = 3; leads = back_at size c p level forward level back refl refl on e; as_straight = refl }
neighbour-back size c p (suc (suc zero)) on e = record { way_back = 0; leads = back_at size c p back level forward level refl refl on e; as_straight = refl }
neighbour-back size c p (suc (suc (suc zero))) on e =
    record { way_back = 1; leads = back_at size c p level back level forward refl refl on e; as_straight = refl }
neighbour-back size c p (suc (suc (suc (suc zero)))) on e =
    record { way_back = 6; leads = back_at size c p forward forward back back refl refl on e; as_straight = refl }
neighbour-back size c p (suc (suc (suc (suc (suc zero))))) on e =
    record { way_back = 7; leads = back_at size c p back forward forward back refl refl on e; as_straight = refl }
neighbour-back size c p (suc (suc (suc (suc (suc (suc zero)))))) on e =
    record { way_back = 4; leads = back_at size c p back back forward forward refl refl on e; as_straight = refl }
neighbour-back size c p (suc (suc (suc (suc (suc (suc (suc zero))))))) on e =
    record { way_back = 5; leads = back_at size c p forward back back forward refl refl on e; as_straight = refl }
neighbour-back size c p (suc (suc (suc (suc (suc (suc (suc (suc w)))))))) on e = absurd (past_eight size c p w e)

as_far : (a b : ℕ) → pos a +ℤ level ≡ pos b → eqb a b ≡ true
as_far a b e = eq-eqb a b (omega (arith, ints))

further : (a b : ℕ) → pos a +ℤ forward ≡ pos b → eqb a b ≡ false
further a b e = ne_eqb a b (λ (s : a ≡ b). omega (arith, ints))

less_far : (a b : ℕ) → pos a +ℤ back ≡ pos b → eqb a b ≡ false
less_far a b e = ne_eqb a b (λ (s : a ≡ b). omega (arith, ints))

-- c and p stand in one row or one column
abbrev pub in_line : Cell → Cell → Bool
in_line c p = eqb c.x p.x || eqb c.z p.z

line_at : (size : Size) (c p : Cell) (x z : ℤ) (s t : Bool) → (pos c.x +ℤ x ≡ pos p.x → eqb c.x p.x ≡ s) → (pos c.z +ℤ z ≡ pos p.z → eqb c.z p.z ≡ t)
    → cell_at size (pos c.x +ℤ x) (pos c.z +ℤ z) ≡ Some p → (s || t) ≡ in_line c p
line_at size c p x z s t f g e =
    let place = cell_at-some size (pos c.x +ℤ x) (pos c.z +ℤ z) p e in
    sym (ap₂ (λ (a b : Bool). a || b) (f place.by_x) (g place.by_z))

pub straight-in_line : (size : Size) (c p : Cell) (which : ℕ) → neighbour size c which ≡ Some p → is_straight which ≡ in_line c p
straight-in_line size c p zero e = line_at size c p forward level false true (further c.x p.x) (as_far c.z p.z) e
straight-in_line size c p (suc zero) e = line_at size c p level forward true false (as_far c.x p.x) (further c.z p.z) e
straight-in_line size c p (suc (suc zero)) e = line_at size c p back level false true (less_far c.x p.x) (as_far c.z p.z) e
straight-in_line size c p (suc (suc (suc zero))) e = line_at size c p level back true false (as_far c.x p.x) (less_far c.z p.z) e
straight-in_line size c p (suc (suc (suc (suc zero)))) e = line_at size c p forward forward false false (further c.x p.x) (further c.z p.z) e
straight-in_line size c p (suc (suc (suc (suc (suc zero))))) e = line_at size c p back forward false false (less_far c.x p.x) (further c.z p.z) e
straight-in_line size c p (suc (suc (suc (suc (suc (suc zero)))))) e = line_at size c p back back false false (less_far c.x p.x) (less_far c.z p.z) e
straight-in_line size c p (suc (suc (suc (suc (suc (suc (suc zero))))))) e = line_at size c p forward back false false (further c.x p.x) (less_far c.z p.z) e
straight-in_line size c p (suc (suc (suc (suc (suc (suc (suc (suc w)))))))) e = absurd (past_eight size c p w e)

by_offset : (size : Size) (c p : Cell) (o : Option (ℤ × ℤ)) → option_and_then (λ (d : ℤ × ℤ). cell_at size (pos c.x +ℤ d.0) (pos c.z +ℤ d.1)) o ≡ Some p
    → IsOnGround size p
by_offset size c p None e = absurd (cc)
by_offset size c p (Some d) e = (cell_at-some size (pos c.x +ℤ d.0) (pos c.z +ℤ d.1) p e).on

pub neighbour-on : (size : Size) (c p : Cell) (which : ℕ) → neighbour size c which ≡ Some p → IsOnGround size p
neighbour-on size c p which e = by_offset size c p (slice_get offsets which) e

some_offset : (size : Size) (c p : Cell) (o : Option (ℤ × ℤ)) → option_and_then (λ (d : ℤ × ℤ). cell_at size (pos c.x +ℤ d.0) (pos c.z +ℤ d.1)) o ≡ Some p
    → (d : ℤ × ℤ) × (o ≡ Some d)
some_offset size c p None e = absurd (cc)
some_offset size c p (Some d) e = (d, refl)

pub neighbour-below_eight : (size : Size) (c p : Cell) (which : ℕ) → neighbour size c which ≡ Some p → which < 8
neighbour-below_eight size c p which e = let (d, h) = some_offset size c p (slice_get offsets which) e in slice_get_within offsets which d h

-- The steps into a cell, as `steps_of` lists them, are all the steps that the definition has.

abbrev pub may_pass : (Cell → Bool) → Cell → Cell → ℕ → Bool
may_pass free p c which = is_straight which || beside_open free p c

-- what it means that the list has a step from that direction
pub record IsStepFrom (size : Size) (free : Cell → Bool) (c : Cell) (which : ℕ) (s : Source) : Type 0 where
  pub leads : neighbour size c which ≡ Some s.cell
  pub passes : may_pass free s.cell c which ≡ true
  pub cost_is : s.cost ≡ step_cost which

pub step_from-some : (size : Size) (free : Cell → Bool) (c : Cell) (which : ℕ) (s : Source) → step_from size free c which ≡ Some s
    → IsStepFrom size free c which s
step_from-some size free c which s e = option_and_then_some step (neighbour size c which) s e by
  where
    step : Cell → Option Source
    step p = cond (may_pass free p c which) (Some (record { cell = p; cost = step_cost which })) None

    by : (p : Cell) → neighbour size c which ≡ Some p → step p ≡ Some s → IsStepFrom size free c which s
    by p f g =
        let (passes, is) = cond_some (may_pass free p c which) (record { cell = p; cost = step_cost which }) s g in
        let cell_is : p ≡ s.cell = ap (λ (v : Source). v.cell) is in
        record {
          leads = f ∙ ap Some cell_is;
          passes = ap (λ (v : Cell). may_pass free v c which) (sym cell_is) ∙ passes;
          cost_is = sym (ap (λ (v : Source). v.cost) is);
        }

pub step_from-is : (size : Size) (free : Cell → Bool) (c p : Cell) (which : ℕ) → neighbour size c which ≡ Some p → may_pass free p c which ≡ true
    → step_from size free c which ≡ Some (record { cell = p; cost = step_cost which })
step_from-is size free c p which e f = rw e (cond-true (may_pass free p c which) (Some (record { cell = p; cost = step_cost which })) None f)

pub same_cost : (v w : ℕ) → is_straight v ≡ is_straight w → step_cost v ≡ step_cost w
same_cost v w e = ap (λ (b : Bool). cond b 10 14) e

module _ (field : Field) (start : Cell) where
  -- whether a cell is free, as the table has it
  abbrev pub free : Cell → Bool
  free = entry false (table_of field.size (is_free field start))

  pub free-is : (c : Cell) → IsOnGround field.size c → free c ≡ is_free field start c
  free-is c on = entry-table_of field.size false (is_free field start) c on

  pub steps-is : (c : Cell) → IsOnGround field.size c → entry [] (steps_of field start) c ≡ steps_into field.size free c
  steps-is c on = entry-table_of field.size [] (steps_into field.size free) c on

  beside-is : (p c : Cell) → IsOnGround field.size p → IsOnGround field.size c → beside_open free p c ≡ beside_open (is_free field start) p c
  beside-is p c f g =
      ap₂ (λ (a b : Bool). a && b)
      (free-is (record { x = p.x; z = c.z }) (record { east = f.east; north = g.north }))
      (free-is (record { x = c.x; z = p.z }) (record { east = g.east; north = f.north }))

  same_passes : (p c : Cell) (v w : ℕ) → IsOnGround field.size p → IsOnGround field.size c → is_straight v ≡ is_straight w
      → may_pass free p c v ≡ may_pass (is_free field start) p c w
  same_passes p c v w f g e = ap₂ (λ (a b : Bool). a || b) e (beside-is p c f g)

  pub IsStep-from : (c : Cell) (which : ℕ) (s : Source) → IsOnGround field.size c → is_free field start c ≡ true → IsStepFrom field.size free c which s
      → IsStep field start s.cell c s.cost
  IsStep-from c which s on is_free h =
      let back = neighbour-back field.size c s.cell which on h.leads in
      let there = neighbour-on field.size c s.cell which h.leads in
      record {
        which = back.way_back;
        leads = back.leads;
        free = is_free;
        beside = sym (same_passes s.cell c which back.way_back there on (sym back.as_straight)) ∙ h.passes;
        cost_is = h.cost_is ∙ same_cost which back.way_back (sym back.as_straight);
      }

  -- a step into c that the definition has, as the list has it
  pub record IsListed (p c : Cell) (k : ℕ) : Type 0 where
    pub which : ℕ
    pub leads : neighbour field.size c which ≡ Some p
    pub passes : may_pass free p c which ≡ true
    pub cost_is : k ≡ step_cost which

  pub IsListed-from_step : (p c : Cell) (k : ℕ) → IsOnGround field.size p → IsStep field start p c k → IsListed p c k
  IsListed-from_step p c k on h =
      let back = neighbour-back field.size p c h.which on h.leads in
      let there = neighbour-on field.size p c h.which h.leads in
      record {
        which = back.way_back;
        leads = back.leads;
        passes = same_passes p c back.way_back h.which on there back.as_straight ∙ h.beside;
        cost_is = h.cost_is ∙ same_cost h.which back.way_back (sym back.as_straight);
      }

  -- a step of the list is one, and comes from a cell of the ground
  pub record IsSource (c : Cell) (s : Source) : Type 0 where
    pub step : IsStep field start s.cell c s.cost
    pub on : IsOnGround field.size s.cell

  pub IsSource-from_has : (c : Cell) (s : Source) → IsOnGround field.size c → Has (entry [] (steps_of field start) c) s → IsSource c s
  IsSource-from_has c s on h = by (free c) refl (rw (steps-is c on) at h)
    where
      by : (b : Bool) → free c ≡ b → Has (cond b (filter_map (step_from field.size free c) (range_with_len 0 8)) []) s → IsSource c s
      by true e m =
          let (which, k, g) = Has-of_filter_map (step_from field.size free c) (range_with_len 0 8) s m in
          let found = step_from-some field.size free c which s g in
          record { step = IsStep-from c which s on (sym (free-is c on) ∙ e) found; on = neighbour-on field.size c s.cell which found.leads }
      by false e m = absurd m

  pub free_of : (p c : Cell) (k : ℕ) → IsOnGround field.size c → IsStep field start p c k → free c ≡ true
  free_of p c k on h = free-is c on ∙ h.free

  pub Has-source : (p c : Cell) (k : ℕ) → IsOnGround field.size p → IsStep field start p c k → Has (entry [] (steps_of field start) c)
      (record { cell = p; cost = k })
  Has-source p c k on h =
      let there = neighbour-on field.size p c h.which h.leads in
      let listed = IsListed-from_step p c k on h in
      let steps = filter_map (step_from field.size free c) (range_with_len 0 8) in
      let all : entry [] (steps_of field start) c ≡ steps = steps-is c there ∙ cond-true (free c) steps [] (free_of p c k there h) in
      let eight = neighbour-below_eight field.size c p listed.which listed.leads in
      let made : ℕ → Option Source = λ n. Some (record { cell = p; cost = n }) in
      let is = step_from-is field.size free c p listed.which listed.leads listed.passes ∙ ap made (sym listed.cost_is) in
      rw all (Has-filter_map (step_from field.size free c) (range_with_len 0 8) listed.which (record { cell = p; cost = k })
      (Has-range 0 8 listed.which (omega arith) (omega arith)) is)
