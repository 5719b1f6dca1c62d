-- A rectangle of the land is free where it has no cell in common with another one.
use Rattle.sim_ground.proofs.Common.{None, Option, refl, and_from, and_parts, ap, arith, Cell, cells_of, covers, Fact, Has, Has-cells_of, inl, inr, ints}
use Rattle.sim_ground.proofs.Common.{is_free_among, is_open_among, is_rect_inside, IsOnGround, Land, list_all, list_any, meet, or_cases, or_left, or_right}
use Rattle.sim_ground.proofs.Common.{overlap, overlaps_any, Rect, rect_covers, Size, size_of, subst, sym, ⊎_elim, ◌∙◌}
use Rattle.sim_ground.proofs.Common.{◌≡◌, ℕ, ◌≤◌, Bool, true, false, not, ◌&&◌, ◌||◌, ◌⊎◌, List, [], ◌∷◌, ℤ, pos, negsuc, ◌≤ℤ◌, ◌<ℤ◌, int_lt, int_le, Some}

-- ---- numbers of two stretches

record IsIn (low high : ℤ) (n : ℕ) : Type 0 where
  from : low ≤ℤ pos n
  to : pos n ≤ℤ high

-- the greater of two lower ends, the first of which is not below 0
record IsGreater (a b : ℤ) (n : ℕ) : Type 0 where
  first : a ≤ℤ pos n
  second : b ≤ℤ pos n
  one : (pos n ≡ a) ⊎ (pos n ≡ b)

greater : (a b : ℤ) → pos 0 ≤ℤ a → (n : ℕ) × IsGreater a b n
greater (negsuc a) b h = absurd (omega (arith, ints, h))
greater (pos a) (negsuc b) h = (a, record { first = omega (arith, ints); second = omega (arith, ints); one = inl refl })
greater (pos a) (pos b) h = by (order a b)
  where
    order : (a b : ℕ) → (a ≤ b) ⊎ (b ≤ a)
    order a b = grind arith

    by : (a ≤ b) ⊎ (b ≤ a) → (n : ℕ) × IsGreater (pos a) (pos b) n
    by (inl le) = (b, record { first = omega (arith, ints, le); second = omega (arith, ints); one = inr refl })
    by (inr le) = (a, record { first = omega (arith, ints); second = omega (arith, ints, le); one = inl refl })

le_true : (a b : ℤ) → int_le a b ≡ true → a ≤ℤ b
le_true a b h = grind (arith, ints)

le_test : (a b : ℤ) → a ≤ℤ b → int_le a b ≡ true
le_test a b h = grind (arith, ints)

meets : (a b p q : ℤ) → pos 0 ≤ℤ a → meet a b p q ≡ true → (n : ℕ) × IsIn a b n × IsIn p q n
meets a b p q low h =
    let (whole, cross) = and_parts (int_le a b && int_le p q) (int_le a q && int_le p b) h in
    let (own, theirs) = and_parts (int_le a b) (int_le p q) whole in
    let (first, second) = and_parts (int_le a q) (int_le p b) cross in
    let (n, g) = greater a p low in
    ⊎_elim
    (λ (is : pos n ≡ a). (
      n,
      record { from = g.first; to = subst (λ (z : ℤ). z ≤ℤ b) (sym is) (le_true a b own) },
      record { from = g.second; to = subst (λ (z : ℤ). z ≤ℤ q) (sym is) (le_true a q first) },
    ))
    (λ (is : pos n ≡ p). (
      n,
      record { from = g.first; to = subst (λ (z : ℤ). z ≤ℤ b) (sym is) (le_true p b second) },
      record { from = g.second; to = subst (λ (z : ℤ). z ≤ℤ q) (sym is) (le_true p q theirs) },
    ))
    g.one

meet_from : (a b p q : ℤ) (n : ℕ) → IsIn a b n → IsIn p q n → meet a b p q ≡ true
meet_from a b p q n one other =
    and_from (int_le a b && int_le p q) (int_le a q && int_le p b)
    (and_from (int_le a b) (int_le p q) (le_test a b (omega (arith, ints, one.from, one.to))) (le_test p q (omega (arith, ints, other.from, other.to))))
    (and_from (int_le a q) (int_le p b) (le_test a q (omega (arith, ints, one.from, other.to))) (le_test p b (omega (arith, ints, other.from, one.to))))

-- ---- cells of two rectangles

record IsCovered (r : Rect) (c : Cell) : Type 0 where
  x : IsIn r.x0 r.x1 c.x
  z : IsIn r.z0 r.z1 c.z

covered : (r : Rect) (c : Cell) → covers r c ≡ true → IsCovered r c
covered r c h =
    let (three, north) = and_parts ((int_le r.x0 (pos c.x) && int_le (pos c.x) r.x1) && int_le r.z0 (pos c.z)) (int_le (pos c.z) r.z1) h in
    let (two, south) = and_parts (int_le r.x0 (pos c.x) && int_le (pos c.x) r.x1) (int_le r.z0 (pos c.z)) three in
    let (west, east) = and_parts (int_le r.x0 (pos c.x)) (int_le (pos c.x) r.x1) two in
    record {
      x = record { from = le_true r.x0 (pos c.x) west; to = le_true (pos c.x) r.x1 east };
      z =
          record { from = le_true r.z0 (pos c.z) south; to = le_true (pos c.z) r.z1 north };
    }

covers_from : (r : Rect) (c : Cell) → IsCovered r c → covers r c ≡ true
covers_from r c h =
    and_from ((int_le r.x0 (pos c.x) && int_le (pos c.x) r.x1) && int_le r.z0 (pos c.z)) (int_le (pos c.z) r.z1)
    (and_from (int_le r.x0 (pos c.x) && int_le (pos c.x) r.x1) (int_le r.z0 (pos c.z))
    (and_from (int_le r.x0 (pos c.x)) (int_le (pos c.x) r.x1) (le_test r.x0 (pos c.x) h.x.from) (le_test (pos c.x) r.x1 h.x.to))
    (le_test r.z0 (pos c.z) h.z.from)) (le_test (pos c.z) r.z1 h.z.to)

overlap_from : (r a : Rect) (c : Cell) → covers r c ≡ true → covers a c ≡ true → overlap r a ≡ true
overlap_from r a c one other =
    let first = covered r c one in
    let second = covered a c other in
    and_from (meet r.x0 r.x1 a.x0 a.x1) (meet r.z0 r.z1 a.z0 a.z1) (meet_from r.x0 r.x1 a.x0 a.x1 c.x first.x second.x)
    (meet_from r.z0 r.z1 a.z0 a.z1 c.z first.z second.z)

overlaps_from : (r : Rect) (o : Option Rect) (c : Cell) → covers r c ≡ true → rect_covers o c ≡ true → overlaps_any r o ≡ true
overlaps_from r None c one other = other
overlaps_from r (Some a) c one other = overlap_from r a c one other

-- a rectangle of the land
record IsWithin (size : Size) (r : Rect) : Type 0 where
  west : pos 0 ≤ℤ r.x0
  east : r.x1 <ℤ pos size.width
  south : pos 0 ≤ℤ r.z0
  north : r.z1 <ℤ pos size.depth

within : (size : Size) (r : Rect) → is_rect_inside size r ≡ true → IsWithin size r
within size r h =
    let (three, north) = and_parts ((int_le (pos 0) r.x0 && int_lt r.x1 (pos size.width)) && int_le (pos 0) r.z0) (int_lt r.z1 (pos size.depth)) h in
    let (two, south) = and_parts (int_le (pos 0) r.x0 && int_lt r.x1 (pos size.width)) (int_le (pos 0) r.z0) three in
    let (west, east) = and_parts (int_le (pos 0) r.x0) (int_lt r.x1 (pos size.width)) two in
    record {
      west = le_true (pos 0) r.x0 west;
      east = lt_true r.x1 (pos size.width) east;
      south = le_true (pos 0) r.z0 south;
      north =
          lt_true r.z1 (pos size.depth) north;
    }
  where
    lt_true : (a b : ℤ) → int_lt a b ≡ true → a <ℤ b
    lt_true a b h = grind (arith, ints)

-- a cell of the land that two rectangles have in common
record IsCommon (size : Size) (r : Rect) (has : Cell → Bool) (c : Cell) : Type 0 where
  on_land : IsOnGround size c
  first : covers r c ≡ true
  second : has c ≡ true

common : (size : Size) (r a : Rect) → IsWithin size r → overlap r a ≡ true → (c : Cell) × IsCommon size r (covers a) c
common size r a inside h =
    let (by_x, by_z) = and_parts (meet r.x0 r.x1 a.x0 a.x1) (meet r.z0 r.z1 a.z0 a.z1) h in
    let (x, own_x, their_x) = meets r.x0 r.x1 a.x0 a.x1 inside.west by_x in
    let (z, own_z, their_z) = meets r.z0 r.z1 a.z0 a.z1 inside.south by_z in
    let c : Cell = record { x = x; z = z } in (
      c,
      record {
        on_land = record { east = omega (arith, ints, own_x.to, inside.east); north = omega (arith, ints, own_z.to, inside.north) };
        first = covers_from r c (record { x = own_x; z = own_z });
        second = covers_from a c (record { x = their_x; z = their_z });
      },
    )

common_any : (size : Size) (r : Rect) (o : Option Rect) → IsWithin size r → overlaps_any r o ≡ true → (c : Cell) × IsCommon size r (rect_covers o) c
common_any size r None inside h = absurd (cc)
common_any size r (Some a) inside h = common size r a inside h

-- ---- lists

module _ {X : Type 0} (p : X → Bool) where
  any_has : (xs : List X) → list_any p xs ≡ true → (x : X) × Has xs x × (p x ≡ true)
  any_has [] h = absurd (cc)
  any_has (x ∷ xs) h = ⊎_elim (λ (here : p x ≡ true). (x, inl refl, here)) (λ (later : list_any p xs ≡ true). let (y, m, e) = any_has xs later in (y, inr m, e))
      (or_cases (p x) (list_any p xs) h)

  has_any : (xs : List X) (x : X) → Has xs x → p x ≡ true → list_any p xs ≡ true
  has_any [] x h e = absurd h
  has_any (y ∷ xs) x (inl same) e = or_left (p y) (list_any p xs) (ap p same ∙ e)
  has_any (y ∷ xs) x (inr h) e = or_right (p y) (list_any p xs) (has_any xs x h e)

  all_has : (xs : List X) (x : X) → Has xs x → list_all p xs ≡ true → p x ≡ true
  all_has [] x h all = absurd h
  all_has (y ∷ xs) x (inl same) all = sym (ap p same) ∙ (and_parts (p y) (list_all p xs) all).0
  all_has (y ∷ xs) x (inr h) all = all_has xs x h (and_parts (p y) (list_all p xs) all).1

  all_from : (xs : List X) → ((x : X) → Has xs x → p x ≡ true) → list_all p xs ≡ true
  all_from [] each = refl
  all_from (x ∷ xs) each = and_from (p x) (list_all p xs) (each x (inl refl)) (all_from xs (λ y m. each y (inr m)))

-- ---- the whole land

module _ (land : Land) (facts : List Fact) (r : Rect) where
  abbrev test : Cell → Bool
  test c = not (covers r c) || is_open_among land facts c

  abbrev closed_at : Cell → Bool
  closed_at c = list_any (λ a. covers a c) land.closed

  abbrev built_at : Cell → Bool
  built_at c = list_any (λ (fact : Fact). rect_covers fact.rect c) facts

  -- an open cell of the rectangle is none of a closed one, and of no obstruction
  shut : (r_has : Bool) (a b : Bool) → (not r_has || (not a && not b)) ≡ true → r_has ≡ true → (a ≡ false) × (b ≡ false)
  shut true true b h e = absurd (cc)
  shut true false true h e = absurd (cc)
  shut true false false h e = (refl, refl)
  shut false a b h e = absurd (cc)

  open_from : (r_has a b : Bool) → (r_has ≡ true → a ≡ false) → (r_has ≡ true → b ≡ false) → (not r_has || (not a && not b)) ≡ true
  open_from false a b first second = refl
  open_from true a b first second = let e = first refl in let f = second refl in and_from (not a) (not b) (ap not e) (ap not f)

  not_true : (b : Bool) → (b ≡ true → ⊥) → b ≡ false
  not_true true h = absurd (h refl)
  not_true false h = refl

  module _ (inside : IsWithin (size_of land) r) where
    no_closed : list_all test (cells_of (size_of land)) ≡ true → list_any (overlap r) land.closed ≡ true → ⊥
    no_closed all some =
        let (a, m, e) = any_has (overlap r) land.closed some in
        let (c, both) = common (size_of land) r a inside e in
        let there : closed_at c ≡ true = has_any (λ (q : Rect). covers q c) land.closed a m both.second in
        let not_there = (shut (covers r c) (closed_at c) (built_at c) (all_has test (cells_of (size_of land)) c (Has-cells_of (size_of land) c both.on_land)
        all) both.first).0 in
        absurd (cc (there, not_there))

    no_built : list_all test (cells_of (size_of land)) ≡ true → list_any (λ (fact : Fact). overlaps_any r fact.rect) facts ≡ true → ⊥
    no_built all some =
        let (fact, m, e) = any_has (λ (f : Fact). overlaps_any r f.rect) facts some in
        let (c, both) = common_any (size_of land) r fact.rect inside e in
        let there : built_at c ≡ true = has_any (λ (f : Fact). rect_covers f.rect c) facts fact m both.second in
        let not_there = (shut (covers r c) (closed_at c) (built_at c) (all_has test (cells_of (size_of land)) c (Has-cells_of (size_of land) c both.on_land)
        all) both.first).1 in
        absurd (cc (there, not_there))

    all_open : list_any (overlap r) land.closed ≡ false → list_any (λ (fact : Fact). overlaps_any r fact.rect) facts ≡ false
        → list_all test (cells_of (size_of land)) ≡ true
    all_open none nobody = all_from test (cells_of (size_of land))
        (λ c m. open_from (covers r c) (closed_at c) (built_at c) (λ h. not_true (closed_at c) (no_rect c h)) (λ h. not_true (built_at c) (no_fact c h)))
      where
        no_rect : (c : Cell) → covers r c ≡ true → closed_at c ≡ true → ⊥
        no_rect c h some =
            let (a, m, e) = any_has (λ (q : Rect). covers q c) land.closed some in
            let there = has_any (overlap r) land.closed a m (overlap_from r a c h e) in
            absurd (cc (there, none))

        no_fact : (c : Cell) → covers r c ≡ true → built_at c ≡ true → ⊥
        no_fact c h some =
            let (fact, m, e) = any_has (λ (f : Fact). rect_covers f.rect c) facts some in
            let there = has_any (λ (f : Fact). overlaps_any r f.rect) facts fact m (overlaps_from r fact.rect c h e) in
            absurd (cc (there, nobody))

    -- the two tests are one
    apart_is_open : (a b all : Bool) → (all ≡ true → a ≡ true → ⊥) → (all ≡ true → b ≡ true → ⊥) → (a ≡ false → b ≡ false → all ≡ true) → (not a && not b) ≡ all
    apart_is_open true b true first second third = absurd (first refl refl)
    apart_is_open true b false first second third = refl
    apart_is_open false true true first second third = absurd (second refl refl)
    apart_is_open false true false first second third = refl
    apart_is_open false false all first second third = sym (third refl refl)

    same : (not (list_any (overlap r) land.closed) && not (list_any (λ (fact : Fact). overlaps_any r fact.rect) facts)) ≡ list_all test
        (cells_of (size_of land))
    same = apart_is_open (list_any (overlap r) land.closed) (list_any (λ (fact : Fact). overlaps_any r fact.rect) facts)
        (list_all test (cells_of (size_of land))) no_closed no_built all_open

  pub free_is : (is_rect_inside (size_of land) r
      && (not (list_any (overlap r) land.closed) && not (list_any (λ (fact : Fact). overlaps_any r fact.rect) facts))) ≡ is_free_among land facts r
  free_is = by (is_rect_inside (size_of land) r) refl
    where
      by : (b : Bool) → is_rect_inside (size_of land) r ≡ b
          → (b && (not (list_any (overlap r) land.closed) && not (list_any (λ (fact : Fact). overlaps_any r fact.rect) facts))) ≡
          (b && list_all test (cells_of (size_of land)))
      by true e = same (within (size_of land) r e)
      by false e = refl
