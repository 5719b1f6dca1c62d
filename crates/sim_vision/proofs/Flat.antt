-- Lists by player, then z, then x: such a list is known by what stands in it for each cell of each player.
use Rattle.{sim_vision.proofs.Common.◌∙◌, sim_vision.proofs.Places.below_area, std.proofs.lemmas.Simd.map-map}
use Rattle.sim_vision.proofs.Common.{drop, flat_map, refl, ap, area_of, arith, cases_lt, Cell, cells_of, div-add-mod, explored_with, ext_get_or, Extent}
use Rattle.sim_vision.proofs.Common.{get_or-drop, get_or-map-range_with_len, get_or-take, IsAt, IsOnGround, length-append, length-drop}
use Rattle.sim_vision.proofs.Common.{length-map-range_with_len, length-take-le, mod-lt, mul-le, place_of, range_with_len, Size, sym, take-append-drop, ⊎_elim}
use Rattle.sim_vision.proofs.Common.{◌≡◌, ℕ, zero, suc, ◌+◌, ◌-◌, ◌*◌, ◌/◌, ◌%◌, ◌<◌, ◌≤◌, Bool, false, ◌||◌, List, [], ◌∷◌, ◌++◌, map, length, get_or, take}

nothing : {X : Type 0} (xs : List X) → length xs ≡ 0 → xs ≡ []
nothing [] e = refl
nothing (x ∷ xs) e = absurd (omega arith)

joined_same : {X : Type 0} (a b c d : List X) → a ≡ b → c ≡ d → a ++ c ≡ b ++ d
joined_same a b c d e f = λ i. e i ++ f i

-- a list in pieces of one length
pub pieces : {X : Type 0} (d : X) (g : ℕ → List X) (m : ℕ) → ((i : ℕ) → length (g i) ≡ m) → (from n : ℕ) (xs : List X) → length xs ≡ n * m →
    ((i j : ℕ) → i < n → j < m → get_or xs (i * m + j) d ≡ get_or (g (from + i)) j d) → xs ≡ flat_map g (range_with_len from n)
pieces d g m sizes from zero xs full each = nothing xs (omega (arith, full))
pieces d g m sizes from (suc n) xs full each =
    let long : m ≤ length xs = omega (arith, full) in
    let front : take m xs ≡ g from = ext_get_or d (take m xs) (g from) (length-take-le m xs long ∙ sym (sizes from))
    (λ j lt. let lt' : j < m = omega (arith, length-take-le m xs long) in
    get_or-take m xs j d lt' ∙ ap (λ (k : ℕ). get_or xs k d) (first j) ∙ each 0 j (omega arith) lt' ∙ ap (λ (k : ℕ). get_or (g k) j d) (start from)) in
    let more : drop m xs ≡ flat_map g (range_with_len (from + 1) n) = pieces d g m sizes (from + 1) n (drop m xs) (omega (arith, length-drop m xs, full))
    (λ i j lt lt'. get_or-drop m xs (i * m + j) d ∙ ap (λ (k : ℕ). get_or xs k d) (next i j) ∙ each (suc i) j (omega arith) lt'
    ∙ ap (λ (k : ℕ). get_or (g k) j d) (moved from i)) in
    sym (take-append-drop m xs) ∙ joined_same (take m xs) (g from) (drop m xs) (flat_map g (range_with_len (from + 1) n)) front more
  where
    first : (j : ℕ) → j ≡ 0 * m + j
    first j = omega arith

    start : (from : ℕ) → from + 0 ≡ from
    start from = omega arith

    next : (i j : ℕ) → m + (i * m + j) ≡ suc i * m + j
    next i j = omega arith

    moved : (from i : ℕ) → from + suc i ≡ from + 1 + i
    moved from i = omega arith

pub map_flat : {X Y : Type 0} (f : X → Y) (g : ℕ → List X) (ks : List ℕ) → map f (flat_map g ks) ≡ flat_map (λ k. map f (g k)) ks
map_flat {X = X} {Y = Y} f g [] = refl
map_flat {X = X} {Y = Y} f g (k ∷ ks) = map_joined f (g k) (flat_map g ks) ∙ ap (λ (ys : List _). map f (g k) ++ ys) (map_flat f g ks)
  where
    map_joined : (f : X → Y) (xs ys : List X) → map f (xs ++ ys) ≡ map f xs ++ map f ys
    map_joined f [] ys = refl
    map_joined f (x ∷ xs) ys = ap (λ (zs : List Y). f x ∷ zs) (map_joined f xs ys)

same_flat : {X : Type 0} (g h : ℕ → List X) (ks : List ℕ) → ((k : ℕ) → g k ≡ h k) → flat_map g ks ≡ flat_map h ks
same_flat g h [] same = refl
same_flat g h (k ∷ ks) same = joined_same (g k) (h k) (flat_map g ks) (flat_map h ks) (same k) (same_flat g h ks same)

module _ {X : Type 0} (d : X) (size : Size) (f : Cell → X) where
  -- a row of values, by x
  abbrev pub row_of : ℕ → List X
  row_of z = map (λ x. f (record { x = x; z = z })) (range_with_len 0 size.width)

  rows_are : map f (cells_of size) ≡ flat_map row_of (range_with_len 0 size.depth)
  rows_are = map_flat f (λ z. map (λ x. record { x = x; z = z }) (range_with_len 0 size.width)) (range_with_len 0 size.depth)
      ∙ same_flat _ row_of (range_with_len 0 size.depth) (λ z. map-map f (λ x. record { x = x; z = z }) (range_with_len 0 size.width))

  row_long : (z : ℕ) → length (row_of z) ≡ size.width
  row_long z = length-map-range_with_len (λ x. f (record { x = x; z = z })) 0 size.width

  -- a list of the cells of a ground
  pub by_cells : (xs : List X) → length xs ≡ area_of size → ((c : Cell) → IsOnGround size c → get_or xs (c.z * size.width + c.x) d ≡ f c) →
      xs ≡ map f (cells_of size)
  by_cells xs full each = pieces d row_of size.width row_long 0 size.depth xs (omega (arith, full))
      (λ z x lt lt'. each (record { x = x; z = z }) (record { east = lt'; north = lt })
      ∙ sym (get_or-map-range_with_len (λ x. f (record { x = x; z = z })) 0 size.width x x d lt' (omega arith))
      ∙ ap (λ (k : ℕ). get_or (row_of k) x d) (omega arith)) ∙ sym rows_are

  pub cells_long : length (map f (cells_of size)) ≡ area_of size
  cells_long = ap length rows_are ∙ all_long row_of size.width row_long (range_with_len 0 size.depth) ∙ ap (λ (n : ℕ). n * size.width) (long 0 size.depth)
      ∙ omega arith
    where
      all_long : (g : ℕ → List X) (m : ℕ) → ((i : ℕ) → length (g i) ≡ m) → (ks : List ℕ) → length (flat_map g ks) ≡ length ks * m
      all_long g m sizes [] = omega arith
      all_long g m sizes (k ∷ ks) = omega (arith, length-append (g k) (flat_map g ks), sizes k, all_long g m sizes ks)

      long : (from n : ℕ) → length (range_with_len from n) ≡ n
      long from zero = refl
      long from (suc n) = ap suc (long (from + 1) n)

-- a list of the cells of all players
module _ {X : Type 0} (d : X) (extent : Extent) (f : ℕ → Cell → X) (xs : List X) (full : length xs ≡ extent.players * area_of extent.size)
    (each : (player : ℕ) (c : Cell) → IsAt extent player c → get_or xs (place_of extent.size player c) d ≡ f player c) where
  enough : (i : ℕ) → i < extent.players → area_of extent.size ≤ length (drop (i * area_of extent.size) xs)
  enough i lt = omega (
    arith,
    length-drop (i * area_of extent.size) xs,
    full,
    mul-le (i + 1) (area_of extent.size) extent.players (area_of extent.size) (omega arith) (omega arith),
  )

  at_there : (i j : ℕ) → j < area_of extent.size → get_or (take (area_of extent.size) (drop (i * area_of extent.size) xs)) j d
      ≡ get_or xs (i * area_of extent.size + j) d
  at_there i j lt = get_or-take (area_of extent.size) (drop (i * area_of extent.size) xs) j d lt ∙ get_or-drop (i * area_of extent.size) xs j d

  part_is : (i : ℕ) → i < extent.players → take (area_of extent.size) (drop (i * area_of extent.size) xs) ≡ map (f (1 + i)) (cells_of extent.size)
  part_is i lt = by_cells d extent.size (f (1 + i)) (take (area_of extent.size) (drop (i * area_of extent.size) xs))
      (length-take-le (area_of extent.size) (drop (i * area_of extent.size) xs) (enough i lt))
      (λ c on. at_there i (c.z * extent.size.width + c.x) (below_area extent.size c on) ∙ ap (λ (k : ℕ). get_or xs k d) (place i c)
      ∙ each (1 + i) c (record { first = omega arith; last = omega arith; on = on }))
    where
      place : (i : ℕ) (c : Cell) → i * area_of extent.size + (c.z * extent.size.width + c.x) ≡ place_of extent.size (1 + i) c
      place i c = let less : 1 + i - 1 ≡ i = omega arith in let same = ap (λ (n : ℕ). n * area_of extent.size) less in omega (arith, same)

  pub by_players : xs ≡ flat_map (λ player. map (f player) (cells_of extent.size)) (range_with_len 1 extent.players)
  by_players = pieces d (λ player. map (f player) (cells_of extent.size)) (area_of extent.size)
      (λ player. cells_long d extent.size (f player)) 1 extent.players xs full
      (λ i j lt lt'. sym (at_there i j lt') ∙ ap (λ (ys : List X). get_or ys j d) (part_is i lt))

-- ---- a number below all is the place of a cell of a player

-- a player and a cell whose place is k
pub record StandsAt (extent : Extent) (k : ℕ) : Type 0 where
  pub player : ℕ
  pub cell : Cell
  pub at : IsAt extent player cell
  pub is : place_of extent.size player cell ≡ k

pub place_at : (extent : Extent) (k : ℕ) → k < extent.players * area_of extent.size → StandsAt extent k
place_at extent k lt =
    let size = extent.size in
    let area = area_of size in
    let some : 0 < area = positive area extent.players k lt in
    let wide : 0 < size.width = positive' size.width size.depth some in
    let outer = div-add-mod k area in
    let rest = mod-lt k some in
    let inner = div-add-mod (k % area) size.width in
    let last = mod-lt (k % area) wide in
    record {
      player = k / area + 1;
      cell = record { x = k % area % size.width; z = k % area / size.width };
      at = record {
        first = omega arith;
        last = omega (arith, below (k / area) extent.players area (omega (arith, outer, lt)));
        on = record { east = last; north = below (k % area / size.width) size.depth size.width (omega (arith, inner, rest)) };
      };
      is = let same = ap (λ (n : ℕ). n * area) (less (k / area)) in omega (arith, outer, inner, same);
    }
  where
    less : (n : ℕ) → n + 1 - 1 ≡ n
    less n = omega arith

    positive : (n m k : ℕ) → k < m * n → 0 < n
    positive zero m k lt = absurd (omega (arith, lt))
    positive (suc n) m k lt = omega arith

    positive' : (n m : ℕ) → 0 < n * m → 0 < n
    positive' zero m lt = absurd (omega (arith, lt))
    positive' (suc n) m lt = omega arith

    below : (a n m : ℕ) → a * m < n * m → a < n
    below a n m lt = ⊎_elim (λ (h : a < n). h) (λ (h : n ≤ a). absurd (omega (arith, lt, mul-le n m a m h (omega arith)))) (cases_lt a n)

-- ---- what is explored, cell by cell

pub explored_long : (xs ys : List Bool) → length (explored_with xs ys) ≡ length xs
explored_long [] ys = refl
explored_long (x ∷ xs) [] = refl
explored_long (x ∷ xs) (y ∷ ys) = ap suc (explored_long xs ys)

pub explored_at : (xs ys : List Bool) (k : ℕ) → length xs ≡ length ys → get_or (explored_with xs ys) k false ≡ (get_or xs k false || get_or ys k false)
explored_at [] [] k e = refl
explored_at [] (y ∷ ys) k e = absurd (omega arith)
explored_at (x ∷ xs) [] k e = absurd (omega arith)
explored_at (x ∷ xs) (y ∷ ys) zero e = refl
explored_at (x ∷ xs) (y ∷ ys) (suc k) e = explored_at xs ys k (omega arith)
