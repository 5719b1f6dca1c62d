-- Walks by the cells that they come through. Each walk can be cut down to one that is at no cell twice and costs no more, and such a one has
-- fewer steps than the ground has cells.
use Rattle.sim_laws.proofs.Common.{ap, arith, Bool, Cell, eqb, eqb-true, false, Field, go, IsOnGround, IsStep, length, List, list_any, map, or_cases, refl}
use Rattle.sim_laws.proofs.{Common.{Size, stay, suc, sym, true, true≢false, Walk, ℕ, ⊎_elim, [], ◌*◌, ◌+◌, ◌<◌, ◌||◌, ◌∷◌, ◌≡◌, ◌≤◌}, Neighbours.neighbour-on}
use Rattle.{sim_laws.proofs.Neighbours.same_by_parts, std.proofs.lemmas.{Bool.or_parts, Map.Keys.{IsDistinct-cons, IsDistinct-from_apart, IsDistinct-tail}}}
use Rattle.std.{proofs.lemmas.{Map.Steps.length-le_from_distinct_below, Nat.{mul-add-lt, same_from_place}}, specs.List.{AllByRecursion, IsDistinct}}

-- a walk from the start to a cell, by the cells that it was at before, the latest first, and its cost
pub data Trip (field : Field) (start : Cell) : Cell → List Cell → ℕ → Type 0 where
  begin : Trip field start start [] 0
  more : {a b : Cell} {xs : List Cell} {n k : ℕ} → Trip field start a xs n → IsStep field start a b k → Trip field start b (a ∷ xs) (n + k)

-- the place of a cell in the ground's list of cells
abbrev number : Size → Cell → ℕ
number size c = c.z * size.width + c.x

number-below : (size : Size) (c : Cell) → IsOnGround size c → number size c < size.width * size.depth
number-below size c on = mul-add-lt c.z size.width c.x size.depth on.north on.east

same_number : (size : Size) (c e : Cell) → IsOnGround size c → IsOnGround size e → eqb (number size c) (number size e) ≡ true → c ≡ e
same_number size c e f g h =
    let parts = same_from_place c.z c.x e.z e.x size.width f.east g.east (eqb-true (number size c) (number size e) h) in
    same_by_parts c e parts.1 parts.0

none_equal : (n : ℕ) (ns : List ℕ) → list_any (eqb n) ns ≡ false → AllByRecursion (λ y. eqb n y ≡ false) ns
none_equal n [] h = tt
none_equal n (m ∷ ns) h = let (f, g) = or_parts (eqb n m) (list_any (eqb n) ns) h in (f, none_equal n ns g)

module _ (field : Field) (start : Cell) (start_on : IsOnGround field.size start) where
  abbrev AreApart : List Cell → Type 0
  AreApart cells = IsDistinct eqb (map (number field.size) cells)

  abbrev is_among : Cell → List Cell → Bool
  is_among c cells = list_any (eqb (number field.size c)) (map (number field.size) cells)

  -- a walk to c that is at no cell twice, and costs at most n
  pub record IsCut (c : Cell) (n : ℕ) : Type 0 where
    pub before : List Cell
    pub cost : ℕ
    pub trip : Trip field start c before cost
    pub within : cost ≤ n
    pub apart : AreApart (c ∷ before)

  pub walk-on : {c : Cell} {n : ℕ} → Walk (IsStep field start) start c n → IsOnGround field.size c
  walk-on stay = start_on
  walk-on (go {a = a} {b = b} w s) = neighbour-on field.size a b s.which s.leads

  pub trip-on : {c : Cell} {xs : List Cell} {n : ℕ} → Trip field start c xs n → IsOnGround field.size c
  trip-on begin = start_on
  trip-on (more {a = a} {b = b} t s) = neighbour-on field.size a b s.which s.leads

  -- where a trip has come through c, its part up to there
  cut_at : {a : Cell} {xs : List Cell} {n : ℕ} → (c : Cell) → IsOnGround field.size c → Trip field start a xs n → AreApart (a ∷ xs) → is_among c (a ∷ xs) ≡ true
      → IsCut c n
  cut_at c on begin apart h = by (eqb (number field.size c) (number field.size start)) refl h
    where
      by : (b : Bool) → eqb (number field.size c) (number field.size start) ≡ b → (b || false) ≡ true → IsCut c 0
      by true e f = rw (same_number field.size c start on start_on e) (record { before = []; cost = 0; trip = begin; within = omega arith; apart = apart })
      by false e f = absurd (true≢false (sym f))
  cut_at c on (more {a = a} {b = b} {xs = xs} {n = n} {k = k} t s) apart h =
      by (eqb (number field.size c) (number field.size b)) refl h
      (cut_at c on t (IsDistinct-tail eqb (number field.size b) (map (number field.size) (a ∷ xs)) apart))
    where
      by : (r : Bool) → eqb (number field.size c) (number field.size b) ≡ r → (r || is_among c (a ∷ xs)) ≡ true → (is_among c (a ∷ xs) ≡ true → IsCut c n)
          → IsCut c (n + k)
      by true e f rest =
          let same : c ≡ b = same_number field.size c b on (neighbour-on field.size a b s.which s.leads) e in
          rw same (record { before = a ∷ xs; cost = n + k; trip = more t s; within = omega arith; apart = apart })
      by false e f rest =
          let earlier = rest f in
          record { before = earlier.before; cost = earlier.cost; trip = earlier.trip; within = let h = earlier.within in omega arith; apart = earlier.apart }

  alone : AreApart (start ∷ [])
  alone = IsDistinct-cons eqb (number field.size start) [] tt (IsDistinct-from_apart eqb [] (λ i j d f g. absurd (omega arith)))

  pub cut : {c : Cell} {n : ℕ} → Walk (IsStep field start) start c n → IsCut c n
  cut stay = record { before = []; cost = 0; trip = begin; within = omega arith; apart = alone }
  cut (go {a = a} {b = b} {n = n} {k = k} w s) = by (cut w)
    where
      on : IsOnGround field.size b
      on = neighbour-on field.size a b s.which s.leads

      by : IsCut a n → IsCut b (n + k)
      by shorter = then (is_among b (a ∷ shorter.before)) refl
        where
          then : (r : Bool) → is_among b (a ∷ shorter.before) ≡ r → IsCut b (n + k)
          then true e =
              let earlier = cut_at b on shorter.trip shorter.apart e in
              record {
                before = earlier.before;
                cost = earlier.cost;
                trip = earlier.trip;
                within = let f = earlier.within in let g = shorter.within in
                    omega arith;
                apart = earlier.apart;
              }
          then false e =
              record {
                before = a ∷ shorter.before;
                cost = shorter.cost + k;
                trip = more shorter.trip s;
                within = let g = shorter.within in omega arith;
                apart = IsDistinct-cons eqb (number field.size b) (map (number field.size) (a ∷ shorter.before))
                    (none_equal (number field.size b) (map (number field.size) (a ∷ shorter.before)) e) shorter.apart;
              }

  numbers_below : {c : Cell} {xs : List Cell} {n : ℕ} → Trip field start c xs n → (q : ℕ) → list_any (eqb q) (map (number field.size) (c ∷ xs)) ≡ true
      → q < field.size.width * field.size.depth
  numbers_below begin q h =
      ⊎_elim
      (λ (e : eqb q (number field.size start) ≡ true). omega (arith, eqb-true q (number field.size start) e, number-below field.size start start_on))
      (λ (e : false ≡ true). absurd (true≢false (sym e)))
      (or_cases (eqb q (number field.size start)) false h)
  numbers_below (more {a = a} {b = b} {xs = xs} t s) q h =
      ⊎_elim
      (λ (e : eqb q (number field.size b) ≡ true).
      omega (arith, eqb-true q (number field.size b) e, number-below field.size b (neighbour-on field.size a b s.which s.leads)))
      (λ (e : list_any (eqb q) (map (number field.size) (a ∷ xs)) ≡ true). numbers_below t q e)
      (or_cases (eqb q (number field.size b)) (list_any (eqb q) (map (number field.size) (a ∷ xs))) h)

  length-numbers : (xs : List Cell) → length (map (number field.size) xs) ≡ length xs
  length-numbers [] = refl
  length-numbers (x ∷ xs) = ap suc (length-numbers xs)

  -- so few steps has a walk that is at no cell twice
  pub cut-short : (c : Cell) (n : ℕ) (w : IsCut c n) → length w.before < field.size.width * field.size.depth
  cut-short c n w =
      let cells = map (number field.size) (c ∷ w.before) in
      omega (arith, length-le_from_distinct_below cells (field.size.width * field.size.depth) w.apart (numbers_below w.trip), length-numbers w.before)
