-- Where the cells of players stand in a list by player, then z, then x; and those of a span among them.
use Rattle.sim_vision.proofs.Common.{IsAt, IsOnGround, Mark, mul-le, place_of, same_from_decides, Size, Span, start_of, subst, sym, true≢false, ⊎_elim, ◌∙◌}
use Rattle.sim_vision.proofs.Common.{and_right, ap, area_of, arith, cases_order, Cell, eq-eqb, eqb-true, Extent, is_in_row, is_in_span, is_near, is_watched}
use Rattle.sim_vision.proofs.Common.{◌≡◌, ℕ, ◌+◌, ◌-◌, ◌*◌, ◌<◌, ◌≤◌, true, false, ◌&&◌, eqb, ◌⊎◌, List, IfSome, Some, None, Option, and_from, and_parts}
use Rattle.sim_vision.proofs.Rows.{bounds, within}

-- a number in pieces of one length, one way alone
pub same_parts : (n a b x y : ℕ) → x < n → y < n → a * n + x ≡ b * n + y → (a ≡ b) × (x ≡ y)
same_parts n a b x y lx ly e = ⊎_elim
    (λ (h : a ≡ b). (h, (let same : a * n ≡ b * n = ap (λ (v : ℕ). v * n) h in omega (arith, same, e))))
    (λ (h : (a < b) ⊎ (b < a)). ⊎_elim
    (λ (lt : a < b). absurd (omega (arith, mul-le (a + 1) n b n (omega arith) (omega arith), e, lx, ly)))
    (λ (lt : b < a). absurd (omega (arith, mul-le (b + 1) n a n (omega arith) (omega arith), e, lx, ly)))
    h)
    (cases_order a b)

pub below_area : (size : Size) (c : Cell) → IsOnGround size c → c.z * size.width + c.x < area_of size
below_area size c on = omega (arith, mul-le (c.z + 1) size.width size.depth size.width (omega (arith, on.north)) (omega arith), on.east)

pub same_place : (extent : Extent) (player owner : ℕ) (c e : Cell) → IsAt extent player c → IsAt extent owner e →
    place_of extent.size player c ≡ place_of extent.size owner e →
    (player ≡ owner) × (c.z ≡ e.z) × (c.x ≡ e.x)
same_place extent player owner c e at at' h =
    let size = extent.size in
    let outer = same_parts (area_of size) (player - 1) (owner - 1) (c.z * size.width + c.x) (e.z * size.width + e.x) (below_area size c at.on)
    (below_area size e at'.on) (omega (arith, h)) in
    let inner = same_parts size.width c.z e.z c.x e.x at.on.east at'.on.east outer.1 in
    (omega (arith, outer.0, at.first, at'.first), inner.0, inner.1)

-- all places lie in the list
pub place_below : (extent : Extent) (player : ℕ) (c : Cell) → IsAt extent player c → place_of extent.size player c < extent.players * area_of extent.size
place_below extent player c at =
    let size = extent.size in
    omega (
      arith,
      below_area size c at.on,
      mul-le (player - 1 + 1) (area_of size) extent.players (area_of size) (omega (arith, at.first, at.last))
          (omega arith),
    )

-- a row lies in the list
pub row_below : (extent : Extent) (player z : ℕ) → 1 ≤ player → player ≤ extent.players → z < extent.size.depth →
    start_of extent.size player z + extent.size.width ≤ extent.players * area_of extent.size
row_below extent player z first last row =
    let size = extent.size in
    omega (
      arith,
      mul-le (z + 1) size.width size.depth size.width (omega arith) (omega arith),
      mul-le (player - 1 + 1) (area_of size) extent.players (area_of size) (omega arith) (omega arith),
    )

-- ---- a mark of a player sees a cell where it is near

pub not_watched : (reaches : List ℕ) (player : ℕ) (c : Cell) (mark : Option Mark) → is_near reaches mark c ≡ false → is_watched reaches player c mark ≡ false
not_watched reaches player c None h = h
not_watched reaches player c (Some mark) h = and_right (eqb mark.owner player) (is_near reaches (Some mark) c) h

pub watched_parts : (reaches : List ℕ) (player owner : ℕ) (c : Cell) (mark : Option Mark) → IfSome mark (λ (m : Mark). m.owner ≡ owner) →
    is_watched reaches player c mark ≡ true → (player ≡ owner) × (is_near reaches mark c ≡ true)
watched_parts reaches player owner c None owned h = absurd (true≢false (sym h))
watched_parts reaches player owner c (Some mark) owned h = let p = and_parts (eqb mark.owner player) (is_near reaches (Some mark) c) h in
    (sym (eqb-true mark.owner player p.0) ∙ owned, p.1)

pub watched_from : (reaches : List ℕ) (player owner : ℕ) (c : Cell) (mark : Option Mark) → IfSome mark (λ (m : Mark). m.owner ≡ owner) → player ≡ owner →
    is_near reaches mark c ≡ true → is_watched reaches player c mark ≡ true
watched_from reaches player owner c None owned same near = near
watched_from reaches player owner c (Some mark) owned same near = and_from (eqb mark.owner player) (is_near reaches (Some mark) c)
    (eq-eqb mark.owner player (owned ∙ sym same)) near

-- ---- the span of a mark in a row

module _ (extent : Extent) (reaches : List ℕ) (owner z : ℕ) (mark : Option Mark) (span : Span)
    (cells : (x : ℕ) → x < extent.size.width → is_in_span span x ≡ is_near reaches mark (record { x = x; z = z })) (inside : span.to ≤ extent.size.width)
    (owned : IfSome mark (λ (m : Mark). m.owner ≡ owner)) (first : 1 ≤ owner) (last : owner ≤ extent.players) (row : z < extent.size.depth) where
  -- the cell at a number of the row
  abbrev pub cell_there : ℕ → Cell
  cell_there k = record { x = k - start_of extent.size owner z; z = z }

  pub at_there : (k : ℕ) → is_in_row (start_of extent.size owner z) span k ≡ true →
      IsAt extent owner (cell_there k) × (place_of extent.size owner (cell_there k) ≡ k) × (is_watched reaches owner (cell_there k) mark ≡ true)
  at_there k h =
      let start = start_of extent.size owner z in
      let b = bounds (start + span.from) (start + span.to) k h in
      let x_on : k - start < extent.size.width = omega (arith, b.0, b.1, inside) in
      let in_span : is_in_span span (k - start) ≡ true = within span.from span.to (k - start) (omega (arith, b.0)) (omega (arith, b.0, b.1)) in (
        record { first = first; last = last; on = record { east = x_on; north = row } },
        omega (arith, b.0),
        watched_from reaches owner owner (cell_there k) mark owned (λ i. owner) (sym (cells (k - start) x_on) ∙ in_span),
      )

  pub row_test : (player : ℕ) (c : Cell) → IsAt extent player c → is_in_row (start_of extent.size owner z) span (place_of extent.size player c)
      ≡ (eqb c.z z && is_watched reaches player c mark)
  row_test player c at = same_from_decides {P = (player ≡ owner) × (c.z ≡ z) × (is_near reaches mark c ≡ true)} _ _ (to, from) (right_to, right_from)
    where
      to : is_in_row (start_of extent.size owner z) span (place_of extent.size player c) ≡ true → (player ≡ owner) × (c.z ≡ z) × (is_near reaches mark c ≡ true)
      to h =
          let there = at_there (place_of extent.size player c) h in
          let same = same_place extent player owner c (cell_there (place_of extent.size player c)) at there.0 (sym there.1) in
          let seen = (watched_parts reaches owner owner (cell_there (place_of extent.size player c)) mark owned there.2).1 in
          (same.0, same.1, ap (λ (e : Cell). is_near reaches mark e) (λ i. record { x = same.2 i; z = same.1 i }) ∙ seen)

      from : (player ≡ owner) × (c.z ≡ z) × (is_near reaches mark c ≡ true) →
          is_in_row (start_of extent.size owner z) span (place_of extent.size player c) ≡ true
      from p =
          let here : is_near reaches mark (record { x = c.x; z = z }) ≡ true =
          subst (λ (n : ℕ). is_near reaches mark (record { x = c.x; z = n }) ≡ true) p.1 p.2 in
          let b = bounds span.from span.to c.x (cells c.x at.on.east ∙ here) in
          let place : place_of extent.size player c ≡ start_of extent.size owner z + c.x = λ i. place_of extent.size (p.0 i) (record { x = c.x; z = p.1 i }) in
          within (start_of extent.size owner z + span.from) (start_of extent.size owner z + span.to) (place_of extent.size player c)
          (omega (arith, place, b.0)) (omega (arith, place, b.1))

      right_to : (eqb c.z z && is_watched reaches player c mark) ≡ true → (player ≡ owner) × (c.z ≡ z) × (is_near reaches mark c ≡ true)
      right_to h =
          let p = and_parts (eqb c.z z) (is_watched reaches player c mark) h in
          let w = watched_parts reaches player owner c mark owned p.1 in
          (w.0, eqb-true c.z z p.0, w.1)

      right_from : (player ≡ owner) × (c.z ≡ z) × (is_near reaches mark c ≡ true) → (eqb c.z z && is_watched reaches player c mark) ≡ true
      right_from p = and_from (eqb c.z z) (is_watched reaches player c mark) (eq-eqb c.z z p.1) (watched_from reaches player owner c mark owned p.0 p.2)
