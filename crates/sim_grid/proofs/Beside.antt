-- The steps from a cell are told by its neighbours, so one cell that is opened or closed changes those of the cells about it alone.
use Rattle.sim_base.specs.Places.{back, beside_open, cell_at, forward, is_straight, IsOnGround, level, neighbour, same_cell, Size}
use Rattle.sim_grid.specs.Grids.{AreFirstSteps, AreSteps, AreStepsApart, AreStepsBefore, AreStepsFrom, field_of_grid, HasSteps, is_open_at, is_open_step}
use Rattle.sim_laws.proofs.Neighbours.{cell_at-is, cell_at-some, neighbour-back, neighbour-below_eight, neighbour-on, past_eight, same_by_parts, same_cell-self}
use Rattle.std.proofs.Common.{[], ap, ap₂, arith, Bool, cond, false, get_or, inl, inr, length, length-append, List, None, Option, pos, refl, set, Some, subst}
use Rattle.std.proofs.Common.{suc, sym, true, zero, ℕ, ℤ, ⊎_elim, ◌&&◌, ◌*◌, ◌++◌, ◌+ℤ◌, ◌+◌, ◌<◌, ◌||◌, ◌∙◌, ◌∷◌, ◌≡◌, ◌≢◌, ◌≤◌, ◌⊎◌}
use Rattle.std.proofs.lemmas.{Bool.cases_Bool, Bool.true≢false, Grind.common_steps, Int.ints, List.get_or-set_other, List.get_or_append_left, Nat.mul-add-lt}
use Rattle.{sim_base.specs.declared.place.Cell.Cell, sim_grid.specs.Grids.IsNoted, sim_grid.specs.Grids.OpenCells, sim_grid.specs.Grids.is_open_to}
use Rattle.{sim_grid.specs.Grids.place_of, sim_laws.proofs.Neighbours.same_cell-true, std.proofs.Math.Nat.eq-or-lt_of_le, std.proofs.lemmas.Nat.same_from_place}

-- ---- two cells of a ground stand in two places

pub place-below : (size : Size) (c : Cell) → IsOnGround size c → place_of size c < size.width * size.depth
place-below size c on = mul-add-lt c.z size.width c.x size.depth on.north on.east

pub places-apart : (size : Size) (c e : Cell) → IsOnGround size c → IsOnGround size e → c ≢ e → place_of size c ≢ place_of size e
places-apart size c e on there ne f = let parts = same_from_place c.z c.x e.z e.x size.width on.east there.east f in ne (same_by_parts c e parts.1 parts.0)

-- ---- one cell is set

set_in : OpenCells → Cell → Bool → OpenCells
set_in g cell free = record g { cells = set g.cells (place_of g.size cell) free }

-- the cells beside a diagonal step are neighbours of the cell that it leads from
pub record AreCorners (size : Size) (c b : Cell) : Type 0 where
  pub first : (n : ℕ) × (neighbour size (record { x = c.x; z = b.z }) n ≡ Some c)
  pub second : (n : ℕ) × (neighbour size (record { x = b.x; z = c.z }) n ≡ Some c)

above : (size : Size) (c b : Cell) (z : ℤ) → IsOnGround size c → pos b.z +ℤ z ≡ pos c.z → cell_at size (pos c.x +ℤ level) (pos b.z +ℤ z) ≡ Some c
above size c b z on e = cell_at-is size (pos c.x +ℤ level) (pos b.z +ℤ z) c (record { on = on; by_x = omega (arith, ints); by_z = e })

aside : (size : Size) (c b : Cell) (x : ℤ) → IsOnGround size c → pos b.x +ℤ x ≡ pos c.x → cell_at size (pos b.x +ℤ x) (pos c.z +ℤ level) ≡ Some c
aside size c b x on e = cell_at-is size (pos b.x +ℤ x) (pos c.z +ℤ level) c (record { on = on; by_x = e; by_z = omega (arith, ints) })

back_from : (a b : ℕ) → pos a +ℤ forward ≡ pos b → pos b +ℤ back ≡ pos a
back_from a b e = omega (arith, ints)

forward_from : (a b : ℕ) → pos a +ℤ back ≡ pos b → pos b +ℤ forward ≡ pos a
forward_from a b e = omega (arith, ints)

corners : (size : Size) (c b : Cell) (which : ℕ) → IsOnGround size c → is_straight which ≡ false → neighbour size c which ≡ Some b → AreCorners size c b
corners size c b zero on h e = absurd (true≢false h)
corners size c b (suc zero) on h e = absurd (true≢false h)
corners size c b (suc (suc zero)) on h e = absurd (true≢false h)
corners size c b (suc (suc (suc zero))) on h e = absurd (true≢false h)
corners size c b (suc (suc (suc (suc zero)))) on h e =
    let p = cell_at-some size (pos c.x +ℤ forward) (pos c.z +ℤ forward) b e in
    record { first = (3, above size c b back on (back_from c.z b.z p.by_z)); second = (2, aside size c b back on (back_from c.x b.x p.by_x)) }
corners size c b (suc (suc (suc (suc (suc zero))))) on h e =
    let p = cell_at-some size (pos c.x +ℤ back) (pos c.z +ℤ forward) b e in
    record { first = (3, above size c b back on (back_from c.z b.z p.by_z)); second = (0, aside size c b forward on (forward_from c.x b.x p.by_x)) }
corners size c b (suc (suc (suc (suc (suc (suc zero)))))) on h e =
    let p = cell_at-some size (pos c.x +ℤ back) (pos c.z +ℤ back) b e in
    record { first = (1, above size c b forward on (forward_from c.z b.z p.by_z)); second = (0, aside size c b forward on (forward_from c.x b.x p.by_x)) }
corners size c b (suc (suc (suc (suc (suc (suc (suc zero))))))) on h e =
    let p = cell_at-some size (pos c.x +ℤ forward) (pos c.z +ℤ back) b e in
    record { first = (1, above size c b forward on (forward_from c.z b.z p.by_z)); second = (2, aside size c b back on (back_from c.x b.x p.by_x)) }
corners size c b (suc (suc (suc (suc (suc (suc (suc (suc w)))))))) on h e = absurd (past_eight size c b w e)

or-same : (s x y : Bool) → (s ≡ false → x ≡ y) → (s || x) ≡ (s || y)
or-same true x y f = refl
or-same false x y f = f refl

module _ (g : OpenCells) (cell : Cell) (free : Bool) (cell_on : IsOnGround g.size cell) where
  abbrev next : OpenCells
  next = record g { cells = set g.cells (place_of g.size cell) free }

  open-elsewhere : (e : Cell) → IsOnGround g.size e → e ≢ cell → is_open_at next e ≡ is_open_at g e
  open-elsewhere e on ne = get_or-set_other g.cells (place_of g.size cell) (place_of g.size e) free false (places-apart g.size e cell on cell_on ne)

  -- a cell that is not beside the one that is set has the same steps as before
  step-same : (c : Cell) (which : ℕ) → IsOnGround g.size c → ((w : ℕ) → neighbour g.size cell w ≢ Some c) → is_open_step (field_of_grid next) c which ≡
      is_open_step (field_of_grid g) c which
  step-same c which on none = by (neighbour g.size c which) refl
    where
      apart : (e : Cell) (w : ℕ) → neighbour g.size e w ≡ Some c → e ≢ cell
      apart e w f h = none w (ap (λ (v : Cell). neighbour g.size v w) (sym h) ∙ f)

      by : (o : Option Cell) → neighbour g.size c which ≡ o → is_open_to (field_of_grid next) c which o ≡ is_open_to (field_of_grid g) c which o
      by None e = refl
      by (Some b) e =
          let there = neighbour-on g.size c b which e in
          let back = neighbour-back g.size c b which on e in
          ap₂ (λ (p q : Bool). p && q) (open-elsewhere b there (apart b back.way_back back.leads))
          (or-same (is_straight which) (beside_open (is_open_at next) c b) (beside_open (is_open_at g) c b)
          (λ h.
          let k = corners g.size c b which on h e in
          let first : Cell = record { x = c.x; z = b.z } in
          let second : Cell = record { x = b.x; z = c.z } in
          ap₂ (λ (p q : Bool). p && q)
          (open-elsewhere first (record { east = on.east; north = there.north }) (apart first k.first.0 k.first.1))
          (open-elsewhere second (record { east = there.east; north = on.north }) (apart second k.second.0 k.second.1))))

  -- the steps that were noted before are right but for those from the cell and the cells about it
  pub steps-apart : (steps : List ℕ) → AreSteps g steps → AreStepsApart next cell steps
  steps-apart steps s =
      record {
        full = s.full;
        right = λ c on ne none which lt. s.right c on which lt ∙ ap (λ (b : Bool). cond b 1 0) (sym (step-same c which on none));
      }

-- ---- the steps are noted cell by cell

pub same_or_not : (c e : Cell) → (c ≡ e) ⊎ (c ≢ e)
same_or_not c e = by (cases_Bool (same_cell c e))
  where
    by : (same_cell c e ≡ true) ⊎ (same_cell c e ≡ false) → (c ≡ e) ⊎ (c ≢ e)
    by (inl h) = inl (same_cell-true c e h)
    by (inr h) = inr (λ f. true≢false (sym (same_cell-self c) ∙ ap (same_cell c) f ∙ h))

module _ (g : OpenCells) where
  -- a cell's steps stay where the list keeps what it has there
  has-still : (old new : List ℕ) (c : Cell) → get_or new (place_of g.size c) 0 ≡ get_or old (place_of g.size c) 0 → HasSteps g old c → HasSteps g new c
  has-still old new c e h = subst (λ (n : ℕ). AreStepsFrom (field_of_grid g) c n) (sym e) h

  pub noted-first : (about : Cell) (old new : List ℕ) → AreStepsApart g about old → IsNoted g old new about → AreStepsBefore g about 0 new
  noted-first about old new s n =
      record {
        full = n.full ∙ s.full;
        right = λ c on none.
            ⊎_elim
            (λ (e : c ≡ about). subst (λ (v : Cell). HasSteps g new v) (sym e) n.here)
            (λ (ne : c ≢ about). has-still old new c (n.elsewhere c on ne) (s.right c on ne (λ w. none w (omega arith))))
            (same_or_not c about);
      }

  pub noted-more : (about b : Cell) (n : ℕ) (old new : List ℕ) → neighbour g.size about n ≡ Some b → AreStepsBefore g about n old → IsNoted g old new b
      → AreStepsBefore g about (n + 1) new
  noted-more about b n old new leads s m =
      record {
        full = m.full ∙ s.full;
        right = λ c on none.
            ⊎_elim
            (λ (e : c ≡ b). subst (λ (v : Cell). HasSteps g new v) (sym e) m.here)
            (λ (ne : c ≢ b). has-still old new c (m.elsewhere c on ne) (s.right c on (λ w le f. further c ne none w f (eq-or-lt_of_le le))))
            (same_or_not c b);
      }
    where
      further : (c : Cell) → c ≢ b → ((w : ℕ) → n + 1 ≤ w → neighbour g.size about w ≢ Some c) → (w : ℕ) → neighbour g.size about w ≡ Some c → (n ≡ w) ⊎ (n < w)
          → ⊥
      further c ne none w f (inl e) = let both : Some c ≡ Some b = sym f ∙ ap (neighbour g.size about) (sym e) ∙ leads in let equal : c ≡ b = cc in ne equal
      further c ne none w f (inr lt) = none w (omega arith) f

  pub noted-past : (about : Cell) (n : ℕ) (steps : List ℕ) → neighbour g.size about n ≡ None → AreStepsBefore g about n steps
      → AreStepsBefore g about (n + 1) steps
  noted-past about n steps leads s = record { full = s.full; right = λ c on none. s.right c on (λ w le f. further c none w f (eq-or-lt_of_le le)) }
    where
      further : (c : Cell) → ((w : ℕ) → n + 1 ≤ w → neighbour g.size about w ≢ Some c) → (w : ℕ) → neighbour g.size about w ≡ Some c → (n ≡ w) ⊎ (n < w) → ⊥
      further c none w f (inl e) = let both : Some c ≡ None = sym f ∙ ap (neighbour g.size about) (sym e) ∙ leads in let never : ⊥ = cc in never
      further c none w f (inr lt) = none w (omega arith) f

  pub noted-all : (about : Cell) (n : ℕ) (steps : List ℕ) → 8 ≤ n → AreStepsBefore g about n steps → AreSteps g steps
  noted-all about n steps last s =
      record { full = s.full; right = λ c on. s.right c on (λ w le f. let below = neighbour-below_eight g.size about c w f in omega arith) }

  pub first-more : (x z made : ℕ) (steps : List ℕ) → x < g.size.width → AreFirstSteps g (z * g.size.width + x) steps
      → AreStepsFrom (field_of_grid g) (record { x = x; z = z }) made →
      AreFirstSteps g (z * g.size.width + (x + 1)) (steps ++ made ∷ [])
  first-more x z made steps lt s own =
      record {
        full = omega (arith, length-append steps (made ∷ []), s.full);
        right = λ c on below. by c on (eq-or-lt_of_le below);
      }
    where
      here : Cell
      here = record { x = x; z = z }

      last : (n : ℕ) → n ≡ length steps → get_or (steps ++ made ∷ []) n 0 ≡ made
      last n e = grind (arith, common_steps)

      by : (c : Cell) → IsOnGround g.size c → (suc (place_of g.size c) ≡ z * g.size.width + (x + 1)) ⊎ (suc (place_of g.size c) < z * g.size.width + (x + 1))
          → HasSteps g (steps ++ made ∷ []) c
      by c on (inl e) =
          let same : place_of g.size here ≡ place_of g.size c = omega arith in
          let parts = same_from_place z x c.z c.x g.size.width lt on.east same in
          let equal : here ≡ c = same_by_parts here c parts.1 parts.0 in
          subst (λ (n : ℕ). AreStepsFrom (field_of_grid g) c n) (sym (last (place_of g.size c) (omega (arith, s.full))))
          (subst (λ (v : Cell). AreStepsFrom (field_of_grid g) v made) equal own)
      by c on (inr below) =
          let before : place_of g.size c < z * g.size.width + x = omega arith in
          subst (λ (n : ℕ). AreStepsFrom (field_of_grid g) c n) (sym (get_or_append_left steps (made ∷ []) 0 (place_of g.size c) (omega (arith, s.full))))
          (s.right c on before)
