-- The steps by their directions are the definition's steps, forwards from a cell and backwards into one.
use Rattle.sim_search.proofs.Common.{Cell, cell_at, cell_at-some, cond, cond-true, cond_some, estimate_to, false, Field, forward, go, inl, inr, ints, is_free}
use Rattle.sim_search.proofs.Common.{abs_diff, Aim, and_from, and_parts, ap, ap₂, AreMoves, AreStepsFrom, arith, back, beside_open, bit_at, Bool, cases_Bool}
use Rattle.sim_search.proofs.Common.{is_open_to, is_some, is_straight, IsEstimate, IsGuide, IsOnGround, IsStep, level, max, may_go, min, neighbour}
use Rattle.sim_search.proofs.Common.{neighbour-back, neighbour-below_eight, None, octile, Option, option_and_then, option_and_then_some, pos, refl}
use Rattle.sim_search.proofs.Common.{same_by_parts, same_cell, same_cell-self, same_cell-true, Size, Some, stay, step_cost, step_to, straight-in_line, subst}
use Rattle.sim_search.proofs.Common.{suc, sym, true, true≢false, zero, ℕ, ℤ, ◌%◌, ◌&&◌, ◌*◌, ◌+ℤ◌, ◌+◌, ◌-◌, ◌/◌, ◌<◌, ◌||◌, ◌∙◌, ◌≡◌, ◌≢◌, ◌≤◌, ◌⊎◌}
use Rattle.{sim_base.proofs.Tests.bit_is, sim_laws.proofs.Neighbours.past_eight, sim_laws.proofs.Neighbours.same_cost, sim_search.proofs.Common.Walk}

and-comm : (a b : Bool) → (a && b) ≡ (b && a)
and-comm true true = refl
and-comm true false = refl
and-comm false true = refl
and-comm false false = refl

pub most_step : (which : ℕ) → step_cost which ≤ 14
most_step which = by (is_straight which)
  where
    by : (b : Bool) → cond b 10 14 ≤ 14
    by true = omega arith
    by false = omega arith

pub even_step : (which : ℕ) → step_cost which % 2 ≡ 0
even_step which = by (is_straight which)
  where
    by : (b : Bool) → cond b 10 14 % 2 ≡ 0
    by true = omega arith
    by false = omega arith

module _ (field : Field) (start : Cell) where
  -- what it means that a step from a in that direction leads to b
  pub record IsMove (a b : Cell) (which : ℕ) : Type 0 where
    pub leads : neighbour field.size a which ≡ Some b
    pub free : is_free field start b ≡ true
    pub beside : (is_straight which || beside_open (is_free field start) a b) ≡ true

  pub move-of : (a b : Cell) (which : ℕ) → step_to field start a which ≡ Some b → IsMove a b which
  move-of a b which e = option_and_then_some to (neighbour field.size a which) b e by
    where
      to : Cell → Option Cell
      to p = cond (may_go field start a p which) (Some p) None

      by : (p : Cell) → neighbour field.size a which ≡ Some p → to p ≡ Some b → IsMove a b which
      by p f g =
          let (passes, is) = cond_some (may_go field start a p which) p b g in
          let all : may_go field start a b which ≡ true = ap (λ (v : Cell). may_go field start a v which) (sym is) ∙ passes in
          let (free, beside) = and_parts (is_free field start b) (is_straight which || beside_open (is_free field start) a b) all in
          record { leads = f ∙ ap Some is; free = free; beside = beside }

  pub step_to-is : (a b : Cell) (which : ℕ) → IsMove a b which → step_to field start a which ≡ Some b
  step_to-is a b which m =
      rw m.leads (cond-true (may_go field start a b which) (Some b) None
      (and_from (is_free field start b) (is_straight which || beside_open (is_free field start) a b) m.free m.beside))

  pub step-of : (a b : Cell) (which : ℕ) → step_to field start a which ≡ Some b → IsStep field start a b (step_cost which)
  step-of a b which e = let m = move-of a b which e in record { which = which; leads = m.leads; free = m.free; beside = m.beside; cost_is = refl }

  -- each step goes in one of the eight directions
  pub record HasDirection (a b : Cell) (k : ℕ) : Type 0 where
    pub which : ℕ
    pub below_eight : which < 8
    pub leads : step_to field start a which ≡ Some b
    pub cost_is : k ≡ step_cost which

  pub direction-of : (a b : Cell) (k : ℕ) → IsStep field start a b k → HasDirection a b k
  direction-of a b k s =
      record {
        which = s.which;
        below_eight = neighbour-below_eight field.size a b s.which s.leads;
        leads = step_to-is a b s.which (record { leads = s.leads; free = s.free; beside = s.beside });
        cost_is = s.cost_is;
      }

  pub free-of_walk : {c : Cell} {n : ℕ} → Walk (IsStep field start) start c n → is_free field start c ≡ true
  free-of_walk stay = ap (λ (b : Bool). b || field.is_open start) (same_cell-self start)
  free-of_walk (go w s) = s.free

  beside-comm : (a b : Cell) → beside_open (is_free field start) a b ≡ beside_open (is_free field start) b a
  beside-comm a b = and-comm (is_free field start (record { x = a.x; z = b.z })) (is_free field start (record { x = b.x; z = a.z }))

  -- a step from c to p is one from p to c where c is free
  pub step_back : (c p : Cell) (which : ℕ) → IsOnGround field.size c → is_free field start c ≡ true → step_to field start c which ≡ Some p
      → IsStep field start p c (step_cost which)
  step_back c p which on free e =
      let m = move-of c p which e in
      let back = neighbour-back field.size c p which on m.leads in
      record {
        which = back.way_back;
        leads = back.leads;
        free = free;
        beside = ap₂ (λ (a b : Bool). a || b) back.as_straight (beside-comm p c) ∙ m.beside;
        cost_is = same_cost which back.way_back (sym back.as_straight);
      }

  -- a step from p to c, in each direction from c to p
  pub record IsBackStep (c p : Cell) (which k : ℕ) : Type 0 where
    pub leads : step_to field start c which ≡ Some p
    pub cost_is : k ≡ step_cost which

  pub back_step : (c p : Cell) (which k : ℕ) → IsOnGround field.size p → is_free field start p ≡ true → IsStep field start p c k
      → neighbour field.size c which ≡ Some p → IsBackStep c p which k
  back_step c p which k on free s e =
      let back = neighbour-back field.size p c s.which on s.leads in
      let straight : is_straight which ≡ is_straight s.which = straight-in_line field.size c p which e ∙
      sym (straight-in_line field.size c p back.way_back back.leads) ∙ back.as_straight in
      record {
        leads = step_to-is c p which (record { leads = e; free = free; beside = ap₂ (λ (a b : Bool). a || b) straight (beside-comm c p) ∙ s.beside });
        cost_is = s.cost_is ∙ same_cost s.which which (sym straight);
      }

some_cond : (t : Bool) (b : Cell) → is_some (cond t (Some b) None) ≡ t
some_cond true b = refl
some_cond false b = refl

module _ (field : Field) (start : Cell) where
  -- whether a step is allowed, by its neighbour
  abbrev pub is_allowed_to : Cell → ℕ → Option Cell → Bool
  is_allowed_to a which None = false
  is_allowed_to a which (Some b) = may_go field start a b which

  pub allowed-is : (a : Cell) (which : ℕ) (o : Option Cell) → neighbour field.size a which ≡ o → is_some (step_to field start a which) ≡ is_allowed_to a which o
  allowed-is a which o e = ap (λ (p : Option Cell). is_some (option_and_then (λ (b : Cell). cond (may_go field start a b which) (Some b) None) p)) e ∙ by o
    where
      by : (p : Option Cell) → is_some (option_and_then (λ (b : Cell). cond (may_go field start a b which) (Some b) None) p) ≡ is_allowed_to a which p
      by None = refl
      by (Some b) = some_cond (may_go field start a b which) b

  -- where the start is open, no more cells may be entered than are open
  module _ (start_open : field.is_open start ≡ true) where
    pub free-open : (c : Cell) → is_free field start c ≡ field.is_open c
    free-open c = by (cases_Bool (same_cell c start))
      where
        by : (same_cell c start ≡ true) ⊎ (same_cell c start ≡ false) → is_free field start c ≡ field.is_open c
        by (inl h) = ap (λ (t : Bool). t || field.is_open c) h ∙ sym (ap field.is_open (same_cell-true c start h) ∙ start_open)
        by (inr h) = ap (λ (t : Bool). t || field.is_open c) h

    go-open : (a : Cell) (which : ℕ) (o : Option Cell) → is_allowed_to a which o ≡ is_open_to field a which o
    go-open a which None = refl
    go-open a which (Some b) =
        ap₂ (λ (p q : Bool). p && q) (free-open b)
        (ap (λ (t : Bool). is_straight which || t) (ap₂ (λ (p q : Bool). p && q) (free-open (record { x = a.x; z = b.z }))
        (free-open (record { x = b.x; z = a.z }))))

    pub open-moves : (a : Cell) (moves : ℕ) → AreStepsFrom field a moves → AreMoves field start a moves
    open-moves a moves s which lt = s which lt ∙
        ap (λ (t : Bool). cond t 1 0) (sym (allowed-is a which (neighbour field.size a which) refl ∙ go-open a which (neighbour field.size a which)))

  bit_not_is : (t : Bool) (n : ℕ) → n ≡ cond t 1 0 → n ≢ 1 → t ≡ false
  bit_not_is true n e f = absurd (f e)
  bit_not_is false n e f = refl

  is_some-some : {X : Type 0} (o : Option X) → is_some o ≡ true → (x : X) × (o ≡ Some x)
  is_some-some None h = absurd (true≢false (sym h))
  is_some-some (Some x) h = (x, refl)

  is_some-none : {X : Type 0} (o : Option X) → is_some o ≡ false → o ≡ None
  is_some-none None h = refl
  is_some-none (Some x) h = absurd (true≢false h)

  -- a bit that is set stands for a step, and one that isn't for none
  pub move-by_bit : (a : Cell) (moves which : ℕ) → which < 8 → AreMoves field start a moves → bit_at moves which ≡ 1 → (b : Cell)
      × (step_to field start a which ≡ Some b)
  move-by_bit a moves which lt m set = is_some-some (step_to field start a which) (bit_is (is_some (step_to field start a which)) (bit_at moves which)
      (m which lt) set)

  pub no_move-by_bit : (a : Cell) (moves which : ℕ) → which < 8 → AreMoves field start a moves → bit_at moves which ≢ 1 → step_to field start a which ≡ None
  no_move-by_bit a moves which lt m unset = is_some-none (step_to field start a which) (bit_not_is (is_some (step_to field start a which)) (bit_at moves which)
      (m which lt) unset)

-- The octile distance to a cell falls and rises along a step by at most what the step costs.

-- how far two cells lie apart that are beside one another
pub data IsBeside (a b : Cell) : ℕ → Type 0 where
  in_row : a.x ≤ b.x + 1 → b.x ≤ a.x + 1 → a.z ≡ b.z → IsBeside a b 10
  in_column : a.x ≡ b.x → a.z ≤ b.z + 1 → b.z ≤ a.z + 1 → IsBeside a b 10
  across : a.x ≤ b.x + 1 → b.x ≤ a.x + 1 → a.z ≤ b.z + 1 → b.z ≤ a.z + 1 → IsBeside a b 14

row_at : (size : Size) (a b : Cell) (x : ℤ) → (pos a.x +ℤ x ≡ pos b.x → (a.x ≤ b.x + 1) × (b.x ≤ a.x + 1)) → cell_at size (pos a.x +ℤ x) (pos a.z +ℤ level) ≡
    Some b → IsBeside a b 10
row_at size a b x f e = let p = cell_at-some size (pos a.x +ℤ x) (pos a.z +ℤ level) b e in let by_z = p.by_z in let (l, r) = f p.by_x in
    in_row l r (omega (arith, ints))

column_at : (size : Size) (a b : Cell) (z : ℤ) → (pos a.z +ℤ z ≡ pos b.z → (a.z ≤ b.z + 1) × (b.z ≤ a.z + 1)) → cell_at size (pos a.x +ℤ level) (pos a.z +ℤ z) ≡
    Some b → IsBeside a b 10
column_at size a b z f e = let p = cell_at-some size (pos a.x +ℤ level) (pos a.z +ℤ z) b e in let by_x = p.by_x in let (l, r) = f p.by_z in
    in_column (omega (arith, ints)) l r

across_at : (size : Size) (a b : Cell) (x z : ℤ) → (pos a.x +ℤ x ≡ pos b.x → (a.x ≤ b.x + 1) × (b.x ≤ a.x + 1))
    → (pos a.z +ℤ z ≡ pos b.z → (a.z ≤ b.z + 1) × (b.z ≤ a.z + 1)) → cell_at size (pos a.x +ℤ x) (pos a.z +ℤ z) ≡ Some b → IsBeside a b 14
across_at size a b x z f g e = let p = cell_at-some size (pos a.x +ℤ x) (pos a.z +ℤ z) b e in let (l, r) = f p.by_x in let (m, s) = g p.by_z in across l r m s

up : (a b : ℕ) → pos a +ℤ forward ≡ pos b → (a ≤ b + 1) × (b ≤ a + 1)
up a b e = (omega (arith, ints), omega (arith, ints))

down : (a b : ℕ) → pos a +ℤ back ≡ pos b → (a ≤ b + 1) × (b ≤ a + 1)
down a b e = (omega (arith, ints), omega (arith, ints))

beside_by : (size : Size) (a b : Cell) (which : ℕ) → neighbour size a which ≡ Some b → IsBeside a b (step_cost which)
beside_by size a b zero e = row_at size a b forward (up a.x b.x) e
beside_by size a b (suc zero) e = column_at size a b forward (up a.z b.z) e
beside_by size a b (suc (suc zero)) e = row_at size a b back (down a.x b.x) e
beside_by size a b (suc (suc (suc zero))) e = column_at size a b back (down a.z b.z) e
beside_by size a b (suc (suc (suc (suc zero)))) e = across_at size a b forward forward (up a.x b.x) (up a.z b.z) e
beside_by size a b (suc (suc (suc (suc (suc zero))))) e = across_at size a b back forward (down a.x b.x) (up a.z b.z) e
beside_by size a b (suc (suc (suc (suc (suc (suc zero)))))) e = across_at size a b back back (down a.x b.x) (down a.z b.z) e
beside_by size a b (suc (suc (suc (suc (suc (suc (suc zero))))))) e = across_at size a b forward back (up a.x b.x) (down a.z b.z) e
beside_by size a b (suc (suc (suc (suc (suc (suc (suc (suc w)))))))) e = absurd (past_eight size a b w e)

pub beside_of : (field : Field) (start a b : Cell) (k : ℕ) → IsStep field start a b k → IsBeside a b k
beside_of field start a b k s = subst (λ (n : ℕ). IsBeside a b n) (sym s.cost_is) (beside_by field.size a b s.which s.leads)

-- the octile distance of two differences
abbrev far : ℕ → ℕ → ℕ
far x z = 14 * min x z + 10 * (max x z - min x z)

-- differences that differ by at most one
pub record IsAbout (m n : ℕ) : Type 0 where
  pub most : m ≤ n + 1
  pub least : n ≤ m + 1

about : (a b g : ℕ) → a ≤ b + 1 → b ≤ a + 1 → IsAbout (abs_diff a g) (abs_diff b g)
about a b g l m = record { most = omega arith; least = omega arith }

far_straight : (x y z : ℕ) → IsAbout x y → far x z ≤ 10 + far y z
far_straight x y z a = omega (arith, a.most, a.least)

far_upright : (x z w : ℕ) → IsAbout z w → far x z ≤ 10 + far x w
far_upright x z w a = omega (arith, a.most, a.least)

far_across : (x y z w : ℕ) → IsAbout x y → IsAbout z w → far x z ≤ 14 + far y w
far_across x y z w a b = omega (arith, a.most, a.least, b.most, b.least)

pub turned : {a b : Cell} {k : ℕ} → IsBeside a b k → IsBeside b a k
turned (in_row l m e) = in_row m l (sym e)
turned (in_column e l m) = in_column (sym e) m l
turned (across l m p q) = across m l q p

pub octile-near : {a b : Cell} {k : ℕ} (g : Cell) → IsBeside a b k → octile a g ≤ k + octile b g
octile-near {a} {b} g (in_row l m e) =
    let h = far_straight (abs_diff a.x g.x) (abs_diff b.x g.x) (abs_diff a.z g.z) (about a.x b.x g.x l m) in
    subst (λ (n : ℕ). far (abs_diff a.x g.x) (abs_diff a.z g.z) ≤ 10 + far (abs_diff b.x g.x) (abs_diff n g.z)) e h
octile-near {a} {b} g (in_column e l m) =
    let h = far_upright (abs_diff a.x g.x) (abs_diff a.z g.z) (abs_diff b.z g.z) (about a.z b.z g.z l m) in
    subst (λ (n : ℕ). far (abs_diff a.x g.x) (abs_diff a.z g.z) ≤ 10 + far (abs_diff n g.x) (abs_diff b.z g.z)) e h
octile-near {a} {b} g (across l m p q) = far_across (abs_diff a.x g.x) (abs_diff b.x g.x) (abs_diff a.z g.z) (abs_diff b.z g.z) (about a.x b.x g.x l m)
    (about a.z b.z g.z p q)

most_beside : {a b : Cell} {k : ℕ} → IsBeside a b k → k ≤ 14
most_beside (in_row l m e) = omega arith
most_beside (in_column e l m) = omega arith
most_beside (across l m p q) = omega arith

even_beside : {a b : Cell} {k : ℕ} → IsBeside a b k → k % 2 ≡ 0
even_beside (in_row l m e) = omega arith
even_beside (in_column e l m) = omega arith
even_beside (across l m p q) = omega arith

pub estimate-falls : (aim : Aim) (field : Field) (start : Cell) → IsEstimate (IsStep field start) (estimate_to aim)
estimate-falls aim field start = record {
  falls = λ a b k s. let w = beside_of field start a b k s in less (octile a aim.goal) (octile b aim.goal) k aim.near
      (even_beside w) (octile-near aim.goal w);
}
  where
    less : (m n k near : ℕ) → k % 2 ≡ 0 → m ≤ k + n → (m - near) / 2 * 2 ≤ k + (n - near) / 2 * 2
    less m n k near e h = omega arith

estimate-rises : (aim : Aim) (field : Field) (start a b : Cell) (k : ℕ) → IsStep field start a b k → k + estimate_to aim b + 1 ≤ estimate_to aim a + 32
estimate-rises aim field start a b k s =
    let w = beside_of field start a b k s in
    more (octile a aim.goal) (octile b aim.goal) k aim.near (even_beside w) (octile-near aim.goal (turned w)) (most_beside w)
  where
    more : (m n k near : ℕ) → k % 2 ≡ 0 → n ≤ k + m → k ≤ 14 → k + (n - near) / 2 * 2 + 1 ≤ (m - near) / 2 * 2 + 32
    more m n k near e h l = omega arith

-- the octile estimate guides each search
pub estimate-guides : (aim : Aim) (field : Field) (start : Cell) → IsGuide field start (estimate_to aim)
estimate-guides aim field start = record {
  falls = estimate-falls aim field start;
  rises = λ a b k n w s. estimate-rises aim field start a b k s;
  even = λ c. twice ((octile c aim.goal - aim.near) / 2);
}
  where
    twice : (n : ℕ) → n * 2 % 2 ≡ 0
    twice n = omega arith

-- all walks cost an even number
pub walk-even : (field : Field) (start : Cell) {c : Cell} {n : ℕ} → Walk (IsStep field start) start c n → n % 2 ≡ 0
walk-even field start stay = omega arith
walk-even field start (go {a = a} {b = b} {n = n} {k = k} w s) = omega (arith, walk-even field start w, even_beside (beside_of field start a b k s))

none_far : (x z : ℕ) → far x z ≡ 0 → (x ≡ 0) × (z ≡ 0)
none_far x z e = (omega arith, omega arith)

not_apart : (a g : ℕ) → abs_diff a g ≡ 0 → a ≡ g
not_apart a g e = omega arith

-- only the goal's own cell is at no distance
pub octile-none : (c g : Cell) → octile c g ≡ 0 → c ≡ g
octile-none c g e = let (x, z) = none_far (abs_diff c.x g.x) (abs_diff c.z g.z) e in same_by_parts c g (not_apart c.x g.x x) (not_apart c.z g.z z)

itself : (a : ℕ) → abs_diff a a ≡ 0
itself a = omega arith

pub octile-self : (g : Cell) → octile g g ≡ 0
octile-self g = ap₂ far (itself g.x) (itself g.z)
