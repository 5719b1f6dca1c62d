-- A building comes or goes at one cell after another.
use Rattle.sim_base.proofs.Tests.{no_number, one_more, past}
use Rattle.sim_territory.proofs.Common.{abs_diff, and_from, and_left, and_parts, and_right, ap, arith, Bool, Building, cases_Bool, cases_eq, cases_lt, Cell}
use Rattle.sim_territory.proofs.Common.{cond, cond-false, cond-true, eq-eqb, eqb-true, false, HasShapeOf, in_part, inl, inr, IsOnGround, IsPlaceIn, IsSummed}
use Rattle.sim_territory.proofs.Common.{le-leb, lt-ltb, max, MayMove, MaySumsMove, min, Moves, nat_le, nat_lt, nat_tests, ne_eqb, octile, refl, same_cell}
use Rattle.sim_territory.proofs.Common.{same_cell-self, same_cell-true, same_or_not, share_of, share_where, Size, size_in, SpansNear, strength_of, subst}
use Rattle.sim_territory.proofs.Common.{sum_at, Sums, SumsMove, sym, true, ℕ, ◌&&◌, ◌*◌, ◌+◌, ◌-◌, ◌<◌, ◌==◌, ◌||◌, ◌∙◌, ◌≡◌, ◌≤◌, ◌⊎◌}

-- What a building gives, and where.

pub share-own : (b : Building) (player : ℕ) (c : Cell) → player ≡ b.owner → share_of b player c ≡ strength_of b c
share-own b player c e = cond-true (b.owner == player) (strength_of b c) 0 (eq-eqb b.owner player (sym e))

pub share-other : (b : Building) (player : ℕ) (c : Cell) → (player ≡ b.owner → ⊥) → share_of b player c ≡ 0
share-other b player c ne = cond-false (b.owner == player) (strength_of b c) 0 (ne_eqb b.owner player (λ e. ne (sym e)))

pub share-weak : (b : Building) (player : ℕ) (c : Cell) → strength_of b c ≡ 0 → share_of b player c ≡ 0
share-weak b player c e = by (b.owner == player)
  where
    by : (t : Bool) → cond t (strength_of b c) 0 ≡ 0
    by true = e
    by false = refl

pub where-true : (which : Cell → Bool) (b : Building) (player : ℕ) (c : Cell) → which c ≡ true → share_where which b player c ≡ share_of b player c
where-true which b player c e = cond-true (which c) (share_of b player c) 0 e

pub where-false : (which : Cell → Bool) (b : Building) (player : ℕ) (c : Cell) → which c ≡ false → share_where which b player c ≡ 0
where-false which b player c e = cond-false (which c) (share_of b player c) 0 e

pub where-weak : (which : Cell → Bool) (b : Building) (player : ℕ) (c : Cell) → strength_of b c ≡ 0 → share_where which b player c ≡ 0
where-weak which b player c e = by (which c)
  where
    by : (t : Bool) → cond t (share_of b player c) 0 ≡ 0
    by true = share-weak b player c e
    by false = refl

-- ---- some of the cells, and others besides

module _ (p q r : Cell → Bool) (b : Building) (player : ℕ) (c : Cell) where
  pub where-split : r c ≡ (p c || q c) → (p c ≡ true → q c ≡ false) → share_where r b player c ≡ share_where p b player c + share_where q b player c
  where-split e apart = by (p c) (q c) (r c) e apart
    where
      by : (x y z : Bool) → z ≡ (x || y) → (x ≡ true → y ≡ false) → cond z (share_of b player c) 0 ≡ cond x (share_of b player c) 0 +
          cond y (share_of b player c) 0
      by true true z f never = absurd (let h = never refl in cc)
      by true false true f never = omega arith
      by true false false f never = absurd (cc)
      by false true true f never = omega arith
      by false true false f never = absurd (cc)
      by false false true f never = absurd (cc)
      by false false false f never = omega arith

  pub where-within : (p c ≡ true → r c ≡ true) → (q c ≡ true → r c ≡ true) → (p c ≡ true → q c ≡ false) → share_where p b player c + share_where q b player c ≤
      share_where r b player c
  where-within f g apart = by (p c) (q c) (r c) f g apart
    where
      by : (x y z : Bool) → (x ≡ true → z ≡ true) → (y ≡ true → z ≡ true) → (x ≡ true → y ≡ false) → cond x (share_of b player c) 0 +
          cond y (share_of b player c) 0 ≤ cond z (share_of b player c) 0
      by true true z f g never = absurd (let h = never refl in cc)
      by true false true f g never = omega arith
      by true false false f g never = absurd (let h = f refl in cc)
      by false true true f g never = omega arith
      by false true false f g never = absurd (let h = g refl in cc)
      by false false z f g never = by_none z
        where
          by_none : (t : Bool) → 0 + 0 ≤ cond t (share_of b player c) 0
          by_none true = omega arith
          by_none false = omega arith

-- ---- what is far is weak

longer : (m n : ℕ) → 10 * m ≤ 14 * min m n + 10 * (max m n - min m n)
longer m n = omega arith

longer_other : (m n : ℕ) → 10 * n ≤ 14 * min m n + 10 * (max m n - min m n)
longer_other m n = omega arith

pub far-east : (b : Building) (c : Cell) → b.reach ≤ 10 * abs_diff b.cell.x c.x → strength_of b c ≡ 0
far-east b c far = let more = longer (abs_diff b.cell.x c.x) (abs_diff b.cell.z c.z) in less (10 * abs_diff b.cell.x c.x) (octile b.cell c) far more
  where
    less : (m o : ℕ) → b.reach ≤ m → m ≤ o → b.reach - o ≡ 0
    less m o f g = omega arith

-- in another row less far is enough
longer_across : (m n : ℕ) → 10 * m + 4 * n ≤ 14 * min m n + 10 * (max m n - min m n)
longer_across m n = omega arith

pub far-along : (b : Building) (c : Cell) → b.reach - 4 * abs_diff b.cell.z c.z ≤ 10 * abs_diff b.cell.x c.x → strength_of b c ≡ 0
far-along b c far = let more = longer_across (abs_diff b.cell.x c.x) (abs_diff b.cell.z c.z) in less (10 * abs_diff b.cell.x c.x) (4 * abs_diff b.cell.z c.z)
    (octile b.cell c) far more
  where
    less : (m n o : ℕ) → b.reach - n ≤ m → m + n ≤ o → b.reach - o ≡ 0
    less m n o f g = omega arith

pub far-north : (b : Building) (c : Cell) → b.reach ≤ 10 * abs_diff b.cell.z c.z → strength_of b c ≡ 0
far-north b c far = let more = longer_other (abs_diff b.cell.x c.x) (abs_diff b.cell.z c.z) in less (10 * abs_diff b.cell.z c.z) (octile b.cell c) far more
  where
    less : (m o : ℕ) → b.reach ≤ m → m ≤ o → b.reach - o ≡ 0
    less m o f g = omega arith

-- what a span of numbers leaves out is far
pub left_out : (from reach cells n : ℕ) (span : ℕ × ℕ) → SpansNear from reach cells span → n < cells → (n < span.0) ⊎ (span.1 ≤ n)
    → reach ≤ 10 * abs_diff from n
left_out from reach cells n span all lt out = by (cases_lt (10 * abs_diff from n) reach)
  where
    never : (n < span.0) ⊎ (span.1 ≤ n) → (span.0 ≤ n) × (n < span.1) → ⊥
    never (inl before) (a, b) = omega arith
    never (inr past) (a, b) = omega arith

    by : (10 * abs_diff from n < reach) ⊎ (reach ≤ 10 * abs_diff from n) → reach ≤ 10 * abs_diff from n
    by (inl near) = absurd (never out (all n lt near))
    by (inr far) = far

-- ---- the octile distance

-- diagonal steps along the shorter side weigh 4 more than straight ones, so it is the greater of two weights of the sides
pub octile_is : (m n : ℕ) → 14 * min m n + 10 * (max m n - min m n) ≡ max (10 * m + 4 * n) (10 * n + 4 * m)
octile_is m n = omega arith

-- ---- one ground, and as many players

pub shape-same : (sums : Sums) → HasShapeOf sums sums
shape-same sums = record { width = refl; depth = refl; players = refl }

pub shape-chain : (a b c : Sums) → HasShapeOf a b → HasShapeOf b c → HasShapeOf a c
shape-chain a b c f g = record { width = g.width ∙ f.width; depth = g.depth ∙ f.depth; players = g.players ∙ f.players }

pub size-shape : (old new : Sums) → HasShapeOf old new → size_in new ≡ size_in old
size-shape old new shape =
    ap (λ (w : ℕ). let s : Size = record { width = w; depth = new.depth } in s) shape.width
    ∙ ap (λ (d : ℕ). let s : Size = record { width = old.width; depth = d } in s) shape.depth

pub place-later : (old new : Sums) (player : ℕ) (c : Cell) → HasShapeOf old new → IsPlaceIn old player c → IsPlaceIn new player c
place-later old new player c shape at =
    record {
      least = at.least;
      most = let most = at.most in let same = shape.players in omega arith;
      ground = subst (λ (s : Size). IsOnGround s c) (sym (size-shape old new shape)) at.ground;
    }

pub place-before : (old new : Sums) (player : ℕ) (c : Cell) → HasShapeOf old new → IsPlaceIn new player c → IsPlaceIn old player c
place-before old new player c shape at =
    record {
      least = at.least;
      most = let most = at.most in let same = shape.players in omega arith;
      ground = subst (λ (s : Size). IsOnGround s c) (size-shape old new shape) at.ground;
    }

-- ---- numbers

moves_chain : (more : Bool) (a b old mid new : ℕ) → Moves more a old mid → Moves more b mid new → Moves more (a + b) old new
moves_chain true a b old mid new f g = omega (arith, f, g)
moves_chain false a b old mid new f g = omega (arith, f, g)

moves_none : (more : Bool) (n : ℕ) → Moves more 0 n n
moves_none true n = omega arith
moves_none false n = omega arith

may_later : (more : Bool) (a b all old mid : ℕ) → a + b ≤ all → Moves more a old mid → MayMove more all old → MayMove more b mid
may_later true a b all old mid le f may = omega (arith, f, may, le)
may_later false a b all old mid le f may = omega (arith, f, may, le)

-- ---- tables

pub sums_none : (more : Bool) (by : ℕ → Cell → ℕ) (sums : Sums) → ((player : ℕ) (c : Cell) → IsPlaceIn sums player c → by player c ≡ 0)
    → SumsMove more by sums sums
sums_none more by sums none =
    record {
      shape = shape-same sums;
      each = λ player c at. subst (λ (n : ℕ). Moves more n (sum_at sums player c) (sum_at sums player c)) (sym (none player c at))
          (moves_none more (sum_at sums player c));
    }

pub sums_same : (more : Bool) (by other : ℕ → Cell → ℕ) (old new : Sums) → ((player : ℕ) (c : Cell) → IsPlaceIn old player c → by player c ≡ other player c)
    → SumsMove more by old new → SumsMove more other old new
sums_same more by other old new same moved =
    record {
      shape = moved.shape;
      each = λ player c at. subst (λ (n : ℕ). Moves more n (sum_at old player c) (sum_at new player c)) (same player c at) (moved.each player c at);
    }

pub may_same : (more : Bool) (by other : ℕ → Cell → ℕ) (sums : Sums) → ((player : ℕ) (c : Cell) → IsPlaceIn sums player c → by player c ≡ other player c)
    → MaySumsMove more by sums → MaySumsMove more other sums
may_same more by other sums same may player c at = subst (λ (n : ℕ). MayMove more n (sum_at sums player c)) (same player c at) (may player c at)

module _ (more : Bool) (b : Building) (p q r : Cell → Bool) (old mid : Sums) where
  pub sums_more : (new : Sums) → ((c : Cell) → r c ≡ (p c || q c)) → ((c : Cell) → p c ≡ true → q c ≡ false) → SumsMove more (share_where p b) old mid
      → SumsMove more (share_where q b) mid new → SumsMove more (share_where r b) old new
  sums_more new split apart first second =
      record {
        shape = shape-chain old mid new first.shape second.shape;
        each = λ player c at.
            subst (λ (n : ℕ). Moves more n (sum_at old player c) (sum_at new player c)) (sym (where-split p q r b player c (split c) (apart c)))
            (moves_chain more (share_where p b player c) (share_where q b player c) (sum_at old player c) (sum_at mid player c) (sum_at new player c)
            (first.each player c at)
            (second.each player c (place-later old mid player c first.shape at)));
      }

  pub sums_may : ((c : Cell) → p c ≡ true → r c ≡ true) → ((c : Cell) → q c ≡ true → r c ≡ true) → ((c : Cell) → p c ≡ true → q c ≡ false)
      → SumsMove more (share_where p b) old mid → MaySumsMove more (share_where r b) old → MaySumsMove more (share_where q b) mid
  sums_may f g apart first may player c at =
      let before = place-before old mid player c first.shape at in
      may_later more (share_where p b player c) (share_where q b player c) (share_where r b player c) (sum_at old player c) (sum_at mid player c)
      (where-within p q r b player c (f c) (g c) (apart c)) (first.each player c before) (may player c before)

-- ---- one cell

pub cell_may : (more : Bool) (b : Building) (cell : Cell) (sums : Sums) → IsPlaceIn sums b.owner cell → MaySumsMove more (share_where (λ w. same_cell w cell) b)
    sums → MayMove more (strength_of b cell) (sum_at sums b.owner cell)
cell_may more b cell sums at may =
    subst (λ (n : ℕ). MayMove more n (sum_at sums b.owner cell)) (where-true (λ w. same_cell w cell) b b.owner cell (same_cell-self cell) ∙
    share-own b b.owner cell refl) (may b.owner cell at)

pub cell_moves : (more : Bool) (b : Building) (cell : Cell) (old new : Sums) (influence : ℕ) → IsSummed old new b.owner cell influence
    → Moves more (strength_of b cell) (sum_at old b.owner cell) influence →
    SumsMove more (share_where (λ w. same_cell w cell) b) old new
cell_moves more b cell old new influence summed step =
    record { shape = summed.shape; each = λ player c at. each player c at (same_or_not c cell) (cases_eq player b.owner) }
  where
    stays : (player : ℕ) (c : Cell) → share_where (λ w. same_cell w cell) b player c ≡ 0 → sum_at new player c ≡ sum_at old player c
        → Moves more (share_where (λ w. same_cell w cell) b player c) (sum_at old player c) (sum_at new player c)
    stays player c none same =
        subst (λ (n : ℕ). Moves more n (sum_at old player c) (sum_at new player c)) (sym none)
        (subst (λ (n : ℕ). Moves more 0 (sum_at old player c) n) (sym same) (moves_none more (sum_at old player c)))

    other : (c : Cell) → (c ≡ cell → ⊥) → same_cell c cell ≡ false
    other c ne = by (cases_Bool (same_cell c cell))
      where
        by : (same_cell c cell ≡ true) ⊎ (same_cell c cell ≡ false) → same_cell c cell ≡ false
        by (inl e) = absurd (ne (same_cell-true c cell e))
        by (inr e) = e

    here : Moves more (share_where (λ w. same_cell w cell) b b.owner cell) (sum_at old b.owner cell) (sum_at new b.owner cell)
    here =
        subst (λ (n : ℕ). Moves more n (sum_at old b.owner cell) (sum_at new b.owner cell))
        (sym (where-true (λ w. same_cell w cell) b b.owner cell (same_cell-self cell) ∙ share-own b b.owner cell refl))
        (subst (λ (n : ℕ). Moves more (strength_of b cell) (sum_at old b.owner cell) n) (sym summed.here) step)

    each : (player : ℕ) (c : Cell) → IsPlaceIn old player c → (c ≡ cell) ⊎ (c ≡ cell → ⊥) → (player ≡ b.owner) ⊎ (player ≡ b.owner → ⊥)
        → Moves more (share_where (λ w. same_cell w cell) b player c) (sum_at old player c) (sum_at new player c)
    each player c at (inl e) (inl f) =
        subst (λ (v : Cell). Moves more (share_where (λ w. same_cell w cell) b player v) (sum_at old player v) (sum_at new player v)) (sym e)
        (subst (λ (n : ℕ). Moves more (share_where (λ w. same_cell w cell) b n cell) (sum_at old n cell) (sum_at new n cell)) (sym f) here)
    each player c at (inl e) (inr ne) =
        subst (λ (v : Cell). Moves more (share_where (λ w. same_cell w cell) b player v) (sum_at old player v) (sum_at new player v)) (sym e)
        (stays player cell (where-true (λ w. same_cell w cell) b player cell (same_cell-self cell) ∙ share-other b player cell ne)
        (summed.beside player at.least ne))
    each player c at (inr ne) f = stays player c (where-false (λ w. same_cell w cell) b player c (other c ne)) (summed.elsewhere player c at.ground ne)

pub cell_stays : (more : Bool) (b : Building) (cell : Cell) (sums : Sums) → strength_of b cell ≡ 0 → SumsMove more (share_where (λ w. same_cell w cell) b) sums
    sums
cell_stays more b cell sums weak = sums_none more (share_where (λ w. same_cell w cell) b) sums (λ player c at. none player c (same_or_not c cell))
  where
    none : (player : ℕ) (c : Cell) → (c ≡ cell) ⊎ (c ≡ cell → ⊥) → share_where (λ w. same_cell w cell) b player c ≡ 0
    none player c (inl e) = where-weak (λ w. same_cell w cell) b player c (ap (strength_of b) e ∙ weak)
    none player c (inr ne) = by (cases_Bool (same_cell c cell))
      where
        by : (same_cell c cell ≡ true) ⊎ (same_cell c cell ≡ false) → share_where (λ w. same_cell w cell) b player c ≡ 0
        by (inl e) = absurd (ne (same_cell-true c cell e))
        by (inr e) = where-false (λ w. same_cell w cell) b player c e

-- ---- a row

-- the cells of a row
abbrev pub in_line : ℕ → Cell → Bool
in_line z c = c.z == z

part_none : (z west : ℕ) (c : Cell) → in_part z west west c ≡ false
part_none z west c = and_right (c.z == z) (nat_le west c.x && nat_lt c.x west) (no_number west c.x)

part_more : (z west x : ℕ) (c : Cell) → west ≤ x → in_part z west (x + 1) c ≡ (in_part z west x c || same_cell c (record { x = x; z = z }))
part_more z west x c le = by (c.z == z) (c.x == x) (one_more west x c.x le)
  where
    by : (b e : Bool) → (nat_le west c.x && nat_lt c.x (x + 1)) ≡ ((nat_le west c.x && nat_lt c.x x) || e) → (b && (nat_le west c.x && nat_lt c.x (x + 1))) ≡
        ((b && (nat_le west c.x && nat_lt c.x x)) || (e && b))
    by true true h = h
    by true false h = h
    by false true h = refl
    by false false h = refl

part_apart : (z west x : ℕ) (c : Cell) → in_part z west x c ≡ true → same_cell c (record { x = x; z = z }) ≡ false
part_apart z west x c e = and_left (c.x == x) (c.z == z) (past west x c.x (and_parts (c.z == z) (nat_le west c.x && nat_lt c.x x) e).1)

shorter : (west x end n : ℕ) → x ≤ end → (nat_le west n && nat_lt n x) ≡ true → (nat_le west n && nat_lt n end) ≡ true
shorter west x end n le e = grind (arith, nat_tests)

part_shorter : (z west x end : ℕ) (c : Cell) → x ≤ end → in_part z west x c ≡ true → in_part z west end c ≡ true
part_shorter z west x end c le e =
    let parts = and_parts (c.z == z) (nat_le west c.x && nat_lt c.x x) e in
    and_from (c.z == z) (nat_le west c.x && nat_lt c.x end) parts.0 (shorter west x end c.x le parts.1)

between : (west x end n : ℕ) → west ≤ x → x < end → n ≡ x → (nat_le west n && nat_lt n end) ≡ true
between west x end n le lt e = and_from (nat_le west n) (nat_lt n end) (le-leb west n (omega arith)) (lt-ltb n end (omega arith))

cell_part : (z west x end : ℕ) (c : Cell) → west ≤ x → x < end → same_cell c (record { x = x; z = z }) ≡ true → in_part z west end c ≡ true
cell_part z west x end c le lt e =
    let parts = and_parts (c.x == x) (c.z == z) e in
    and_from (c.z == z) (nat_le west c.x && nat_lt c.x end) parts.1 (between west x end c.x le lt (eqb-true c.x x parts.0))

part_line : (z west x : ℕ) (c : Cell) → in_part z west x c ≡ true → in_line z c ≡ true
part_line z west x c e = (and_parts (c.z == z) (nat_le west c.x && nat_lt c.x x) e).0

beyond : (west middle east n : ℕ) → (nat_le west n && nat_lt n middle) ≡ true → (nat_le middle n && nat_lt n east) ≡ false
beyond west middle east n e = grind (arith, nat_tests)

parts_apart : (z west middle east : ℕ) (c : Cell) → in_part z west middle c ≡ true → in_part z middle east c ≡ false
parts_apart z west middle east c e = and_right (c.z == z) (nat_le middle c.x && nat_lt c.x east)
    (beyond west middle east c.x (and_parts (c.z == z) (nat_le west c.x && nat_lt c.x middle) e).1)

either : (west middle east n : ℕ) → west ≤ middle → middle ≤ east → (nat_le west n && nat_lt n east) ≡
    ((nat_le west n && nat_lt n middle) || (nat_le middle n && nat_lt n east))
either west middle east n f g = grind (arith, nat_tests)

parts_join : (z west middle east : ℕ) (c : Cell) → west ≤ middle → middle ≤ east → in_part z west east c ≡ (in_part z west middle c || in_part z middle east c)
parts_join z west middle east c f g = by (c.z == z) (nat_le west c.x && nat_lt c.x middle) (nat_le middle c.x && nat_lt c.x east)
    (nat_le west c.x && nat_lt c.x east) (either west middle east c.x f g)
  where
    by : (t p q r : Bool) → r ≡ (p || q) → (t && r) ≡ ((t && p) || (t && q))
    by true p q r h = h
    by false p q r h = refl

module _ (more : Bool) (b : Building) (old mid : Sums) (z west : ℕ) where
  pub part_begins : SumsMove more (share_where (in_part z west west) b) old old
  part_begins = sums_none more (share_where (in_part z west west) b) old (λ player c at. where-false (in_part z west west) b player c (part_none z west c))

  pub part_may : (x end : ℕ) → west ≤ x → x < end → SumsMove more (share_where (in_part z west x) b) old mid
      → MaySumsMove more (share_where (in_part z west end) b) old → MaySumsMove more (share_where (λ c. same_cell c (record { x = x; z = z })) b) mid
  part_may x end from below first may =
      let le : x ≤ end = omega arith in
      sums_may more b (in_part z west x) (λ c. same_cell c (record { x = x; z = z })) (in_part z west end) old mid (λ c. part_shorter z west x end c le)
      (λ c. cell_part z west x end c from below) (part_apart z west x) first may

  pub part_moves : (x : ℕ) (new : Sums) → west ≤ x → SumsMove more (share_where (in_part z west x) b) old mid
      → SumsMove more (share_where (λ c. same_cell c (record { x = x; z = z })) b) mid new → SumsMove more (share_where (in_part z west (x + 1)) b) old new
  part_moves x new le first second =
      sums_more more b (in_part z west x) (λ c. same_cell c (record { x = x; z = z })) (in_part z west (x + 1)) old mid new (λ c. part_more z west x c le)
      (part_apart z west x) first second

  pub west_may : (middle : ℕ) → MaySumsMove more (share_where (in_line z) b) old → MaySumsMove more (share_where (in_part z west middle) b) old
  west_may middle may = sums_may more b (in_part z west west) (in_part z west middle) (in_line z) old old (part_line z west west) (part_line z west middle)
      (λ c e. absurd (let none = part_none z west c in cc)) part_begins may

  pub east_may : (middle east : ℕ) → SumsMove more (share_where (in_part z west middle) b) old mid → MaySumsMove more (share_where (in_line z) b) old
      → MaySumsMove more (share_where (in_part z middle east) b) mid
  east_may middle east first may = sums_may more b (in_part z west middle) (in_part z middle east) (in_line z) old mid (part_line z west middle)
      (part_line z middle east) (parts_apart z west middle east) first may

  pub both_move : (middle east : ℕ) (new : Sums) → west ≤ middle → middle ≤ east → SumsMove more (share_where (in_part z west middle) b) old mid
      → SumsMove more (share_where (in_part z middle east) b) mid new → SumsMove more (share_where (in_part z west east) b) old new
  both_move middle east new f g first second =
      sums_more more b (in_part z west middle) (in_part z middle east) (in_part z west east) old mid new (λ c. parts_join z west middle east c f g)
      (parts_apart z west middle east) first second

  pub part_ends : (east : ℕ) → SpansNear b.cell.x (b.reach - 4 * abs_diff b.cell.z z) old.width (west, east)
      → SumsMove more (share_where (in_part z west east) b) old mid → SumsMove more (share_where (in_line z) b) old mid
  part_ends east spans = sums_same more (share_where (in_part z west east) b) (share_where (in_line z) b) old mid
      (λ player c at. same player c at.ground (cases_lt c.x west) (cases_lt c.x east))
    where
      elsewhere : (player : ℕ) (c : Cell) → in_line z c ≡ false → share_where (in_part z west east) b player c ≡ share_where (in_line z) b player c
      elsewhere player c e = where-false (in_part z west east) b player c (and_left (c.z == z) (nat_le west c.x && nat_lt c.x east) e) ∙
          sym (where-false (in_line z) b player c e)

      weak : (player : ℕ) (c : Cell) → IsOnGround (size_in old) c → (c.x < west) ⊎ (east ≤ c.x) → (in_line z c ≡ true) ⊎ (in_line z c ≡ false)
          → share_where (in_part z west east) b player c ≡ share_where (in_line z) b player c
      weak player c on out (inl e) =
          let far = left_out b.cell.x (b.reach - 4 * abs_diff b.cell.z z) old.width c.x (west, east) spans on.east out in
          let none = far-along b c (subst (λ (n : ℕ). b.reach - 4 * abs_diff b.cell.z n ≤ 10 * abs_diff b.cell.x c.x) (sym (eqb-true c.z z e)) far) in
          where-weak (in_part z west east) b player c none ∙ sym (where-weak (in_line z) b player c none)
      weak player c on out (inr e) = elsewhere player c e

      inner : (player : ℕ) (c : Cell) → west ≤ c.x → c.x < east → (in_line z c ≡ true) ⊎ (in_line z c ≡ false) → share_where (in_part z west east) b player c ≡
          share_where (in_line z) b player c
      inner player c le lt (inl e) =
          where-true (in_part z west east) b player c
          (and_from (c.z == z) (nat_le west c.x && nat_lt c.x east) e (and_from (nat_le west c.x) (nat_lt c.x east) (le-leb west c.x le)
          (lt-ltb c.x east lt)))
          ∙ sym (where-true (in_line z) b player c e)
      inner player c le lt (inr e) = elsewhere player c e

      same : (player : ℕ) (c : Cell) → IsOnGround (size_in old) c → (c.x < west) ⊎ (west ≤ c.x) → (c.x < east) ⊎ (east ≤ c.x)
          → share_where (in_part z west east) b player c ≡ share_where (in_line z) b player c
      same player c on (inl before) f = weak player c on (inl before) (cases_Bool (in_line z c))
      same player c on (inr from) (inr past) = weak player c on (inr past) (cases_Bool (in_line z c))
      same player c on (inr from) (inl below) = inner player c from below (cases_Bool (in_line z c))

-- ---- several rows

-- the rows from the first to before the end
abbrev pub in_rows : ℕ → ℕ → Cell → Bool
in_rows south z c = nat_le south c.z && nat_lt c.z z

-- all cells
abbrev pub anywhere : Cell → Bool
anywhere c = true

rows_none : (south : ℕ) (c : Cell) → in_rows south south c ≡ false
rows_none south c = no_number south c.z

rows_more : (south z : ℕ) (c : Cell) → south ≤ z → in_rows south (z + 1) c ≡ (in_rows south z c || in_line z c)
rows_more south z c le = one_more south z c.z le

rows_apart : (south z : ℕ) (c : Cell) → in_rows south z c ≡ true → in_line z c ≡ false
rows_apart south z c e = past south z c.z e

module _ (more : Bool) (b : Building) (old mid : Sums) (south : ℕ) where
  pub rows_begin : SumsMove more (share_where (in_rows south south) b) old old
  rows_begin = sums_none more (share_where (in_rows south south) b) old (λ player c at. where-false (in_rows south south) b player c (rows_none south c))

  pub rows_may : (z : ℕ) → SumsMove more (share_where (in_rows south z) b) old mid → MaySumsMove more (share_of b) old
      → MaySumsMove more (share_where (in_line z) b) mid
  rows_may z first may = sums_may more b (in_rows south z) (in_line z) anywhere old mid (λ c e. refl) (λ c e. refl) (rows_apart south z) first may

  pub rows_move : (z : ℕ) (new : Sums) → south ≤ z → SumsMove more (share_where (in_rows south z) b) old mid → SumsMove more (share_where (in_line z) b) mid new
      → SumsMove more (share_where (in_rows south (z + 1)) b) old new
  rows_move z new le first second = sums_more more b (in_rows south z) (in_line z) (in_rows south (z + 1)) old mid new (λ c. rows_more south z c le)
      (rows_apart south z) first second

  pub rows_end : (north : ℕ) → SpansNear b.cell.z b.reach old.depth (south, north) → SumsMove more (share_where (in_rows south north) b) old mid
      → SumsMove more (share_of b) old mid
  rows_end north spans = sums_same more (share_where (in_rows south north) b) (share_of b) old mid
      (λ player c at. same player c at.ground (cases_lt c.z south) (cases_lt c.z north))
    where
      weak : (player : ℕ) (c : Cell) → IsOnGround (size_in old) c → (c.z < south) ⊎ (north ≤ c.z) → share_where (in_rows south north) b player c ≡
          share_of b player c
      weak player c on out =
          let none = far-north b c (left_out b.cell.z b.reach old.depth c.z (south, north) spans on.north out) in
          where-weak (in_rows south north) b player c none ∙ sym (share-weak b player c none)

      same : (player : ℕ) (c : Cell) → IsOnGround (size_in old) c → (c.z < south) ⊎ (south ≤ c.z) → (c.z < north) ⊎ (north ≤ c.z)
          → share_where (in_rows south north) b player c ≡ share_of b player c
      same player c on (inl before) f = weak player c on (inl before)
      same player c on (inr from) (inr past) = weak player c on (inr past)
      same player c on (inr from) (inl below) = where-true (in_rows south north) b player c
          (and_from (nat_le south c.z) (nat_lt c.z north) (le-leb south c.z from) (lt-ltb c.z north below))
