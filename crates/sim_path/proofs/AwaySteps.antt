-- Where a search has come to no cost of a cell yet, a step that makes up its floor comes from straight beyond it, as seen from the goal.
use Rattle.sim_path.proofs.Common.{Contains, Contains-append_left, Contains-push, Contains-push_cases, cost_in, estimate-falls, estimate_to, even_step, Field}
use Rattle.sim_path.proofs.Common.{[], abs_diff, and_from, and_parts, ap, AreAway, arith, back, beside_of, bit_at, Bool, cases_lt, Cell, cell_at-some, cond}
use Rattle.sim_path.proofs.Common.{floor_of, forward, Front, inl, inr, ints, is_free, IsFront, IsOnGround, IsStep, IsTightStep, IsUnknown, known_or, le-leb}
use Rattle.sim_path.proofs.Common.{leads_away, least_step, leb-true, left_of, level, List, marked_in, max, min, move-of, nat_le, neighbour, None, octile}
use Rattle.sim_path.proofs.Common.{octile-near, Option, pos, refl, same_or_not, Size, size_of_marks, Some, step_back, step_cost, step_to, subst, suc, sym, true}
use Rattle.sim_path.proofs.Common.{true≢false, zero, ℕ, ⊎_elim, ◌%◌, ◌&&◌, ◌*◌, ◌++◌, ◌+ℤ◌, ◌+◌, ◌-◌, ◌/◌, ◌<◌, ◌∙◌, ◌∷◌, ◌≡◌, ◌≢◌, ◌≤◌, ◌⊎◌}
use Rattle.sim_path.specs.Questions.{AreLive, AreLiveBut, FallsBefore, IsFall, IsMarkedToo, IsNoneMarked, IsSpread, IsSpreadFrom}
use Rattle.{sim_base.proofs.Tests.bit_is, sim_laws.proofs.Neighbours.past_eight, sim_path.proofs.TightTrails.alone, sim_path.specs.declared.marks.Marks.Marks}

abbrev pub far : ℕ → ℕ → ℕ
far x z = 14 * min x z + 10 * (max x z - min x z)

-- ---- the octile distance rises along a step straight away from the goal, and no other, by what the step costs

-- a difference that rises by one, or falls
abbrev pub IsOneApart : ℕ → ℕ → Type 0
IsOneApart m n = (n ≡ m + 1) ⊎ (m ≡ n + 1)

rises_wide : (x y z : ℕ) → z ≤ x → y ≡ x + 1 → far y z ≡ far x z + 10
rises_wide x y z l e = omega arith

rises_deep : (x z w : ℕ) → x ≤ z → w ≡ z + 1 → far x w ≡ far x z + 10
rises_deep x z w l e = omega arith

rises_across : (x y z w : ℕ) → y ≡ x + 1 → w ≡ z + 1 → far y w ≡ far x z + 14
rises_across x y z w e f = omega arith

pub wide_by : (x y z : ℕ) → far y z ≡ far x z + 10 → IsOneApart x y → (z ≤ x) × (y ≡ x + 1)
wide_by x y z e (inl f) = (omega arith, f)
wide_by x y z e (inr f) = absurd (omega arith)

pub deep_by : (x z w : ℕ) → far x w ≡ far x z + 10 → IsOneApart z w → (x ≤ z) × (w ≡ z + 1)
deep_by x z w e (inl f) = (omega arith, f)
deep_by x z w e (inr f) = absurd (omega arith)

pub across_by : (x y z w : ℕ) → far y w ≡ far x z + 14 → IsOneApart x y → IsOneApart z w → (y ≡ x + 1) × (w ≡ z + 1)
across_by x y z w e (inl f) (inl g) = (f, g)
across_by x y z w e (inl f) (inr g) = absurd (omega arith)
across_by x y z w e (inr f) (inl g) = absurd (omega arith)
across_by x y z w e (inr f) (inr g) = absurd (omega arith)

-- a cell moves from a to p in one coordinate, and m and n are its differences from the goal there: they rise just where it moves away
record IsMoved (Side : Type 0) (m n : ℕ) : Type 0 where
  pub more : Side → n ≡ m + 1
  pub side : n ≡ m + 1 → Side
  pub apart : IsOneApart m n

pub apart_up : (a p g : ℕ) → p ≡ a + 1 → (a < g) ⊎ (g ≤ a) → IsOneApart (abs_diff a g) (abs_diff p g)
apart_up a p g e (inl l) = inr (omega arith)
apart_up a p g e (inr l) = inl (omega arith)

pub apart_down : (a p g : ℕ) → a ≡ p + 1 → (g < a) ⊎ (a ≤ g) → IsOneApart (abs_diff a g) (abs_diff p g)
apart_down a p g e (inl l) = inr (omega arith)
apart_down a p g e (inr l) = inl (omega arith)

moved_up : (a p g : ℕ) → pos a +ℤ forward ≡ pos p → IsMoved (g ≤ a) (abs_diff a g) (abs_diff p g)
moved_up a p g e = let f : p ≡ a + 1 = omega (arith, ints) in
    record { more = λ l. omega arith; side = λ l. omega arith; apart = apart_up a p g f (cases_lt a g) }

moved_down : (a p g : ℕ) → pos a +ℤ back ≡ pos p → IsMoved (a ≤ g) (abs_diff a g) (abs_diff p g)
moved_down a p g e = let f : a ≡ p + 1 = omega (arith, ints) in
    record { more = λ l. omega arith; side = λ l. omega arith; apart = apart_down a p g f (cases_lt g a) }

as_far : (a p : ℕ) → pos a +ℤ level ≡ pos p → a ≡ p
as_far a p e = omega (arith, ints)

-- a test is true just where the distance rises by what the step costs
pub record IsTold (test : Bool) (m n k : ℕ) : Type 0 where
  pub rises : test ≡ true → n ≡ m + k
  pub told : n ≡ m + k → test ≡ true

tests_both : (a b c d : ℕ) → (nat_le a b && nat_le c d) ≡ true → (a ≤ b) × (c ≤ d)
tests_both a b c d e = let (f, g) = and_parts (nat_le a b) (nat_le c d) e in (leb-true a b f, leb-true c d g)

both_tested : (a b c d : ℕ) → a ≤ b → c ≤ d → (nat_le a b && nat_le c d) ≡ true
both_tested a b c d l m = and_from (nat_le a b) (nat_le c d) (le-leb a b l) (le-leb c d m)

module _ (at goal p : Cell) where
  abbrev x : ℕ
  x = abs_diff at.x goal.x

  abbrev z : ℕ
  z = abs_diff at.z goal.z

  abbrev y : ℕ
  y = abs_diff p.x goal.x

  abbrev w : ℕ
  w = abs_diff p.z goal.z

  told_x : (a b : ℕ) → IsMoved (a ≤ b) x y → at.z ≡ p.z → IsTold (nat_le a b && nat_le z x) (octile at goal) (octile p goal) 10
  told_x a b m e =
      subst (λ (n : ℕ). IsTold (nat_le a b && nat_le z x) (far x z) (far y (abs_diff n goal.z)) 10) e
      (record {
        rises = λ t. let (l, s) = tests_both a b z x t in rises_wide x y z s (m.more l);
        told = λ h. let (s, f) = wide_by x y z h m.apart in both_tested a b z x (m.side f) s;
      })

  told_z : (a b : ℕ) → IsMoved (a ≤ b) z w → at.x ≡ p.x → IsTold (nat_le a b && nat_le x z) (octile at goal) (octile p goal) 10
  told_z a b m e =
      subst (λ (n : ℕ). IsTold (nat_le a b && nat_le x z) (far x z) (far (abs_diff n goal.x) w) 10) e
      (record {
        rises = λ t. let (l, s) = tests_both a b x z t in rises_deep x z w s (m.more l);
        told = λ h. let (s, f) = deep_by x z w h m.apart in both_tested a b x z (m.side f) s;
      })

  told_both : (a b c d : ℕ) → IsMoved (a ≤ b) x y → IsMoved (c ≤ d) z w → IsTold (nat_le a b && nat_le c d) (octile at goal) (octile p goal) 14
  told_both a b c d m n =
      record {
        rises = λ t. let (l, s) = tests_both a b c d t in rises_across x y z w (m.more l) (n.more s);
        told = λ h. let (f, g) = across_by x y z w h m.apart n.apart in both_tested a b c d (m.side f) (n.side g);
      }

  pub away-told : (size : Size) (which : ℕ) → neighbour size at which ≡ Some p → IsTold (leads_away at goal which) (octile at goal) (octile p goal)
      (step_cost which)
  away-told size zero e = let c = cell_at-some size (pos at.x +ℤ forward) (pos at.z +ℤ level) p e in told_x goal.x at.x (moved_up at.x p.x goal.x c.by_x)
      (as_far at.z p.z c.by_z)
  away-told size (suc zero) e = let c = cell_at-some size (pos at.x +ℤ level) (pos at.z +ℤ forward) p e in told_z goal.z at.z (moved_up at.z p.z goal.z c.by_z)
      (as_far at.x p.x c.by_x)
  away-told size (suc (suc zero)) e = let c = cell_at-some size (pos at.x +ℤ back) (pos at.z +ℤ level) p e in
      told_x at.x goal.x (moved_down at.x p.x goal.x c.by_x) (as_far at.z p.z c.by_z)
  away-told size (suc (suc (suc zero))) e = let c = cell_at-some size (pos at.x +ℤ level) (pos at.z +ℤ back) p e in
      told_z at.z goal.z (moved_down at.z p.z goal.z c.by_z) (as_far at.x p.x c.by_x)
  away-told size (suc (suc (suc (suc zero)))) e =
      let c = cell_at-some size (pos at.x +ℤ forward) (pos at.z +ℤ forward) p e in
      told_both goal.x at.x goal.z at.z (moved_up at.x p.x goal.x c.by_x) (moved_up at.z p.z goal.z c.by_z)
  away-told size (suc (suc (suc (suc (suc zero))))) e =
      let c = cell_at-some size (pos at.x +ℤ back) (pos at.z +ℤ forward) p e in
      told_both at.x goal.x goal.z at.z (moved_down at.x p.x goal.x c.by_x) (moved_up at.z p.z goal.z c.by_z)
  away-told size (suc (suc (suc (suc (suc (suc zero)))))) e =
      let c = cell_at-some size (pos at.x +ℤ back) (pos at.z +ℤ back) p e in
      told_both at.x goal.x at.z goal.z (moved_down at.x p.x goal.x c.by_x) (moved_down at.z p.z goal.z c.by_z)
  away-told size (suc (suc (suc (suc (suc (suc (suc zero))))))) e =
      let c = cell_at-some size (pos at.x +ℤ forward) (pos at.z +ℤ back) p e in
      told_both goal.x at.x at.z goal.z (moved_up at.x p.x goal.x c.by_x) (moved_down at.z p.z goal.z c.by_z)
  away-told size (suc (suc (suc (suc (suc (suc (suc (suc n)))))))) e = absurd (past_eight size at p n e)

-- ---- the steps that make up the floor of a cell of no cost

even_far : (x z : ℕ) → far x z % 2 ≡ 0
even_far x z = omega arith

octile-even : (c g : Cell) → octile c g % 2 ≡ 0
octile-even c g = even_far (abs_diff c.x g.x) (abs_diff c.z g.z)

rises_by : (m n k near : ℕ) → m % 2 ≡ 0 → n % 2 ≡ 0 → k % 2 ≡ 0 → 10 ≤ k → n ≤ k + m → (n - near) / 2 * 2 ≡ (m - near) / 2 * 2 + k → n ≡ m + k
rises_by m n k near e f g h l r = omega arith

rises_so : (m n k near : ℕ) → k % 2 ≡ 0 → near ≤ m → n ≡ m + k → (n - near) / 2 * 2 ≡ (m - near) / 2 * 2 + k
rises_so m n k near g l r = omega arith

-- a floor that is the least that is left of the key is what is left, and the estimate rises by all that the step costs
all_left : (key a p k f : ℕ) → key - p ≤ f → f + k ≡ key - a → p ≤ k + a → 10 ≤ k → (p ≡ a + k) × (f ≤ key - p) × (key - p + k ≡ key - a)
all_left key a p k f low sum falls least = (omega arith, omega arith, omega arith)

left_less : (key a p k o : ℕ) → p ≡ a + k → o + k ≤ key - a → (o ≤ key - p) × (key - p + k ≡ key - a)
left_less key a p k o e l = (omega arith, omega arith)

least_known : (c : Option ℕ) (o l : ℕ) → ((d : ℕ) → c ≡ Some d → l ≤ d) → l ≤ known_or c (max o l)
least_known None o l low = omega arith
least_known (Some d) o l low = omega (arith, low d refl)

is_known : (c : Option ℕ) (o l : ℕ) → ((d : ℕ) → c ≡ Some d → l ≤ d) → o ≤ l → known_or c (max o l) ≡ l
is_known None o l low le = omega arith
is_known (Some d) o l low le = omega (arith, low d refl)

low_known : (c : Option ℕ) (o l : ℕ) → ((d : ℕ) → c ≡ Some d → o ≤ d) → known_or c (max o l) ≤ l → o ≤ l
low_known None o l far le = omega arith
low_known (Some d) o l far le = omega (arith, far d refl)

no_cost : (c : Option ℕ) (n : ℕ) → c ≡ None → c ≡ Some n → ⊥
no_cost c n e f = cc

module _ (field : Field) (start : Cell) (front : Front) (f : IsFront field start front) (at : Cell) (on : IsOnGround field.size at)
    (free : is_free field start at ≡ true) (u : IsUnknown front start at) where
  abbrev goal : Cell
  goal = front.aim.goal

  floor-at : floor_of front start at ≡ left_of front at
  floor-at = is_known (cost_in front.costs.now at) (octile at start) (left_of front at) (λ d e. absurd (no_cost (cost_in front.costs.now at) d u.none e)) u.far

  -- a cell from which a step leads here was not taken
  waits : (p : Cell) (k : ℕ) → IsStep field start p at k → (d : ℕ) → cost_in front.costs.now p ≡ Some d → left_of front p ≤ d
  waits p k s d e = by (cases_lt (d + estimate_to front.aim p) front.key)
    where
      by : (d + estimate_to front.aim p < front.key) ⊎ (front.key ≤ d + estimate_to front.aim p) → left_of front p ≤ d
      by (inl lt) = let r = f.reckoned p at k d e lt s in absurd (no_cost (cost_in front.costs.now at) r.value u.none r.is)
      by (inr le) = omega arith

  -- such a step is one straight away from the goal, and leaves enough for the octile distance
  pub unknown-near : (p : Cell) (which : ℕ) → IsTightStep field start (floor_of front start) at p which → (leads_away at goal which ≡ true)
      × (octile p start + step_cost which ≤ left_of front at)
  unknown-near p which t =
      let k = step_cost which in
      let s = step_back field start at p which on free t.leads in
      let beside = (move-of field start at p which t.leads).leads in
      let low = least_known (cost_in front.costs.now p) (octile p start) (left_of front p) (waits p k s) in
      let (rises, most, less) = all_left front.key (estimate_to front.aim at) (estimate_to front.aim p) k (floor_of front start p) low (t.sum ∙ floor-at)
      ((estimate-falls front.aim field start).falls p at k s) (least_step which) in
      let away = rises_by (octile at goal) (octile p goal) k front.aim.near (octile-even at goal) (octile-even p goal) (even_step which) (least_step which)
      (octile-near goal (beside_of field start p at k s)) rises in
      let o = low_known (cost_in front.costs.now p) (octile p start) (left_of front p) (f.far p) most in
      ((away-told at goal p field.size which beside).told away, omega (arith, o, less))

  pub near-unknown : (p : Cell) (which : ℕ) → step_to field start at which ≡ Some p → leads_away at goal which ≡ true → octile p start + step_cost which ≤
      left_of front at → IsTightStep field start (floor_of front start) at p which
  near-unknown p which leads away near =
      let k = step_cost which in
      let s = step_back field start at p which on free leads in
      let beside = (move-of field start at p which leads).leads in
      let rises = rises_so (octile at goal) (octile p goal) k front.aim.near (even_step which) u.beyond
      ((away-told at goal p field.size which beside).rises away) in
      let (o, less) = left_less front.key (estimate_to front.aim at) (estimate_to front.aim p) k (octile p start) rises near in
      let is = is_known (cost_in front.costs.now p) (octile p start) (left_of front p) (waits p k s) o in
      record { leads = leads; sum = omega (arith, is, less, floor-at) }

-- ---- the bits of directions

pub away-by_bit : (at goal : Cell) (away which : ℕ) → which < 8 → AreAway at goal away → bit_at away which ≡ 1 → leads_away at goal which ≡ true
away-by_bit at goal away which lt m set = bit_is (leads_away at goal which) (bit_at away which) (m which lt) set

pub bit-by_away : (at goal : Cell) (away which : ℕ) → which < 8 → AreAway at goal away → leads_away at goal which ≡ true → bit_at away which ≡ 1
bit-by_away at goal away which lt m is = m which lt ∙ ap (λ (t : Bool). cond t 1 0) is

-- what holds of all before n, and of n, holds of all before the next
pub one-more : (P : ℕ → Type 0) (n : ℕ) → ((j : ℕ) → j < n → P j) → P n → (j : ℕ) → j < n + 1 → P j
one-more P n before here j lt = by (cases_lt j n)
  where
    by : (j < n) ⊎ (n ≤ j) → P j
    by (inl l) = before j l
    by (inr l) = let same : n ≡ j = omega arith in subst P same here

-- What marks and lists tell while the cells of the shortest ways are marked.

pub spread-none : (marks : Marks) (list : List Cell) → ((c : Cell) → Contains list c → IsOnGround (size_of_marks marks) c)
    → IsSpread (size_of_marks marks) marks marks list list
spread-none marks list on = record { size_is = refl; kept = λ c h. h; listed = λ c h. inl h; stays = λ c h. h; on = on }

pub spread-one : (old new : Marks) (list : List Cell) (cell : Cell) → IsMarkedToo old new cell → IsOnGround (size_of_marks old) cell
    → ((c : Cell) → Contains list c → IsOnGround (size_of_marks old) c) → IsSpread (size_of_marks old) old new list (list ++ cell ∷ [])
spread-one old new list cell more cell_on on =
    record {
      size_is = more.size;
      kept = λ c h.
          ⊎_elim
          (λ (e : c ≡ cell). subst (λ (v : Cell). marked_in new v ≡ true) (sym e) more.here)
          (λ (e : c ≢ cell). more.elsewhere c e ∙ h)
          (same_or_not c cell);
      listed = λ c h.
          ⊎_elim
          (λ (e : c ≡ cell). inr (subst (Contains (list ++ cell ∷ [])) (sym e) (Contains-push list cell)))
          (λ (e : c ≢ cell). inl (sym (more.elsewhere c e) ∙ h))
          (same_or_not c cell);
      stays = λ c h. Contains-append_left list (cell ∷ []) c h;
      on = λ c h.
          ⊎_elim
          (λ (m : Contains list c). on c m)
          (λ (e : cell ≡ c). subst (IsOnGround (size_of_marks old)) e cell_on)
          (Contains-push_cases list cell c h);
    }

module _ (field : Field) (start : Cell) (number : Cell → ℕ) where
  spread-on : (a b c : Marks) (k l m : List Cell) → IsSpread field.size a b k l → IsSpread field.size b c l m → IsSpread field.size a c k m
  spread-on a b c k l m s t =
      record {
        size_is = t.size_is;
        kept = λ v h. t.kept v (s.kept v h);
        listed = λ v h.
            ⊎_elim
            (λ (e : marked_in b v ≡ true).
            ⊎_elim (λ (f : marked_in a v ≡ true). inl f) (λ (f : Contains l v). inr (t.stays v f)) (s.listed v e))
            (λ (e : Contains m v). inr e)
            (t.listed v h);
        stays = λ v h. t.stays v (s.stays v h);
        on = t.on;
      }

  pub spread-begins : (marks : Marks) (list : List Cell) (cell : Cell) → size_of_marks marks ≡ field.size
      → ((c : Cell) → Contains list c → IsOnGround field.size c) → IsSpreadFrom field start number marks marks list list 0 cell
  spread-begins marks list cell size on =
      record {
        spread = record { size_is = size; kept = λ c h. h; listed = λ c h. inl h; stays = λ c h. h; on = on };
        falls = λ which b lt f. absurd (omega (arith, lt));
      }

  -- the cell in one more direction is marked, if a step falls there
  pub spread-more : (a b c : Marks) (k l m : List Cell) (n : ℕ) (cell : Cell) → IsSpreadFrom field start number a b k l n cell
      → IsSpread field.size b c l m → ((to : Cell) → IsFall field start number cell to n → marked_in c to ≡ true)
      → IsSpreadFrom field start number a c k m (n + 1) cell
  spread-more a b c k l m n cell s t here =
      let Marked : ℕ → Type 0 = λ j. (to : Cell) → IsFall field start number cell to j → marked_in c to ≡ true in
      let all = one-more Marked n (λ j lt to f. t.kept to (s.falls j to lt f)) here in
      record { spread = spread-on a b c k l m s.spread t; falls = λ j to lt f. all j lt to f }

  -- no step falls in one more direction
  pub spread-past : (a b : Marks) (k l : List Cell) (n : ℕ) (cell : Cell) → IsSpreadFrom field start number a b k l n cell
      → ((to : Cell) → IsFall field start number cell to n → ⊥) → IsSpreadFrom field start number a b k l (n + 1) cell
  spread-past a b k l n cell s none =
      let Marked : ℕ → Type 0 = λ j. (to : Cell) → IsFall field start number cell to j → marked_in b to ≡ true in
      let all = one-more Marked n (λ j lt to f. s.falls j to lt f) (λ to f. absurd (none to f)) in
      record { spread = s.spread; falls = λ j to lt f. all j lt to f }

  pub live-first : (old new : Marks) → IsNoneMarked field.size old → IsMarkedToo old new start → IsOnGround field.size start
      → AreLiveBut field start number new ([] ++ start ∷ [])
  live-first old new none more on =
      record {
        size_is = more.size ∙ none.size_is;
        begins = more.here;
        onwards = λ a h.
            ⊎_elim
            (λ (e : a ≡ start). inl (subst (Contains (start ∷ [])) (sym e) (Contains-push [] start)))
            (λ (e : a ≢ start). absurd (true≢false (sym (sym (more.elsewhere a e) ∙ h) ∙ none.none a)))
            (same_or_not a start);
        on = λ c h. subst (IsOnGround field.size) (alone start c h) on;
      }

  pub live-more : (live next : Marks) (rest longer : List Cell) (at : Cell) → AreLiveBut field start number live (rest ++ at ∷ [])
      → IsSpreadFrom field start number live next rest longer 8 at → AreLiveBut field start number next longer
  live-more live next rest longer at are s =
      let Done : Cell → Type 0 = λ a. Contains longer a ⊎ FallsBefore field start number (marked_in next) 8 a in
      record {
        size_is = s.spread.size_is;
        begins = s.spread.kept start are.begins;
        onwards = λ a h.
            ⊎_elim
            (λ (e : marked_in live a ≡ true).
            ⊎_elim
            (λ (f : Contains (rest ++ at ∷ []) a).
            ⊎_elim
            (λ (g : Contains rest a). let done : Done a = inl (s.spread.stays a g) in done)
            (λ (g : at ≡ a). subst Done g (inr s.falls))
            (Contains-push_cases rest at a f))
            (λ (f : FallsBefore field start number (marked_in live) 8 a). inr (λ j b lt is. s.spread.kept b (f j b lt is)))
            (are.onwards a e))
            (λ (e : Contains longer a). inl e)
            (s.spread.listed a h);
        on = s.spread.on;
      }

  pub live-all : (marks : Marks) → AreLiveBut field start number marks [] → AreLive field start number (marked_in marks)
  live-all marks are =
      record {
        begins = are.begins;
        onwards = λ a h.
            ⊎_elim
            (λ (e : Contains [] a). let (k, lt, same) = e in absurd (omega (arith, lt)))
            (λ (e : FallsBefore field start number (marked_in marks) 8 a). e)
            (are.onwards a h);
      }
