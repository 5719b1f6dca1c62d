-- Who is near a point, bucket by bucket.
pub use Rattle.sim_base.proofs.GroundPoints.{placed_on}
use Rattle.sim_range.proofs.Common.{IsPermutation-append_left, IsPermutation-cons, IsPermutation-middle, IsPermutation-refl, IsPermutation-sym}
use Rattle.sim_range.proofs.Common.{IsPermutation-trans, IsPlaced, IsSome, Kind, Land, length, List, lt-ltb, map, MatchOption, mul-add-lt, mul-le, nat_lt}
use Rattle.sim_range.proofs.Common.{Some, subst, suc, sum_by, sum_by-cons, sum_by-IsPermutation, sym, take, true, unsigned_abs, within_among, zero, ℕ, ℤ, ◌%◌}
use Rattle.sim_range.proofs.Common.{[], Above, All, All-filter, All-head, All-tail, All-weaker, all_at, and_parts, ap, Area, AreApart, AreBuckets, ArePlaced}
use Rattle.sim_range.proofs.Common.{arith, Ascend, below_bucket, Bool, Bucket, bucket_at, bucket_key, cases_lt, cell_of, changed_at, cond, eqb-true, Fact}
use Rattle.sim_range.proofs.Common.{fact_with, facts_at, false, filter, find_has, found_all, get_or, held_in, Holds, HoldsIfAny, id_in, id_of_fact, IfSome}
use Rattle.sim_range.proofs.Common.{in_bucket, in_mask, inl, inr, ints, is_in_bucket, is_near, IsBeside, IsHeld, IsIn, IsLand, IsNonDecreasing, IsPermutation}
use Rattle.sim_range.proofs.Common.{nat_tests, None, Note, noted, noted_held, NoteFits, Option, part_is, part_noted, Point, pos, put_is, refl, Rising, rising}
use Rattle.sim_range.proofs.Common.{◌&&◌, ◌*◌, ◌++◌, ◌+◌, ◌-ℤ◌, ◌/◌, ◌<ℤ◌, ◌<◌, ◌==◌, ◌∙◌, ◌∷◌, ◌≡◌, ◌≤ℤ◌, ◌≤◌}
use Rattle.{sim_range.proofs.Holding.changed_is, sim_range.proofs.Holding.one_more_held, std.proofs.lemmas.Bool.leb-true}

-- Ascending numbers are in one order: two such lists of the same numbers are the same.

-- all numbers are at least this
abbrev pub AtLeast : ℕ → List ℕ → Type 0
AtLeast n [] = Unit {0}
AtLeast n (x ∷ xs) = (n ≤ x) × AtLeast n xs

-- no number is above a later one
abbrev pub Climbs : List ℕ → Type 0
Climbs [] = Unit {0}
Climbs (x ∷ xs) = AtLeast x xs × Climbs xs

at_least : (n : ℕ) (xs : List ℕ) → ((k : ℕ) → k < length xs → n ≤ get_or xs k 0) → AtLeast n xs
at_least n [] h = tt
at_least n (x ∷ xs) h = (h zero (omega arith), at_least n xs (λ k lt. h (suc k) (omega arith)))

climbs_by : (xs : List ℕ) → ((i j : ℕ) → i ≤ j → j < length xs → get_or xs i 0 ≤ get_or xs j 0) → Climbs xs
climbs_by [] h = tt
climbs_by (x ∷ xs) h = (
  at_least x xs (λ k lt. h zero (suc k) (omega arith) (omega arith)),
  climbs_by xs (λ i j le lt. h (suc i) (suc j) (omega arith) (omega arith)),
)

pub climbs : (xs : List ℕ) → IsNonDecreasing xs → Climbs xs
climbs xs up = climbs_by xs (λ i j le lt. up i j 0 le lt)

-- one if a number is below this
abbrev below : ℕ → ℕ → ℕ
below n x = cond (nat_lt x n) 1 0

none_below : (n : ℕ) (xs : List ℕ) → AtLeast n xs → sum_by (below n) xs ≡ 0
none_below n [] h = refl
none_below n (x ∷ xs) h =
    let le : n ≤ x = h.0 in
    let no : nat_lt x n ≡ false = grind arith in
    let one : below n x ≡ 0 = ap (λ (b : Bool). cond b 1 0) no in
    let rest : sum_by (below n) xs ≡ 0 = none_below n xs h.1 in
    sum_by-cons (below n) x xs ∙ omega (arith, one, rest)

first_at_least : (n x : ℕ) (xs : List ℕ) → sum_by (below n) (x ∷ xs) ≡ 0 → n ≤ x
first_at_least n x xs e = by (nat_lt x n) refl
  where
    by : (b : Bool) → nat_lt x n ≡ b → n ≤ x
    by true s = let one : below n x ≡ 1 = ap (λ (b : Bool). cond b 1 0) s in let all = sym (sum_by-cons (below n) x xs) ∙ e in absurd (omega (arith, one, all))
    by false s = grind arith

pub same_sums : (xs ys : List ℕ) → Climbs xs → Climbs ys → ((f : ℕ → ℕ) → sum_by f ys ≡ sum_by f xs) → ys ≡ xs
same_sums [] [] up also h = refl
same_sums [] (y ∷ ys) up also h = let one = sym (sum_by-cons (λ (n : ℕ). 1) y ys) ∙ h (λ n. 1) in absurd (omega (arith, one))
same_sums (x ∷ xs) [] up also h = let one = h (λ n. 1) ∙ sum_by-cons (λ (n : ℕ). 1) x xs in absurd (omega (arith, one))
same_sums (x ∷ xs) (y ∷ ys) up also h =
    let low : x ≤ y = first_at_least x y ys (h (below x) ∙ none_below x (x ∷ xs) (omega arith, up.0)) in
    let high : y ≤ x = first_at_least y x xs (sym (h (below y)) ∙ none_below y (y ∷ ys) (omega arith, also.0)) in
    let same : y ≡ x = omega (arith, low, high) in
    let rest : (f : ℕ → ℕ) → sum_by f ys ≡ sum_by f xs =
    λ f. (let all : f y + sum_by f ys ≡ f x + sum_by f xs = sym (sum_by-cons f y ys) ∙ h f ∙ sum_by-cons f x xs in let first : f y ≡ f x = ap f same in
    omega (arith, all, first)) in
    ap (λ (n : ℕ). n ∷ ys) same ∙ ap (λ (ns : List ℕ). x ∷ ns) (same_sums xs ys up.1 also.1 rest)

pub same_order : (xs ys : List ℕ) → Climbs xs → IsNonDecreasing ys → IsPermutation xs ys → ys ≡ xs
same_order xs ys up also same = same_sums xs ys up (climbs ys also) (λ f. sum_by-IsPermutation f xs ys same)

-- A fact that is held stands on the largest ground, and its owner has a bit in a mask.

pub owner_small : (land : Land) (fact : Fact) → IsLand land → IsHeld land fact → fact.owner < 32
owner_small land fact limits held = omega (arith, held.owner, limits.players.1)

-- a fact that is found is held
pub found_held : (land : Land) (facts : List Fact) (id : ℕ) (fact : Fact) → Holds land facts → fact_with facts id ≡ Some fact → IsHeld land fact
found_held land facts id fact holds found = all_at (IsHeld land) facts fact holds.held.each ((find_has (λ (f : Fact). f.id == id) facts fact found).0)

-- Who stands in which bucket, also after a note.

-- ---- numbers of buckets

pub small_west : (p : Point) → IsPlaced p → (cell_of p).x / 16 < 16
small_west p h = let low = h.west in let high = h.east in omega (arith, ints, low, high)

pub small_bucket : (p : Point) → IsPlaced p → bucket_at p < 256
small_bucket p h = let west = h.west in let east = h.east in let south = h.south in let north = h.north in omega (arith, ints, west, east, south, north)

same_number : (x z bx bz : ℕ) → x < 16 → bx < 16 → (z * 16 + x == bz * 16 + bx) ≡ (x == bx && z == bz)
same_number x z bx bz lt also = grind (arith, nat_tests)

test_is : (bx bz : ℕ) (f : Fact) → bx < 16 → IsPlaced f.at → (bucket_key f == bz * 16 + bx) ≡ is_in_bucket bx bz f.at
test_is bx bz f lt placed = same_number ((cell_of f.at).x / 16) ((cell_of f.at).z / 16) bx bz (small_west f.at placed) lt

pub bucket_is : (bx bz : ℕ) (facts : List Fact) → bx < 16 → ArePlaced facts → map id_of_fact (held_in (bz * 16 + bx) facts) ≡ in_bucket bx bz facts
bucket_is bx bz facts lt placed = ap (map id_of_fact) (same facts placed)
  where
    same : (fs : List Fact) → ArePlaced fs → filter (λ (f : Fact). bucket_key f == bz * 16 + bx) fs ≡ filter (λ (f : Fact). is_in_bucket bx bz f.at) fs
    same [] all = refl
    same (f ∷ fs) all =
        ap (λ (b : Bool). cond b (f ∷ filter (λ (g : Fact). bucket_key g == bz * 16 + bx) fs) (filter (λ (g : Fact). bucket_key g == bz * 16 + bx) fs))
        (test_is bx bz f lt (All-head (λ (g : Fact). IsPlaced g.at) f fs all))
        ∙ ap (λ (gs : List Fact). cond (is_in_bucket bx bz f.at) (f ∷ gs) gs) (same fs (All-tail (λ (g : Fact). IsPlaced g.at) f fs all))

-- ---- where the facts stand

held_placed : (l : Land) (facts : List Fact) → Holds l facts → ArePlaced facts
held_placed l facts h = All-weaker (IsHeld l) (λ (f : Fact). IsPlaced f.at) (λ f held. placed_on l f.at h.limits held.at) facts h.held.each

pub all_placed : (land : Option Land) (P : Land → Type 0) (facts : List Fact) → MatchOption land ⊥ P → HoldsIfAny land facts → ArePlaced facts
all_placed None P facts fits h = absurd fits
all_placed (Some l) P facts fits h = held_placed l facts (h l refl)

pub placed_after : (land later : Option Land) (P : Land → Type 0) (facts : List Fact) → MatchOption land ⊥ P → later ≡ land → HoldsIfAny later facts
    → ArePlaced facts
placed_after land later P facts fits same h = all_placed land P facts fits (subst (λ (m : Option Land). HoldsIfAny m facts) same h)

pub found_placed : (facts : List Fact) (id : ℕ) (o : Option Fact) → o ≡ fact_with facts id → ArePlaced facts → IfSome o (λ (f : Fact). IsPlaced f.at)
found_placed facts id None e all = tt
found_placed facts id (Some f) e all = found_all (λ (g : Fact). IsPlaced g.at) id facts f all (sym e)

-- the facts after a note
placed_noted : (kind : Kind) (l : Land) (facts : List Fact) (note : Note) → NoteFits kind l facts note → Holds l facts → ArePlaced (noted kind facts note)
placed_noted kind l facts note fits h = held_placed l (noted kind facts note)
    (record { limits = h.limits; held = noted_held l h.limits kind facts note fits h.held })

-- what is kept of the id after the note
pub part_placed : (kind : Kind) (land : Option Land) (facts : List Fact) (note : Note) (id : ℕ) (before part : Option Fact)
    → MatchOption land ⊥ (λ (l : Land). NoteFits kind l facts note) → HoldsIfAny land facts → id ≡ id_in note → before ≡ fact_with facts id
    → part ≡ part_noted kind before note →
    IfSome part (λ (f : Fact). IsPlaced f.at)
part_placed kind None facts note id before part fits h e found is = absurd fits
part_placed kind (Some l) facts note id before part fits h e found is =
    let here : before ≡ fact_with facts (id_in note) = found ∙ ap (fact_with facts) e in
    found_placed (noted kind facts note) (id_in note) part (is ∙ ap (λ (o : Option Fact). part_noted kind o note) here ∙ sym (part_is kind l facts note fits))
    (placed_noted kind l facts note fits (h l refl))

-- whether one has health and a masked owner, and is near a point
abbrev pub near_by : Point → ℤ → ℕ → Fact → Bool
near_by at radius mask fact = fact.health && in_mask mask fact.owner && is_near fact.at at radius

-- ---- what passes a test, by buckets

module _ (g : Fact → Bool) where
  abbrev pub chosen : List Fact → List ℕ
  chosen facts = map id_of_fact (filter g facts)

  pub chosen-cons : (f : Fact) (facts : List Fact) → chosen (f ∷ facts) ≡ cond (g f) (f.id ∷ chosen facts) (chosen facts)
  chosen-cons f facts = by (g f)
    where
      by : (c : Bool) → map id_of_fact (cond c (f ∷ filter g facts) (filter g facts)) ≡ cond c (f.id ∷ chosen facts) (chosen facts)
      by true = refl
      by false = refl

  -- one more of the first, in front or behind
  in_front : (f : Fact) (all low here : List Fact) → IsPermutation (chosen all) (chosen low ++ chosen here)
      → IsPermutation (chosen (f ∷ all)) (chosen (f ∷ low) ++ chosen here)
  in_front f all low here same = subst (λ (xs : List ℕ). IsPermutation xs (chosen (f ∷ low) ++ chosen here)) (sym (chosen-cons f all))
      (subst (λ (xs : List ℕ). IsPermutation (cond (g f) (f.id ∷ chosen all) (chosen all)) (xs ++ chosen here)) (sym (chosen-cons f low)) (by (g f)))
    where
      by : (c : Bool) → IsPermutation (cond c (f.id ∷ chosen all) (chosen all)) (cond c (f.id ∷ chosen low) (chosen low) ++ chosen here)
      by true = IsPermutation-cons f.id (chosen all) (chosen low ++ chosen here) same
      by false = same

  behind : (f : Fact) (all low here : List Fact) → IsPermutation (chosen all) (chosen low ++ chosen here)
      → IsPermutation (chosen (f ∷ all)) (chosen low ++ chosen (f ∷ here))
  behind f all low here same = subst (λ (xs : List ℕ). IsPermutation xs (chosen low ++ chosen (f ∷ here))) (sym (chosen-cons f all))
      (subst (λ (xs : List ℕ). IsPermutation (cond (g f) (f.id ∷ chosen all) (chosen all)) (chosen low ++ xs)) (sym (chosen-cons f here)) (by (g f)))
    where
      by : (c : Bool) → IsPermutation (cond c (f.id ∷ chosen all) (chosen all)) (chosen low ++ cond c (f.id ∷ chosen here) (chosen here))
      by true =
          IsPermutation-trans (f.id ∷ chosen all) (f.id ∷ (chosen low ++ chosen here)) (chosen low ++ f.id ∷ chosen here)
          (IsPermutation-cons f.id (chosen all) (chosen low ++ chosen here) same)
          (IsPermutation-sym (chosen low ++ f.id ∷ chosen here) (f.id ∷ (chosen low ++ chosen here)) (IsPermutation-middle (chosen low) f.id (chosen here)))
      by false = same

  next_bucket : (k : ℕ) (facts : List Fact) → IsPermutation (chosen (below_bucket (suc k) facts)) (chosen (below_bucket k facts) ++ chosen (held_in k facts))
  next_bucket k [] = IsPermutation-refl []
  next_bucket k (f ∷ facts) = by (nat_lt (bucket_key f) k) (bucket_key f == k) refl refl (next_bucket k facts)
    where
      all : List Fact
      all = below_bucket (suc k) facts

      low : List Fact
      low = below_bucket k facts

      here : List Fact
      here = held_in k facts

      by : (a b : Bool) → nat_lt (bucket_key f) k ≡ a → (bucket_key f == k) ≡ b → IsPermutation (chosen all) (chosen low ++ chosen here) →
          IsPermutation (chosen (cond (nat_lt (bucket_key f) (suc k)) (f ∷ all) all)) (chosen (cond a (f ∷ low) low) ++ chosen (cond b (f ∷ here) here))
      by true true lower same rest = absurd (grind arith)
      by true false lower same rest = let within : nat_lt (bucket_key f) (suc k) ≡ true = grind arith in rw within (in_front f all low here rest)
      by false true lower same rest = let within : nat_lt (bucket_key f) (suc k) ≡ true = grind arith in rw within (behind f all low here rest)
      by false false lower same rest = let beyond : nat_lt (bucket_key f) (suc k) ≡ false = grind arith in rw beyond rest

  pub more_chosen : (k : ℕ) (facts : List Fact) (ids new : List ℕ) → IsPermutation (chosen (below_bucket k facts)) ids → new ≡ ids ++ chosen (held_in k facts)
      → IsPermutation (chosen (below_bucket (k + 1) facts)) new
  more_chosen k facts ids new same is =
      let next : suc k ≡ k + 1 = omega arith in
      subst (λ (n : ℕ). IsPermutation (chosen (below_bucket n facts)) new) next
      (subst (IsPermutation (chosen (below_bucket (suc k) facts))) (sym is)
      (IsPermutation-trans (chosen (below_bucket (suc k) facts)) (chosen (below_bucket k facts) ++ chosen (held_in k facts)) (ids ++ chosen (held_in k facts))
      (next_bucket k facts)
      (IsPermutation-append_left (chosen (held_in k facts)) (chosen (below_bucket k facts)) ids same)))

  -- nobody stands below the first bucket
  none_yet : (facts : List Fact) → [] ≡ chosen (below_bucket 0 facts)
  none_yet [] = refl
  none_yet (f ∷ facts) = let no : nat_lt (bucket_key f) 0 ≡ false = grind arith in rw no (none_yet facts)

  pub start_chosen : (facts : List Fact) (ids : List ℕ) → ids ≡ [] → IsPermutation (chosen (below_bucket 0 facts)) ids
  start_chosen facts ids is = subst (λ (xs : List ℕ). IsPermutation xs ids) (none_yet facts) (subst (IsPermutation []) (sym is) (IsPermutation-refl []))

  -- and all below the one behind the last
  pub all_below : (facts : List Fact) → ArePlaced facts → below_bucket 256 facts ≡ facts
  all_below [] all = refl
  all_below (f ∷ facts) all =
      let lt = small_bucket f.at (All-head (λ (h : Fact). IsPlaced h.at) f facts all) in
      let yes : nat_lt (bucket_key f) 256 ≡ true = lt-ltb (bucket_key f) 256 lt in
      rw yes (ap (λ (fs : List Fact). f ∷ fs) (all_below facts (All-tail (λ (h : Fact). IsPlaced h.at) f facts all)))

  above_chosen : (n : ℕ) (facts : List Fact) → Above n facts → AtLeast n (chosen facts)
  above_chosen n [] a = tt
  above_chosen n (f ∷ facts) a = subst (AtLeast n) (sym (chosen-cons f facts)) (by (g f) (above_chosen n facts a.1))
    where
      by : (c : Bool) → AtLeast n (chosen facts) → AtLeast n (cond c (f.id ∷ chosen facts) (chosen facts))
      by true rest = (omega (arith, a.0), rest)
      by false rest = rest

  chosen_climbs : (facts : List Fact) → Rising facts → Climbs (chosen facts)
  chosen_climbs [] r = tt
  chosen_climbs (f ∷ facts) r = subst Climbs (sym (chosen-cons f facts)) (by (g f) (chosen_climbs facts r.1))
    where
      by : (c : Bool) → Climbs (chosen facts) → Climbs (cond c (f.id ∷ chosen facts) (chosen facts))
      by true rest = (above_chosen f.id facts r.0, rest)
      by false rest = rest

  -- those of all buckets, in order
  pub all_chosen : (facts : List Fact) (ids new : List ℕ) → Ascend facts → ArePlaced facts → IsPermutation (chosen (below_bucket 256 facts)) ids
      → IsPermutation ids new → IsNonDecreasing new → new ≡ chosen facts
  all_chosen facts ids new up placed same sorted order =
      same_order (chosen facts) new (chosen_climbs facts (rising facts up)) order
      (IsPermutation-trans (chosen facts) ids new (subst (λ (fs : List Fact). IsPermutation (chosen fs) ids) (all_below facts placed) same) sorted)

-- ---- a bucket out of reach

root_le : (a b r : ℕ) → a * a + b * b ≤ r * r → a ≤ r
root_le a b r h =
    elim (cases_lt r a) [
      | inl less ↦
          (let one = mul-le (suc r) (suc r) a a (omega (arith, less)) (omega (arith, less)) in
          let two = mul-add-lt r (suc r) r (suc r) (omega arith) (omega arith) in
          let three = mul-le r r r (suc r) (omega arith) (omega arith) in
          absurd (omega (arith, one, two, three, h)))
      | inr le ↦ omega (arith, le)
    ]

pub gap_le : (p q : Point) (radius : ℤ) → is_near p q radius ≡ true → (unsigned_abs (p.x -ℤ q.x) ≤ unsigned_abs radius)
    × (unsigned_abs (p.z -ℤ q.z) ≤ unsigned_abs radius)
gap_le p q radius near =
    let x = unsigned_abs (p.x -ℤ q.x) in
    let z = unsigned_abs (p.z -ℤ q.z) in
    let r = unsigned_abs radius in
    let le : x * x + z * z ≤ r * r = leb-true (x * x + z * z) (r * r) near in
    (root_le x z r le, root_le z x r (omega (arith, le)))

-- nobody who may be near stands in a bucket of this number
abbrev pub IsBeyond : ℕ → Point → ℕ → Type 0
IsBeyond k at reach = (p : Point) → IsPlaced p → bucket_at p ≡ k → unsigned_abs (p.x -ℤ at.x) ≤ reach → unsigned_abs (p.z -ℤ at.z) ≤ reach → ⊥

pub beyond_by : (k : ℕ) (at : Point) (radius : ℤ) (reach : ℕ) (touched : Bool) → reach ≡ unsigned_abs radius → touched ≡ false →
    ((p : Point) → IsPlaced p → bucket_at p ≡ k → unsigned_abs (p.x -ℤ at.x) ≤ reach → unsigned_abs (p.z -ℤ at.z) ≤ reach → touched ≡ true)
    → IsBeyond k at (unsigned_abs radius)
beyond_by k at radius reach touched is out h p placed key x z =
    let yes = h p placed key (omega (arith, is, x)) (omega (arith, is, z)) in
    absurd (cc)

pub none_beyond : (k mask : ℕ) (at : Point) (radius : ℤ) (facts : List Fact) → ArePlaced facts → IsBeyond k at (unsigned_abs radius)
    → within_among (held_in k facts) at radius mask ≡ []
none_beyond k mask at radius [] all beyond = refl
none_beyond k mask at radius (f ∷ facts) all beyond =
    by (bucket_key f == k) refl (none_beyond k mask at radius facts (All-tail (λ (h : Fact). IsPlaced h.at) f facts all) beyond)
  where
    placed : IsPlaced f.at
    placed = All-head (λ (h : Fact). IsPlaced h.at) f facts all

    away : (bucket_key f == k) ≡ true → (c : Bool) → near_by at radius mask f ≡ c → c ≡ false
    away e false s = refl
    away e true s =
        let close = (and_parts (f.health && in_mask mask f.owner) (is_near f.at at radius) s).1 in
        let gaps = gap_le f.at at radius close in
        absurd (beyond f.at placed (eqb-true (bucket_key f) k e) gaps.0 gaps.1)

    by : (b : Bool) → (bucket_key f == k) ≡ b → within_among (held_in k facts) at radius mask ≡ []
        → within_among (cond b (f ∷ held_in k facts) (held_in k facts)) at radius mask ≡ []
    by true e rest = chosen-cons (near_by at radius mask) f (held_in k facts) ∙
        ap (λ (c : Bool). cond c (f.id ∷ chosen (near_by at radius mask) (held_in k facts)) (chosen (near_by at radius mask) (held_in k facts)))
        (away e (near_by at radius mask f) refl) ∙ rest
    by false e rest = rest

-- what is lent of a bucket
pub lent_held : (facts : List Fact) (k : ℕ) (buckets : List Bucket) (b : Bucket) (lent : List Fact) → AreBuckets facts buckets → k < length buckets
    → b ≡ get_or buckets k b → lent ≡ b.facts.items → lent ≡ held_in k facts
lent_held facts k buckets b lent are lt there is = is ∙ ap (λ (c : Bucket). c.facts.items) there ∙ are k b lt

pub nothing_more : (ids more : List ℕ) → more ≡ [] → ids ≡ ids ++ more
nothing_more ids more none = sym (append_nil ids) ∙ ap (λ (xs : List ℕ). ids ++ xs) (sym none)
  where
    append_nil : (xs : List ℕ) → xs ++ [] ≡ xs
    append_nil [] = refl
    append_nil (x ∷ xs) = ap (λ (ys : List ℕ). x ∷ ys) (append_nil xs)

-- those of a bucket are held on the land
pub bucket_held : (land : Land) (facts : List Fact) (k : ℕ) (buckets : List Bucket) (b : Bucket) (lent : List Fact) → Holds land facts
    → AreBuckets facts buckets → k < length buckets → b ≡ get_or buckets k b → lent ≡ b.facts.items → All (IsHeld land) lent
bucket_held land facts k buckets b lent holds are lt there is =
    subst (All (IsHeld land)) (sym (lent_held facts k buckets b lent are lt there is))
    (All-filter (λ (f : Fact). bucket_key f == k) (IsHeld land) facts holds.held.each)

-- The list of buckets when one fact changes.

-- ---- the buckets are those of the facts

pub one_more_bucketed : (facts : List Fact) (i : ℕ) (f : Fact) (old room new : List Bucket) → Ascend facts → i < length facts → f ≡ get_or facts i f
    → length old ≡ 256 → length new ≡ 256 → AreBuckets (take i facts) old →
    ((k : ℕ) (d : Bucket) → k < 256 → facts_at room k d ≡ facts_at old k d)
    → ((k : ℕ) (d : Bucket) → k < 256 → facts_at new k d ≡ changed_at k f.id None (Some f) (facts_at room k d)) → AreBuckets (take (i + 1) facts) new
one_more_bucketed facts i f old room new up within is many also are same changed k d lt =
    let low : k < 256 = omega (arith, lt, also) in
    changed k d low ∙ ap (changed_at k f.id None (Some f)) (same k d low ∙ are k d (omega (arith, low, many))) ∙ one_more_held k i f facts (rising facts up)
    within is

pub noted_buckets : (kind : Kind) (land : Option Land) (note : Note) (id : ℕ) (before part : Option Fact) (facts after : List Fact) (old room new : List Bucket)
    → MatchOption land ⊥ (λ (l : Land). NoteFits kind l facts note) → HoldsIfAny land facts → length old ≡ 256 → length new ≡ 256 → AreBuckets facts old →
    id ≡ id_in note → before ≡ fact_with facts id → part ≡ part_noted kind before note → after ≡ noted kind facts note
    → ((k : ℕ) (d : Bucket) → k < 256 → facts_at room k d ≡ facts_at old k d) →
    ((k : ℕ) (d : Bucket) → k < 256 → facts_at new k d ≡ changed_at k id before part (facts_at room k d)) → AreBuckets after new
noted_buckets kind None note id before part facts after old room new fits h many also are is found made told same changed k d lt = absurd fits
noted_buckets kind (Some l) note id before part facts after old room new fits h many also are is found made told same changed k d lt =
    let low : k < 256 = omega (arith, lt, also) in
    changed k d low ∙ ap (changed_at k id before part) (same k d low ∙ are k d (omega (arith, low, many))) ∙ changed_is k id before part facts
    (rising facts (h l refl).held.ascending) found
    ∙ ap (held_in k) (put_is kind (Some l) facts note id before part fits h is found made ∙ sym told)

-- what is built is not bare
pub still_built : {P : Type 0} (land later : Option Land) → IsSome land → later ≡ land → later ≡ None → P
still_built None later some same none = absurd (cc)
still_built (Some l) later some same none = absurd (cc)

-- ---- what is lent

pub lent_is : (bx bz number : ℕ) (facts : List Fact) (lent buckets : List Bucket) (b : Bucket) (ids : List ℕ) → bx < 16 → ArePlaced facts
    → AreBuckets facts buckets → number ≡ bz * 16 + bx → lent ≡ buckets → true ≡ nat_lt number (length lent) → b ≡ get_or lent number b → ids ≡ b.ids.items
    → ids ≡ in_bucket bx bz facts
lent_is bx bz number facts lent buckets b ids low placed are is same within there given =
    let also : length lent ≡ length buckets = ap (λ (bs : List Bucket). length bs) same in
    let first : number < length lent = grind arith in
    let lt : number < length buckets = omega (arith, first, also) in
    given ∙ b.named ∙ ap (map id_of_fact) (ap (λ (c : Bucket). c.facts.items) (there ∙ ap (λ (bs : List Bucket). get_or bs number b) same) ∙ are number b lt ∙
    ap (λ (n : ℕ). held_in n facts) is) ∙ bucket_is bx bz facts low placed

-- Buckets beside an area are out of reach.

pub row_is : (z x k : ℕ) → x < 16 → z * 16 + x ≡ k → z ≡ k / 16
row_is z x k lt is = omega arith

pub column_is : (z x k : ℕ) → x < 16 → z * 16 + x ≡ k → x ≡ k % 16
column_is z x k lt is = omega arith

pub apart_by : (k reach : ℕ) (area : Area) (p q : Point) → IsBeside k area → IsPlaced p → bucket_at p ≡ k
    → ((other : ℤ) → pos 0 ≤ℤ other → other <ℤ pos 16777216 → unsigned_abs (other -ℤ q.z) ≤ reach → IsIn area.rows (unsigned_abs other / 65536 / 16)) →
    ((other : ℤ) → pos 0 ≤ℤ other → other <ℤ pos 16777216 → unsigned_abs (other -ℤ q.x) ≤ reach → IsIn area.columns (unsigned_abs other / 65536 / 16))
    → AreApart reach p q
apart_by k reach area p q beside placed key rows columns x z =
    let row = rows p.z placed.south placed.north z in
    let column = columns p.x placed.west placed.east x in
    let low = small_west p placed in
    beside (subst (IsIn area.rows) (row_is ((cell_of p).z / 16) ((cell_of p).x / 16) k low key) row)
    (subst (IsIn area.columns) (column_is ((cell_of p).z / 16) ((cell_of p).x / 16) k low key) column)

pub some_is : (o : Option Fact) (f : Fact) (P : Fact → Type 0) → o ≡ Some f → P f → IfSome o P
some_is None f P is h = tt
some_is (Some g) f P is h = let same : f ≡ g = cc in subst P same h
