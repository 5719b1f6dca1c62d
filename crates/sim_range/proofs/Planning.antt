-- Buckets out of reach have nobody who sees the entity or is seen by it.
use Rattle.sim_range.proofs.Common.{All, All-head, All-tail, and_parts, ap, AreApart, ArePlaced, arith, below_bucket, Bool, bucket_key, cell_of, cond, differ}
use Rattle.sim_range.proofs.Common.{eqb-true, Fact, false, HasOnlyMoved, held_in, IfSome, in_mask, ints, is_near, is_seen, is_seen_by, IsClose, IsInner, IsOut}
use Rattle.sim_range.proofs.Common.{IsPlaced, Land, List, mul-le, nat_lt, None, not, Option, Point, pos, refl, sees, SeesFrom, SeesWithin, slice_index, Some}
use Rattle.sim_range.proofs.Common.{square, subst, sym, true, turned_seen, turned_watchers, unsigned_abs, ℕ, ℤ, [], ◌%◌, ◌&&◌, ◌*◌, ◌+◌, ◌-ℤ◌, ◌/◌, ◌<◌, ◌==◌}
use Rattle.sim_range.proofs.{Common.{◌∙◌, ◌∷◌, ◌≡◌, ◌≤ℤ◌, ◌≤◌}, Nearing.{chosen, chosen-cons, column_is, gap_le, row_is, small_west}}
use Rattle.std.proofs.lemmas.Bool.{le-leb}

pub abs_swap : (a b : ℤ) → unsigned_abs (a -ℤ b) ≡ unsigned_abs (b -ℤ a)
abs_swap a b = grind (arith, ints)

swapped : (reach : ℕ) (p q : Point) → AreApart reach p q → AreApart reach q p
swapped reach p q apart x z = apart (subst (λ (n : ℕ). n ≤ reach) (abs_swap q.x p.x) x) (subst (λ (n : ℕ). n ≤ reach) (abs_swap q.z p.z) z)

not_seen : (land : Land) (reach : ℕ) (w f : Fact) → SeesWithin reach w → AreApart reach f.at w.at → is_seen_by land w w.vision f ≡ false
not_seen land reach w f far apart = by w.vision refl
  where
    away : (v : ℤ) → w.vision ≡ Some v → (c : Bool) → is_seen_by land w (Some v) f ≡ c → c ≡ false
    away v e false s = refl
    away v e true s =
        let most = far v e in
        let (other, close) = and_parts (not (f.id == w.id)) (f.health && in_mask (slice_index land.masks w.owner) f.owner && is_near f.at w.at v) s in
        let near = (and_parts (f.health && in_mask (slice_index land.masks w.owner) f.owner) (is_near f.at w.at v) close).1 in
        let gaps = gap_le f.at w.at v near in
        absurd (apart (omega (arith, gaps.0, most)) (omega (arith, gaps.1, most)))

    by : (o : Option ℤ) → w.vision ≡ o → is_seen_by land w o f ≡ false
    by None e = refl
    by (Some v) e = away v e (is_seen_by land w (Some v) f) refl

unseen : (land : Land) (reach : ℕ) (part : Option Fact) (f : Fact) → SeesWithin reach f → IfSome part (λ (e : Fact). AreApart reach f.at e.at)
    → is_seen land f part ≡ false
unseen land reach None f far out = refl
unseen land reach (Some e) f far out = not_seen land reach f e far (swapped reach f.at e.at out)

unseeing : (land : Land) (reach : ℕ) (part : Option Fact) (f : Fact) → IfSome part (SeesWithin reach) → IfSome part (λ (e : Fact). AreApart reach f.at e.at)
    → sees land part f ≡ false
unseeing land reach None f far out = refl
unseeing land reach (Some e) f far out = not_seen land reach e f far out

both_false : (a b : Bool) → a ≡ false → b ≡ false → differ a b ≡ false
both_false a b one two = ap (λ (c : Bool). cond c (not b) b) one ∙ two

pub none_held : (g : Fact → Bool) (Q : Fact → Type 0) (k : ℕ) (facts : List Fact) → ArePlaced facts → All Q facts
    → ((f : Fact) → IsPlaced f.at → Q f → bucket_key f ≡ k → g f ≡ false) → chosen g (held_in k facts) ≡ []
none_held g Q k [] placed all none = refl
none_held g Q k (f ∷ facts) placed all none =
    by (bucket_key f == k) refl (none_held g Q k facts (All-tail (λ (h : Fact). IsPlaced h.at) f facts placed) (All-tail Q f facts all) none)
  where
    by : (b : Bool) → (bucket_key f == k) ≡ b → chosen g (held_in k facts) ≡ [] → chosen g (cond b (f ∷ held_in k facts) (held_in k facts)) ≡ []
    by true e rest =
        chosen-cons g f (held_in k facts)
        ∙ ap (λ (c : Bool). cond c (f.id ∷ chosen g (held_in k facts)) (chosen g (held_in k facts)))
        (none f (All-head (λ (h : Fact). IsPlaced h.at) f facts placed) (All-head Q f facts all) (eqb-true (bucket_key f) k e)) ∙ rest
    by false e rest = rest

module _ (land : Land) (reach k : ℕ) (before after : Option Fact) (facts : List Fact) (placed : ArePlaced facts) (far : All (SeesWithin reach) facts)
    (old_out : IsOut k reach before) (new_out : IsOut k reach after) where
  pub no_watchers : chosen (λ (f : Fact). differ (is_seen land f before) (is_seen land f after)) (held_in k facts) ≡ []
  no_watchers =
      none_held (λ (f : Fact). differ (is_seen land f before) (is_seen land f after)) (SeesWithin reach) k facts placed far
      (λ f at q key. both_false (is_seen land f before) (is_seen land f after) (unseen land reach before f q (old_out f.at at key))
      (unseen land reach after f q (new_out f.at at key)))

  pub none_in_view : IfSome before (SeesWithin reach) → IfSome after (SeesWithin reach) → chosen (λ (f : Fact). differ (sees land before f) (sees land after f))
      (held_in k facts) ≡ []
  none_in_view old_far new_far =
      none_held (λ (f : Fact). differ (sees land before f) (sees land after f)) (SeesWithin reach) k facts placed far
      (λ f at q key. both_false (sees land before f) (sees land after f) (unseeing land reach before f old_far (old_out f.at at key))
      (unseeing land reach after f new_far (new_out f.at at key)))

-- ---- several buckets out of reach, one after another

passed : (g : Fact → Bool) (Q : Fact → Type 0) (a b : ℕ) → a ≤ b → (facts : List Fact) → ArePlaced facts → All Q facts
    → ((f : Fact) → IsPlaced f.at → Q f → a ≤ bucket_key f → bucket_key f < b → g f ≡ false) → chosen g (below_bucket b facts) ≡ chosen g (below_bucket a facts)
passed g Q a b le [] placed all none = refl
passed g Q a b le (f ∷ facts) placed all none =
    by (nat_lt (bucket_key f) a) (nat_lt (bucket_key f) b) refl refl (passed g Q a b le facts (All-tail (λ (h : Fact). IsPlaced h.at) f facts placed)
    (All-tail Q f facts all) none)
  where
    quiet : a ≤ bucket_key f → bucket_key f < b → g f ≡ false
    quiet = none f (All-head (λ (h : Fact). IsPlaced h.at) f facts placed) (All-head Q f facts all)

    by : (c d : Bool) → nat_lt (bucket_key f) a ≡ c → nat_lt (bucket_key f) b ≡ d → chosen g (below_bucket b facts) ≡ chosen g (below_bucket a facts) →
        chosen g (cond d (f ∷ below_bucket b facts) (below_bucket b facts)) ≡ chosen g (cond c (f ∷ below_bucket a facts) (below_bucket a facts))
    by true true lower under rest = chosen-cons g f (below_bucket b facts) ∙ ap (λ (xs : List ℕ). cond (g f) (f.id ∷ xs) xs) rest ∙
        sym (chosen-cons g f (below_bucket a facts))
    by true false lower under rest = absurd (grind arith)
    by false true lower under rest =
        let low : a ≤ bucket_key f = grind arith in
        let high : bucket_key f < b = grind arith in
        chosen-cons g f (below_bucket b facts) ∙ ap (λ (c : Bool). cond c (f.id ∷ chosen g (below_bucket b facts)) (chosen g (below_bucket b facts)))
        (quiet low high) ∙ rest
    by false false lower under rest = rest

module _ (land : Land) (reach : ℕ) (before after : Option Fact) (facts : List Fact) (placed : ArePlaced facts) (far : All (SeesWithin reach) facts) (a b : ℕ)
    (le : a ≤ b) (old_out : (k : ℕ) → a ≤ k → k < b → IsOut k reach before) (new_out : (k : ℕ) → a ≤ k → k < b → IsOut k reach after) where
  pub pass_watchers : turned_watchers land before after (below_bucket b facts) ≡ turned_watchers land before after (below_bucket a facts)
  pass_watchers =
      passed (λ (f : Fact). differ (is_seen land f before) (is_seen land f after)) (SeesWithin reach) a b le facts placed far
      (λ f at q low high. both_false (is_seen land f before) (is_seen land f after)
      (unseen land reach before f q (old_out (bucket_key f) low high f.at at refl))
      (unseen land reach after f q (new_out (bucket_key f) low high f.at at refl)))

  pub pass_view : IfSome before (SeesWithin reach) → IfSome after (SeesWithin reach) → turned_seen land before after (below_bucket b facts) ≡ turned_seen land
      before after (below_bucket a facts)
  pass_view old_far new_far =
      passed (λ (f : Fact). differ (sees land before f) (sees land after f)) (SeesWithin reach) a b le facts placed far
      (λ f at q low high. both_false (sees land before f) (sees land after f)
      (unseeing land reach before f old_far (old_out (bucket_key f) low high f.at at refl))
      (unseeing land reach after f new_far (new_out (bucket_key f) low high f.at at refl)))

-- A move that all see from a bucket, before and after, changes nothing for those who stand in it.

-- ---- points of a bucket

-- none is further away than its furthest corner
pub close_by : (k near : ℕ) (corner q : Point) → ((other : ℤ) → pos 0 ≤ℤ other → unsigned_abs other / 65536 / 16 ≡ k % 16 → unsigned_abs (other -ℤ q.x) ≤
    unsigned_abs (corner.x -ℤ q.x)) →
    ((other : ℤ) → pos 0 ≤ℤ other → unsigned_abs other / 65536 / 16 ≡ k / 16 → unsigned_abs (other -ℤ q.z) ≤ unsigned_abs (corner.z -ℤ q.z))
    → square corner q ≤ near * near → IsClose k near q
close_by k near corner q columns rows le p placed key =
    let low = small_west p placed in
    let x = columns p.x placed.west (column_is ((cell_of p).z / 16) ((cell_of p).x / 16) k low key) in
    let z = rows p.z placed.south (row_is ((cell_of p).z / 16) ((cell_of p).x / 16) k low key) in
    let one = mul-le (unsigned_abs (p.x -ℤ q.x)) (unsigned_abs (p.x -ℤ q.x)) (unsigned_abs (corner.x -ℤ q.x)) (unsigned_abs (corner.x -ℤ q.x)) x x in
    let two = mul-le (unsigned_abs (p.z -ℤ q.z)) (unsigned_abs (p.z -ℤ q.z)) (unsigned_abs (corner.z -ℤ q.z)) (unsigned_abs (corner.z -ℤ q.z)) z z in
    omega (arith, one, two, le)

square_swap : (p q : Point) → square p q ≡ square q p
square_swap p q =
    ap (λ (n : ℕ). n * n + unsigned_abs (p.z -ℤ q.z) * unsigned_abs (p.z -ℤ q.z)) (abs_swap p.x q.x)
    ∙ ap (λ (n : ℕ). unsigned_abs (q.x -ℤ p.x) * unsigned_abs (q.x -ℤ p.x) + n * n) (abs_swap p.z q.z)

in_sight : (p q : Point) (near : ℕ) (vision : ℤ) → square p q ≤ near * near → near ≤ unsigned_abs vision → is_near p q vision ≡ true
in_sight p q near vision close more =
    let r = unsigned_abs vision in
    let most = mul-le near near r r more more in
    le-leb (square p q) (r * r) (omega (arith, close, most))

-- ---- who has only moved

module _ (land : Land) (near : ℕ) (a b f : Fact) (moved : HasOnlyMoved a b) (was : square f.at a.at ≤ near * near) (is : square f.at b.at ≤ near * near) where
  pub seen_alike : SeesFrom near f → is_seen_by land f f.vision a ≡ is_seen_by land f f.vision b
  seen_alike from = by f.vision refl
    where
      test : ℕ → Bool → ℕ → Bool → Bool
      test id health owner close = not (id == f.id) && (health && in_mask (slice_index land.masks f.owner) owner && close)

      close_to : (e : Fact) (v : ℤ) → square f.at e.at ≤ near * near → near ≤ unsigned_abs v → is_near e.at f.at v ≡ true
      close_to e v le more = in_sight e.at f.at near v (subst (λ (n : ℕ). n ≤ near * near) (square_swap f.at e.at) le) more

      by : (o : Option ℤ) → f.vision ≡ o → is_seen_by land f o a ≡ is_seen_by land f o b
      by None e = refl
      by (Some v) e =
          ap (λ (n : ℕ). test n a.health a.owner (is_near a.at f.at v)) moved.0 ∙ ap (λ (h : Bool). test b.id h a.owner (is_near a.at f.at v)) moved.2 ∙
          ap (λ (n : ℕ). test b.id b.health n (is_near a.at f.at v)) moved.1
          ∙ ap (test b.id b.health b.owner) (close_to a v was (from v e) ∙ sym (close_to b v is (from v e)))

  pub sees_alike : SeesFrom near a → is_seen_by land a a.vision f ≡ is_seen_by land b b.vision f
  sees_alike from = by a.vision refl ∙ ap (λ (o : Option ℤ). is_seen_by land b o f) moved.3
    where
      test : ℕ → ℕ → Bool → Bool
      test id owner close = not (f.id == id) && (f.health && in_mask (slice_index land.masks owner) f.owner && close)

      by : (o : Option ℤ) → a.vision ≡ o → is_seen_by land a o f ≡ is_seen_by land b o f
      by None e = refl
      by (Some v) e =
          ap (λ (n : ℕ). test n a.owner (is_near f.at a.at v)) moved.0 ∙ ap (λ (n : ℕ). test b.id n (is_near f.at a.at v)) moved.1
          ∙ ap (test b.id b.owner) (in_sight f.at a.at near v was (from v e) ∙ sym (in_sight f.at b.at near v is (from v e)))

alike : (a b : Bool) → a ≡ b → differ a b ≡ false
alike a b e = ap (λ (c : Bool). differ c b) e ∙ by b
  where
    by : (c : Bool) → differ c c ≡ false
    by true = refl
    by false = refl

module _ (land : Land) (near k : ℕ) (facts : List Fact) (placed : ArePlaced facts) (from : All (SeesFrom near) facts) where
  pub none_turned : (before after : Option Fact) → IsInner k near before after → chosen (λ (f : Fact). differ (is_seen land f before) (is_seen land f after))
      (held_in k facts) ≡ []
  none_turned None after inner = absurd inner
  none_turned (Some a) None inner = absurd inner
  none_turned (Some a) (Some b) inner =
      none_held (λ (f : Fact). differ (is_seen land f (Some a)) (is_seen land f (Some b))) (SeesFrom near) k facts placed from
      (λ f at far key. alike (is_seen land f (Some a)) (is_seen land f (Some b)) (seen_alike land near a b f inner.0 (inner.1 f.at at key) (inner.2 f.at at key)
      far))

  pub none_in_sight : (before after : Option Fact) → IfSome before (SeesFrom near) → IsInner k near before after
      → chosen (λ (f : Fact). differ (sees land before f) (sees land after f)) (held_in k facts) ≡ []
  none_in_sight None after own inner = absurd inner
  none_in_sight (Some a) None own inner = absurd inner
  none_in_sight (Some a) (Some b) own inner =
      none_held (λ (f : Fact). differ (sees land (Some a) f) (sees land (Some b) f)) (SeesFrom near) k facts placed from
      (λ f at far key. alike (sees land (Some a) f) (sees land (Some b) f) (sees_alike land near a b f inner.0 (inner.1 f.at at key) (inner.2 f.at at key) own))

-- ---- both ends

pub inner_is : (k near : ℕ) (before after : Option Fact) (from to : Fact) → before ≡ Some from → after ≡ Some to → HasOnlyMoved from to × IsClose k near from.at
    × IsClose k near to.at → IsInner k near before after
inner_is k near before after from to one two between = subst (λ (o : Option Fact). IsInner k near o after) (sym one)
    (subst (λ (o : Option Fact). IsInner k near (Some from) o) (sym two) between)
