-- What entities see, in step with their facts.
use Rattle.sim_range.specs.Common.{Fact, fact_with, Holds, id_of_fact, in_mask, is_near, IsHeld, IsPlaced, Land, list_any, Point, seen_among, square, with_id}
use Rattle.sim_range.specs.declared.{bucket.Bucket.Bucket, ready.Sights.Sights, sight.Sight.Sight, span.Area.Area, span.Span.Span}
use Rattle.sim_range.specs.{Buckets.AreBuckets, Buckets.ArePlaced, Buckets.HaveRoom, Buckets.bucket_at, Buckets.bucket_key, Buckets.facts_at, Common.without_id}
use Rattle.std.specs.Prelude.{All, Bool, false, filter, IfSome, if◌then◌else◌, IsSome, IsTrue, length, List, map, nat_lt, None, not, Option, slice_index}
use Rattle.std.specs.Prelude.{slice_index_or, Some, true, unsigned_abs, vec_capacity, vec_len, ℕ, ℤ, ◌%◌, ◌&&◌, ◌*◌, ◌-ℤ◌, ◌/◌, ◌<◌, ◌==◌, ◌≡◌, ◌≤◌}

-- whether a watcher that sees so far sees an entity: another one, with health, an enemy, and near
abbrev pub is_seen_by : Land → Fact → Option ℤ → Fact → Bool
is_seen_by land watcher None fact = false
is_seen_by land watcher (Some vision) fact = not (fact.id == watcher.id) && (fact.health && in_mask (slice_index land.masks watcher.owner) fact.owner
    && is_near fact.at watcher.at vision)

-- whether a watcher sees what is kept of an entity, if anything
abbrev pub is_seen : Land → Fact → Option Fact → Bool
is_seen land watcher None = false
is_seen land watcher (Some fact) = is_seen_by land watcher watcher.vision fact

-- whether what is kept of a watcher, if anything, sees an entity
abbrev pub sees : Land → Option Fact → Fact → Bool
sees land None fact = false
sees land (Some watcher) fact = is_seen_by land watcher watcher.vision fact

-- those whom it sees
abbrev pub view : Land → List Fact → Option Fact → List ℕ
view land facts part = map id_of_fact (filter (sees land part) facts)

-- whether one of two holds alone
abbrev pub differ : Bool → Bool → Bool
differ a b = if a then not b else b

-- those who begin to see an entity, or see it no more, when what is kept of it changes
abbrev pub turned_watchers : Land → Option Fact → Option Fact → List Fact → List ℕ
turned_watchers land before after facts = map id_of_fact (filter (λ (fact : Fact). differ (is_seen land fact before) (is_seen land fact after)) facts)

-- those whom it begins to see, or sees no more
abbrev pub turned_seen : Land → Option Fact → Option Fact → List Fact → List ℕ
turned_seen land before after facts = map id_of_fact (filter (λ (fact : Fact). differ (sees land before fact) (sees land after fact)) facts)

-- what an entity sees
abbrev pub sight : Land → List Fact → Fact → List ℕ
sight land facts watcher = seen_among land facts (Some watcher)

-- ids with one more or without it
abbrev pub turned : Bool → ℕ → List ℕ → List ℕ
turned seen id ids = if seen then with_id id ids else without_id id ids

abbrev pub ids_of : Sight → List ℕ
ids_of s = s.ids.items

-- the ids that the entity at this place sees
abbrev pub ids_at : List Sight → ℕ → Sight → List ℕ
ids_at sights k d = ids_of (slice_index_or sights k d)

-- the sights are those of the facts, one by one
abbrev pub AreSights : Land → List Fact → List Sight → Type 0
AreSights land facts sights = map ids_of sights ≡ map (sight land facts) facts

-- so it is where there is a land
abbrev pub AreSightsIfAny : Option Land → List Fact → List Sight → Type 0
AreSightsIfAny land facts sights = (l : Land) → land ≡ Some l → AreSights l facts sights

-- all sights but the one at this place stay as they were
pub record StayElsewhere (at : ℕ) (old new : List Sight) : Type 0 where
  pub along : length new ≡ length old
  pub others : (k : ℕ) (d : Sight) → (k ≡ at → ⊥) → slice_index_or new k d ≡ slice_index_or old k d

-- whether an id is one of these
abbrev pub is_among : List ℕ → ℕ → Bool
is_among ids id = list_any (λ n. n == id) ids

-- there is room for an id, unless it is there
abbrev pub HasPlace : ℕ → Sight → Type 0
HasPlace id s = (with_id id s.ids.items ≡ s.ids.items → ⊥) → vec_len s.ids < vec_capacity s.ids

-- there is room for one more in the sights of these watchers
abbrev pub HaveRooms : List Fact → List ℕ → List Sight → Type 0
HaveRooms facts watchers sights = (i : ℕ) (f : Fact) (d : Sight) → i < length facts → is_among watchers (slice_index_or facts i f).id ≡ true
    → vec_len (slice_index_or sights i d).ids < vec_capacity (slice_index_or sights i d).ids

-- of all facts whose ids are not among these, both tests say the same
abbrev pub AgreeElsewhere : (Fact → Bool) → (Fact → Bool) → List Fact → List ℕ → Type 0
AgreeElsewhere g h facts ids = (i : ℕ) (f : Fact) → i < length facts → is_among ids (slice_index_or facts i f).id ≡ false → g (slice_index_or facts i f) ≡
    h (slice_index_or facts i f)

-- all who begin to see an entity, or see it no more, are among these
abbrev pub AreChanging : Land → List Fact → Option Fact → Option Fact → List ℕ → Type 0
AreChanging land facts before after ids = AgreeElsewhere (λ (fact : Fact). is_seen land fact before) (λ (fact : Fact). is_seen land fact after) facts ids

-- all whom it begins to see, or sees no more, are among these
abbrev pub AreInView : Land → List Fact → Option Fact → Option Fact → List ℕ → Type 0
AreInView land facts before after ids = AgreeElsewhere (sees land before) (sees land after) facts ids

-- two facts of an entity say the same of all but its place, as far as it matters to those who see
abbrev pub HasOnlyMoved : Fact → Fact → Type 0
HasOnlyMoved from to = (from.id ≡ to.id) × (from.owner ≡ to.owner) × (from.health ≡ to.health) × (from.vision ≡ to.vision)

-- a fact that sees, sees no less far than so many raws
abbrev pub SeesFrom : ℕ → Fact → Type 0
SeesFrom near fact = (raw : ℤ) → fact.vision ≡ Some raw → near ≤ unsigned_abs raw

-- a fact sees no further than so many raws
abbrev pub SeesWithin : ℕ → Fact → Type 0
SeesWithin reach fact = (raw : ℤ) → fact.vision ≡ Some raw → unsigned_abs raw ≤ reach

-- Buckets out of reach, and buckets so near that all see from them.

-- two points are further apart than so many raws, by columns or by rows
abbrev pub AreApart : ℕ → Point → Point → Type 0
AreApart reach p q = unsigned_abs (p.x -ℤ q.x) ≤ reach → unsigned_abs (p.z -ℤ q.z) ≤ reach → ⊥

-- all points of the bucket of this number are so from where an entity is kept, if it is
abbrev pub IsOut : ℕ → ℕ → Option Fact → Type 0
IsOut k reach part = (p : Point) → IsPlaced p → bucket_at p ≡ k → IfSome part (λ (fact : Fact). AreApart reach p fact.at)

-- a number of a row or a column is in a span
abbrev pub IsIn : Span → ℕ → Type 0
IsIn span n = (span.first ≤ n) × (n < span.end)

-- the bucket of this number is not in an area
abbrev pub IsBeside : ℕ → Area → Type 0
IsBeside k area = IsIn area.rows (k / 16) → IsIn area.columns (k % 16) → ⊥

-- all points of the bucket of this number are at most so many raws from a point
abbrev pub IsClose : ℕ → ℕ → Point → Type 0
IsClose k near q = (p : Point) → IsPlaced p → bucket_at p ≡ k → square p q ≤ near * near

-- an entity has only moved, and they are so from both places
abbrev pub IsInner : ℕ → ℕ → Option Fact → Option Fact → Type 0
IsInner k near None after = ⊥
IsInner k near (Some from) None = ⊥
IsInner k near (Some from) (Some to) = HasOnlyMoved from to × IsClose k near from.at × IsClose k near to.at

-- Whom all see, as it is kept beside the facts, and what is made ready of it before a note is taken up.

-- sights are those of these facts, and they say how far anybody sees
pub record AreKept (land : Option Land) (facts : List Fact) (sights : Sights) : Type 0 where
  pub all : AreSightsIfAny land facts sights.all.items
  pub near : All (SeesFrom sights.visions.near) facts
  pub far : All (SeesWithin sights.visions.far) facts

-- they can be changed without memory when what is kept of an entity changes
pub record AreReady (land : Option Land) (facts : List Fact) (before after : Option Fact) (sights : Sights) : Type 0 where
  pub room : vec_len sights.all < vec_capacity sights.all
  pub rooms : HaveRooms facts sights.plan.watchers.items sights.all.items
  pub changing : (l : Land) → land ≡ Some l → AreChanging l facts before after sights.plan.watchers.items
  pub own : (l : Land) → land ≡ Some l → IfSome after (λ (fact : Fact). sights.plan.own.ids.items ≡ sight l facts fact)
  pub near : IfSome after (SeesFrom sights.visions.near)
  pub far : IfSome after (SeesWithin sights.visions.far)

-- What is given to the calls here, and what becomes of it: the facts of several calls by name.

-- entities are held on a land, and each stands in its bucket, of which there are 256
pub record AreSorted (land : Land) (facts : List Fact) (buckets : List Bucket) : Type 0 where
  pub holds : Holds land facts
  pub placed : ArePlaced facts
  pub bucketed : AreBuckets facts buckets
  pub whole : length buckets ≡ 256

-- an entity stood on the largest ground where it was kept, if it was, and stands on it where it is kept, if it is
pub record AreOnGround (before after : Option Fact) : Type 0 where
  pub from : IfSome before (λ (fact : Fact). IsPlaced fact.at)
  pub to : IfSome after (λ (fact : Fact). IsPlaced fact.at)

-- a bucket of the largest ground, and an entity that stood or stands on it
pub record AreAbout (number : ℕ) (before after : Option Fact) : Type 0 where
  pub number_in : number < 256
  pub ends : AreOnGround before after

-- what was kept of it, if anything, and what is kept of it are held on a land
pub record AreHeldOn (land : Land) (before after : Option Fact) : Type 0 where
  pub from : IfSome before (IsHeld land)
  pub to : IfSome after (IsHeld land)

-- there are 256 buckets again, and the facts in each became those that a rule says
pub record Become (rule : ℕ → List Fact → List Fact) (old new : List Bucket) : Type 0 where
  pub whole : length new ≡ 256
  pub each : (k : ℕ) (d : Bucket) → k < 256 → facts_at new k d ≡ rule k (facts_at old k d)

-- An entity may leave its bucket and come to another: there are 256, it stood and stands on the largest ground, and the room for it was made.
pub record MayMove (buckets : List Bucket) (before after : Option Fact) : Type 0 where
  pub whole : length buckets ≡ 256
  pub ends : AreOnGround before after
  pub room : HaveRoom after buckets

-- A change of what is kept of an entity may be made ready: the land is there, the facts stand in their buckets, and the sights are those of
-- them. What was kept is that of the entity, is held and was seen as far as anybody sees, and what is kept is held.
pub record MayMakeReady (land : Option Land) (facts : List Fact) (buckets : List Bucket) (before after : Option Fact) (sights : Sights) : Type 0 where
  pub built : IsSome land
  pub placed : ArePlaced facts
  pub bucketed : AreBuckets facts buckets
  pub whole : length buckets ≡ 256
  pub kept : IsTrue sights.keeps → AreKept land facts sights
  pub found : IfSome after (λ (fact : Fact). before ≡ fact_with facts fact.id)
  pub parts : (l : Land) → land ≡ Some l → AreHeldOn l before after
  pub near : IsTrue sights.keeps → IfSome before (SeesFrom sights.visions.near)
  pub far : IsTrue sights.keeps → IfSome before (SeesWithin sights.visions.far)
  pub ends : AreOnGround before after

-- Facts by the numbers of their buckets.

-- those who stand in a bucket of a lower number
abbrev pub below_bucket : ℕ → List Fact → List Fact
below_bucket k facts = filter (λ (fact : Fact). nat_lt (bucket_key fact) k) facts
