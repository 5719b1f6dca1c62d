-- Buckets of 16 by 16 cells.
use Rattle.sim_range.specs.{Common.Fact, Common.IsPlaced, Common.Point, Common.cell_of, Common.id_of_fact, Common.with_only, declared.bucket.Bucket.Bucket}
use Rattle.std.specs.Prelude.{All, Bool, false, filter, IfSome, if◌then◌else◌, length, List, map, None, not, Option, slice_index_or, Some, vec_capacity}
use Rattle.std.specs.Prelude.{vec_len, ℕ, ◌&&◌, ◌*◌, ◌+◌, ◌/◌, ◌<◌, ◌==◌, ◌≡◌}

-- each stands on the largest ground
abbrev pub ArePlaced : List Fact → Type 0
ArePlaced facts = All (λ (fact : Fact). IsPlaced fact.at) facts

-- the number of the bucket in which a point lies: those of a row, from west to east, have 16 numbers
abbrev pub bucket_at : Point → ℕ
bucket_at p = (cell_of p).z / 16 * 16 + (cell_of p).x / 16

-- an entity stands in the bucket of its point
abbrev pub bucket_key : Fact → ℕ
bucket_key fact = bucket_at fact.at

-- whether the cell of a point, divided by 16, is this
abbrev pub is_in_bucket : ℕ → ℕ → Point → Bool
is_in_bucket bx bz p = (cell_of p).x / 16 == bx && (cell_of p).z / 16 == bz

-- the entities in a bucket
abbrev pub in_bucket : ℕ → ℕ → List Fact → List ℕ
in_bucket bx bz facts = map id_of_fact (filter (λ (fact : Fact). is_in_bucket bx bz fact.at) facts)

-- the facts in the bucket of this number
abbrev pub held_in : ℕ → List Fact → List Fact
held_in k facts = filter (λ (fact : Fact). bucket_key fact == k) facts

-- whether what is kept of an entity is in the bucket of this number
abbrev pub is_in : ℕ → Option Fact → Bool
is_in k None = false
is_in k (Some fact) = bucket_key fact == k

-- what is kept of an entity in that bucket
abbrev pub part_in : ℕ → Option Fact → Option Fact
part_in k None = None
part_in k (Some fact) = if bucket_key fact == k then Some fact else None

-- Facts in a list of buckets.

-- the facts in the bucket of this number
abbrev pub facts_at : List Bucket → ℕ → Bucket → List Fact
facts_at buckets k d = (slice_index_or buckets k d).facts.items

-- each bucket has the facts that stand in it
abbrev pub AreBuckets : List Fact → List Bucket → Type 0
AreBuckets facts buckets = (k : ℕ) (d : Bucket) → k < length buckets → facts_at buckets k d ≡ held_in k facts

-- there is room for one more
pub record HasRoom (bucket : Bucket) : Type 0 where
  pub facts : vec_len bucket.facts < vec_capacity bucket.facts
  pub ids : vec_len bucket.ids < vec_capacity bucket.ids

-- there is room for what is kept of an entity, in its bucket
abbrev pub HaveRoom : Option Fact → List Bucket → Type 0
HaveRoom part buckets = IfSome part (λ (fact : Fact). (d : Bucket) → HasRoom (slice_index_or buckets (bucket_key fact) d))

-- the facts of a bucket when an entity has left it, unless it stays
abbrev pub left_at : ℕ → ℕ → Option Fact → Option Fact → List Fact → List Fact
left_at k id before after facts = if is_in k before && not (is_in k after) then with_only id None facts else facts

-- and when what is kept of it now has come
abbrev pub changed_at : ℕ → ℕ → Option Fact → Option Fact → List Fact → List Fact
changed_at k id before after facts = if is_in k after then with_only id after facts else left_at k id before after facts
