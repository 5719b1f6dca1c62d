-- The cells that wait in a ring of buckets, for any estimate.
use Rattle.sim_search.specs.{Common.Cell, Common.IsCost, Common.IsStep, Common.Size, Common.Walk, Common.place_of, Estimates.IsEstimate, Estimates.IsGuide}
use Rattle.sim_search.specs.{Common.Field, declared.costs.Costs.Costs, declared.entry.Entry.Entry, declared.origin.Origin.Origin, declared.search.Search.Search}
use Rattle.std.specs.Prelude.{[], Bool, Contains, count_by, false, if◌then◌else◌, List, map, nat_eq, nat_lt, None, not, Option, slice_index_or, slice_set, Some}
use Rattle.std.specs.Prelude.{true, ℕ, ◌%◌, ◌&&◌, ◌*◌, ◌++◌, ◌+◌, ◌<◌, ◌∷◌, ◌≡◌, ◌≢◌, ◌≤◌, ◌⊎◌}

-- Costs by cells.

-- whether a ground has a cell
abbrev pub has_cell : Size → Cell → Bool
has_cell size c = nat_lt c.x size.width && nat_lt c.z size.depth

-- what a list by z, then x, has at a cell, or else the other value
abbrev pub entry_at : {X : Type 0} → X → Size → List X → Cell → X
entry_at other size xs c = if has_cell size c then slice_index_or xs (place_of size c) other else other

abbrev pub size_of : Costs → Size
size_of t = record { width = t.width; depth = t.depth }

-- where a cell stands in the list of costs
abbrev pub place_in : Costs → Cell → ℕ
place_in t c = place_of (size_of t) c

-- the cost of an entry, if it has this stamp
abbrev pub read_entry : ℕ → Entry → Option ℕ
read_entry stamp e = if nat_eq e.stamp stamp then Some e.cost else None

-- the costs by z, then x
abbrev pub known : Costs → List (Option ℕ)
known t = map (read_entry t.stamp) t.items.items

-- the cost of a cell, if the search has come to it
abbrev pub cost_in : Costs → Cell → Option ℕ
cost_in t c = entry_at None (size_of t) (known t) c

-- a number is where a cell stands in a list by z, then x, of the ground's cells
pub record IsPlace (size : Size) (cell : Cell) (number : ℕ) : Type 0 where
  pub place : number ≡ place_of size cell
  pub below : number < size.width * size.depth

-- one cell has another cost, and the others keep theirs
pub record IsSet (old new : Costs) (cell : Cell) (cost : ℕ) : Type 0 where
  pub size : size_of new ≡ size_of old
  pub stamp : new.stamp ≡ old.stamp
  pub here : cost_in new cell ≡ Some cost
  pub elsewhere : (c : Cell) → c ≢ cell → cost_in new c ≡ cost_in old c

-- no cell has a cost any more
pub record IsForgotten (old new : Costs) : Type 0 where
  pub size : size_of new ≡ size_of old
  pub stamp : new.stamp ≡ old.stamp + 1
  pub none : (c : Cell) → cost_in new c ≡ None

-- the reached cells have their least costs, and all cells to which a walk leads are reached
pub record AreCosts (field : Field) (start : Cell) (cost : Cell → Option ℕ) : Type 0 where
  pub least : (c : Cell) (d : ℕ) → cost c ≡ Some d → IsCost field start c d
  pub all : (c : Cell) (d : ℕ) → IsCost field start c d → cost c ≡ Some d

-- whether the total is lower than a cost, if there is one
abbrev pub is_lower_than : ℕ → Option ℕ → Bool
is_lower_than total None = true
is_lower_than total (Some d) = nat_lt total d

-- A search that takes cells by their cost and an estimate, of any steps with costs and any estimate.

-- the cell has a cost of at most n
pub record HasCost {X : Type 0} (cost : X → Option ℕ) (c : X) (n : ℕ) : Type 0 where
  pub value : ℕ
  pub is : cost c ≡ Some value
  pub low : value ≤ n

-- The costs known so far, and the cells taken so far, where the search has come to the key `now` of a cost and an estimate:
-- each cost is that of a walk; the cells that were taken have keys up to now, and their steps are reckoned with; the others have keys from now on.
pub record IsSearch {X : Type 0} (Step : X → X → ℕ → Type 0) (start : X) (estimate : X → ℕ) (cost : X → Option ℕ) (taken : X → Bool) (now : ℕ) : Type 0 where
  pub begins : cost start ≡ Some 0
  pub walks : (c : X) (d : ℕ) → cost c ≡ Some d → Walk Step start c d
  pub passed : (c : X) → taken c ≡ true → (d : ℕ) × (cost c ≡ Some d) × (d + estimate c ≤ now)
  pub reckoned : (a b : X) (k d : ℕ) → taken a ≡ true → cost a ≡ Some d → Step a b k → HasCost cost b (d + k)
  pub waiting : (c : X) (d : ℕ) → cost c ≡ Some d → taken c ≡ false → now ≤ d + estimate c

-- which cells were taken: those that have the stamp of this search
abbrev pub takens : Search → List Bool
takens s = map (λ (t : ℕ). nat_eq t s.costs.stamp) s.taken.items

-- whether a cell was taken
abbrev pub taken_in : Search → Cell → Bool
taken_in s c = entry_at false (size_of s.costs) (takens s) c

-- the cells of a bucket
abbrev pub bucket_in : Search → ℕ → List Cell
bucket_in s b = slice_index_or s.buckets.items b []

-- how many cells were not taken
abbrev pub untaken : Search → ℕ
untaken s = count_by not (takens s)

-- the size of the ground on which a search starts
abbrev pub ground_of : Origin → Size
ground_of origin = record { width = origin.width; depth = origin.depth }

-- a search that has come to no cell yet, and in whose buckets none stands
pub record IsBlank (size : Size) (start : Cell) (s : Search) : Type 0 where
  pub start_is : s.start ≡ start
  pub size_is : size_of s.costs ≡ size
  pub none_reached : (c : Cell) → cost_in s.costs c ≡ None
  pub none_taken : (c : Cell) → taken_in s c ≡ false
  pub none_wait : (b : ℕ) → b < 32 → bucket_in s b ≡ []

-- a search has come to no cell but the start, which waits by its estimate
pub record Begins (estimate : Cell → ℕ) (size : Size) (start : Cell) (s : Search) : Type 0 where
  pub start_is : s.start ≡ start
  pub size_is : size_of s.costs ≡ size
  pub here : cost_in s.costs start ≡ Some 0
  pub elsewhere : (c : Cell) → c ≢ start → cost_in s.costs c ≡ None
  pub none_taken : (c : Cell) → taken_in s c ≡ false
  pub queued : Contains (bucket_in s (estimate start % 32)) start
  pub only : (b : ℕ) (c : Cell) → b < 32 → Contains (bucket_in s b) c → c ≡ start

-- a cell has a cost of at most the total already, and nothing changed
pub record IsKept (old new : Search) (to : Cell) (total : ℕ) : Type 0 where
  pub low : HasCost (cost_in old.costs) to total
  pub same : new ≡ old

-- a cell has the total as its cost, which is lower than before, and waits there
pub record IsLowered (estimate : Cell → ℕ) (old new : Search) (to : Cell) (total : ℕ) : Type 0 where
  pub higher : (d : ℕ) → cost_in old.costs to ≡ Some d → total < d
  pub size_is : size_of new.costs ≡ size_of old.costs
  pub here : cost_in new.costs to ≡ Some total
  pub elsewhere : (c : Cell) → c ≢ to → cost_in new.costs c ≡ cost_in old.costs c
  pub start_is : new.start ≡ old.start
  pub taken_is : takens new ≡ takens old
  pub queued : let b = (total + estimate to) % 32 in new.buckets.items ≡ slice_set old.buckets.items b (bucket_in old b ++ to ∷ [])

abbrev pub Lowers : (Cell → ℕ) → Search → Search → Cell → ℕ → Type 0
Lowers estimate old new to total = IsKept old new to total ⊎ IsLowered estimate old new to total

-- a cell of this cost waits, and its key is now
pub record Waits (estimate : Cell → ℕ) (s : Search) (now : ℕ) (c : Cell) (d : ℕ) : Type 0 where
  pub cost : cost_in s.costs c ≡ Some d
  pub not_taken : taken_in s c ≡ false
  pub key : d + estimate c ≡ now

-- a cell is taken, and all else stays
pub record Takes (old new : Search) (cell : Cell) : Type 0 where
  pub start_is : new.start ≡ old.start
  pub costs_are : new.costs ≡ old.costs
  pub buckets_are : new.buckets.items ≡ old.buckets.items
  pub here : taken_in new cell ≡ true
  pub elsewhere : (c : Cell) → c ≢ cell → taken_in new c ≡ taken_in old c
  pub fewer : taken_in old cell ≡ false → untaken new + 1 ≡ untaken old

-- a bucket is empty now, and all else stays
pub record Empties (old new : Search) (b : ℕ) : Type 0 where
  pub start_is : new.start ≡ old.start
  pub costs_are : new.costs ≡ old.costs
  pub taken_is : takens new ≡ takens old
  pub buckets_are : new.buckets.items ≡ slice_set old.buckets.items b []

-- a cell has a cost, and its key is at most this one
pub record IsEarly (estimate : Cell → ℕ) (s : Search) (c : Cell) (key : ℕ) : Type 0 where
  pub value : ℕ
  pub cost : cost_in s.costs c ≡ Some value
  pub low : value + estimate c ≤ key

-- Whoever stands in the bucket of a key and was not taken has that key, or has had it and has a lower one now.
abbrev pub AreEarly : (Cell → ℕ) → Search → ℕ → Type 0
AreEarly estimate s now = (key : ℕ) (c : Cell) → now ≤ key → key < now + 32 → Contains (bucket_in s (key % 32)) c → taken_in s c ≡ false
    → IsEarly estimate s c key

-- where a cell of this key waits: among the rest of the bucket that is gone through, or in its own bucket
abbrev pub Queued : Search → ℕ → List Cell → ℕ → Cell → Type 0
Queued s now rest key c = ((key ≡ now) × Contains rest c) ⊎ Contains (bucket_in s (key % 32)) c

-- A search that goes through the bucket of the key now, of which the rest is left.
pub record Drains (estimate : Cell → ℕ) (field : Field) (s : Search) (now : ℕ) (rest : List Cell) : Type 0 where
  pub guide : IsGuide field s.start estimate
  pub size_is : size_of s.costs ≡ field.size
  pub search : IsSearch (IsStep field s.start) s.start estimate (cost_in s.costs) (taken_in s) now
  pub near : (c : Cell) (d : ℕ) → cost_in s.costs c ≡ Some d → taken_in s c ≡ false → d + estimate c < now + 32
  pub queued : (c : Cell) (d : ℕ) → cost_in s.costs c ≡ Some d → taken_in s c ≡ false → Queued s now rest (d + estimate c) c
  pub listed : (c : Cell) → Contains rest c → taken_in s c ≡ false → IsEarly estimate s c now
  pub early : AreEarly estimate s now

-- A search before the bucket of the key now, where the buckets of that many keys before it had no cell to take. All keys are even.
pub record Ready (estimate : Cell → ℕ) (field : Field) (s : Search) (now idle : ℕ) : Type 0 where
  pub even : now % 2 ≡ 0
  pub guide : IsGuide field s.start estimate
  pub size_is : size_of s.costs ≡ field.size
  pub search : IsSearch (IsStep field s.start) s.start estimate (cost_in s.costs) (taken_in s) now
  pub near : (c : Cell) (d : ℕ) → cost_in s.costs c ≡ Some d → taken_in s c ≡ false → d + estimate c + idle < now + 32
  pub queued : (c : Cell) (d : ℕ) → cost_in s.costs c ≡ Some d → taken_in s c ≡ false → Contains (bucket_in s ((d + estimate c) % 32)) c
  pub early : AreEarly estimate s now

-- some cell was taken, or nothing changed
pub record Progress (old new : Search) (any : Bool) : Type 0 where
  pub start_is : new.start ≡ old.start
  pub fewer : untaken new + (if any then 1 else 0) ≤ untaken old
  pub same : any ≡ false → new ≡ old

-- the steps from a cell of this cost are reckoned with
pub record Expands (estimate : Cell → ℕ) (field : Field) (old new : Search) (from : Cell) (cost : ℕ) : Type 0 where
  pub kept : (rest : List Cell) → Drains estimate field old (cost + estimate from) rest → Drains estimate field new (cost + estimate from) rest
  pub from_is : cost_in new.costs from ≡ Some cost
  pub start_is : new.start ≡ old.start
  pub size_is : size_of new.costs ≡ size_of old.costs
  pub taken_is : takens new ≡ takens old
  pub steps : (b : Cell) (k : ℕ) → IsStep field old.start from b k → HasCost (cost_in new.costs) b (cost + k)

-- A search that stops when it has come to an end, and what it knows by then.

-- one of the ends has a cost below this
pub record IsComeTo (cost : Cell → Option ℕ) (ends : List Cell) (now : ℕ) : Type 0 where
  pub end : Cell
  pub value : ℕ
  pub among : Contains ends end
  pub reached : cost end ≡ Some value
  pub below : value < now

-- the cells whose cost and estimate are at most the bound have their least costs
pub record AreCostsUpTo (field : Field) (start : Cell) (estimate : Cell → ℕ) (bound : ℕ) (cost : Cell → Option ℕ) : Type 0 where
  pub least : (c : Cell) (d : ℕ) → cost c ≡ Some d → d + estimate c ≤ bound → IsCost field start c d
  pub all : (c : Cell) (d : ℕ) → IsCost field start c d → d + estimate c ≤ bound → cost c ≡ Some d

-- a search stopped after it had come to an end, with the least costs up to a bound that is no lower than that end's cost
pub record HasStopped (field : Field) (start : Cell) (estimate : Cell → ℕ) (ends : List Cell) (cost : Cell → Option ℕ) : Type 0 where
  pub bound : ℕ
  pub come : IsComeTo cost ends (bound + 1)
  pub up_to : AreCostsUpTo field start estimate bound cost

-- all cells have their least costs, or the search has stopped
abbrev pub IsSearched : Field → Cell → (Cell → ℕ) → List Cell → (Cell → Option ℕ) → Type 0
IsSearched field start estimate ends cost = AreCosts field start cost ⊎ HasStopped field start estimate ends cost

-- What the laws of the search say, for every estimate.

-- a cell that was taken has its least cost over all walks
abbrev pub TakenIsLeast : Type 0
TakenIsLeast =
    (field : Field) (start : Cell) (estimate : Cell → ℕ) (cost : Cell → Option ℕ) (taken : Cell → Bool) (now : ℕ)
    → IsEstimate (IsStep field start) estimate → IsSearch (IsStep field start) start estimate cost taken now
    → (c : Cell) (d : ℕ) → taken c ≡ true → cost c ≡ Some d → IsCost field start c d

-- a cell that was taken has a sum of cost and estimate that is no higher than that of a cell still to be taken
abbrev pub TakenInOrder : Type 0
TakenInOrder =
    (field : Field) (start : Cell) (estimate : Cell → ℕ) (cost : Cell → Option ℕ) (taken : Cell → Bool) (now : ℕ)
    → IsSearch (IsStep field start) start estimate cost taken now
    → (c e : Cell) (d f : ℕ) → taken c ≡ true → cost c ≡ Some d → taken e ≡ false → cost e ≡ Some f → d + estimate c ≤ f + estimate e

-- where a step from a cell at the key of the search makes up a lower cost of another cell, the search stays one with that cost
abbrev pub LoweringKeeps : Type 0
LoweringKeeps =
    (field : Field) (start : Cell) (estimate : Cell → ℕ) (cost lowered : Cell → Option ℕ) (taken : Cell → Bool) (now : ℕ)
    → IsEstimate (IsStep field start) estimate → IsSearch (IsStep field start) start estimate cost taken now
    → (from to : Cell) (k d : ℕ) → cost from ≡ Some d → d + estimate from ≡ now → IsStep field start from to k
    → ((e : ℕ) → cost to ≡ Some e → d + k < e) → lowered to ≡ Some (d + k) → ((c : Cell) → c ≢ to → lowered c ≡ cost c)
    → IsSearch (IsStep field start) start estimate lowered taken now

-- where all steps from a cell at the key of the search are reckoned with, the search stays one once that cell is taken
abbrev pub TakingKeeps : Type 0
TakingKeeps =
    (field : Field) (start : Cell) (estimate : Cell → ℕ) (cost : Cell → Option ℕ) (taken more : Cell → Bool) (now : ℕ)
    → IsEstimate (IsStep field start) estimate → IsSearch (IsStep field start) start estimate cost taken now
    → (from : Cell) (d : ℕ) → cost from ≡ Some d → d + estimate from ≡ now
    → ((to : Cell) (k : ℕ) → IsStep field start from to k → HasCost cost to (d + k))
    → more from ≡ true → ((c : Cell) → c ≢ from → more c ≡ taken c)
    → IsSearch (IsStep field start) start estimate cost more now
