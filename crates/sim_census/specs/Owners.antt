-- What a list of entities and their owners stands for.
use Rattle.{sim_census.specs.declared.owned.Owned.Owned, sim_system.specs.{declared.fact.Fact.Fact, Meanings.population_among, Notes.origin}}
use Rattle.std.specs.Prelude.{Bool, false, List, map, None, slice_index, ℕ, ◌<◌, ◌==◌, ◌≡◌}

-- the fact of an entity of which only its owner is told
abbrev pub owner_fact : ℕ → ℕ → Fact
owner_fact id owner = record { id = id; at = origin; owner = owner; health = false; vision = None; rect = None; target = 0 }

-- an entity and its owner as a fact
abbrev pub fact_in : Owned → Fact
fact_in owned = owner_fact owned.id owned.owner

-- all of them
abbrev pub facts_in : List Owned → List Fact
facts_in owned = map fact_in owned

-- a fact is of this entity, and tells its owner and nothing else
abbrev pub IsOfOwner : ℕ → Fact → Type 0
IsOfOwner id fact = fact ≡ owner_fact id fact.owner

-- The numbers that are kept.

-- an entity is of this owner
abbrev pub is_owned_by : ℕ → Fact → Bool
is_owned_by owner fact = fact.owner == owner

-- by owner, how many of these entities each of the nine owners has
abbrev pub AreCounts : List Fact → List ℕ → Type 0
AreCounts facts counts = (owner : ℕ) → owner < 9 → slice_index counts owner ≡ population_among facts owner
