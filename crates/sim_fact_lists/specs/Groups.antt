-- Ids in groups by key: a list of groups, ascending by key.
use Rattle.sim_fact_lists.specs.{Ids.with_id, Ids.without_id, Queues.HasPlace, Queues.queued, declared.group.Group.Group}
use Rattle.std.specs.Prelude.{[], filter, find, if◌then◌else◌, length, List, map, MatchOption, None, not, Option, slice_index_or, Some, ℕ, ◌<◌, ◌==◌, ◌≡◌, ◌≤◌}
use Rattle.{sim_system.specs.Notes.id_of_fact, sim_system.specs.declared.fact.Fact.Fact, std.specs.List.Sorted.IsStrictlyIncreasing}

abbrev pub key_of : Group → ℕ
key_of group = group.key

-- the keys ascend
abbrev pub KeysAscend : List Group → Type 0
KeysAscend groups = IsStrictlyIncreasing (map key_of groups)

-- the group of a key, if it has one
abbrev pub group_with : ℕ → List Group → Option Group
group_with key groups = find (λ (group : Group). group.key == key) groups

-- the ids of a group; where there is none, there are none
abbrev pub ids_in : Option Group → List ℕ
ids_in None = []
ids_in (Some group) = queued group.ids

-- the ids of a key
abbrev pub listed : ℕ → List Group → List ℕ
listed key groups = ids_in (group_with key groups)

-- the groups of all other keys
abbrev pub without_key : ℕ → List Group → List Group
without_key key groups = filter (λ (group : Group). not (group.key == key)) groups

-- the groups after a key is forgotten: where it has no id, its group goes; else all stay
abbrev pub forgotten : ℕ → List Group → List Group
forgotten key groups = if length (listed key groups) == 0 then without_key key groups else groups

-- the key has a group, with room for one id more
abbrev pub HasRoom : ℕ → List Group → Type 0
HasRoom key groups = MatchOption (group_with key groups) ⊥ (λ (group : Group). HasPlace group.ids)

-- the group of this key stands there
pub record GroupStands (groups : List Group) (key place : ℕ) : Type 0 where
  pub within : place < length groups
  pub same : (d : Group) → (slice_index_or groups place d).key ≡ key

-- no group has this key, and one that has it belongs there: the keys before are below it, and all others above
pub record GroupBelongs (groups : List Group) (key place : ℕ) : Type 0 where
  pub within : place ≤ length groups
  pub before : (k : ℕ) (d : Group) → k < place → (slice_index_or groups k d).key < key
  pub behind : (k : ℕ) (d : Group) → place ≤ k → k < length groups → key < (slice_index_or groups k d).key

-- the ids of a key when what is kept of an entity leaves its group, if anything
abbrev pub left_by : (Fact → ℕ) → Option Fact → ℕ → List ℕ → List ℕ
left_by key None k ids = ids
left_by key (Some fact) k ids = if key fact == k then without_id fact.id ids else ids

-- and when it joins it
abbrev pub joined_by : (Fact → ℕ) → Option Fact → ℕ → List ℕ → List ℕ
joined_by key None k ids = ids
joined_by key (Some fact) k ids = if key fact == k then with_id fact.id ids else ids

-- the entities with this key
abbrev pub keyed : (Fact → ℕ) → ℕ → List Fact → List ℕ
keyed key k facts = map id_of_fact (filter (λ (fact : Fact). key fact == k) facts)

-- the groups are those of the facts
abbrev pub AreGroups : (Fact → ℕ) → List Fact → List Group → Type 0
AreGroups key facts groups = (k : ℕ) → listed k groups ≡ keyed key k facts
