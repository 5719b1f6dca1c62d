-- Where two states differ: the least entity and part of which they have not the same bytes.
use Rattle.{sim_base.specs.{declared.state.State.State, Rows.id_of, Ways.least_of}, sim_codec.specs.{Bits.bits, declared.bits.Part.{Part, TheVariants.Attack}}}
use Rattle.{sim_codec.specs.declared.bits.Part.TheVariants.{Clock, Entity, Health, Motion, Owner, Position, Stance}, sim_diff.specs.declared.place.Place.Place}
use Rattle.std.specs.{Option.option_eq, Prelude.{Bool, filter, find, flat_map, List, map, not, Option, ℕ, [], ◌++◌, ◌<◌, ◌∷◌, ◌≡◌, ◌≢◌, ◌⊎◌}, Str.bytes_eq}

-- the parts in their order
abbrev pub parts : List Part
parts = Clock ∷ Entity ∷ Position ∷ Owner ∷ Health ∷ Motion ∷ Attack ∷ Stance ∷ []

-- the number of a part in that order
abbrev pub number_of : Part → ℕ
number_of Clock = 0
number_of Entity = 1
number_of Position = 2
number_of Owner = 3
number_of Health = 4
number_of Motion = 5
number_of Attack = 6
number_of Stance = 7

-- one part of one entity, and what both states have of it
abbrev pub place_at : State → State → ℕ → Part → Place
place_at left right entity part = record { entity = entity; part = part; left = bits left entity part; right = bits right entity part }

-- the bytes differ, or one state alone has any
abbrev pub is_different : Place → Bool
is_different place = not (option_eq bytes_eq place.left place.right)

-- the entities of which a state may have bytes: 1, which has the clock, and those of the rows
abbrev pub entities : State → State → List ℕ
entities left right = 1 ∷ (map id_of left.rows ++ map id_of right.rows)

-- each part of each of these entities
abbrev pub places : State → State → List Place
places left right = flat_map (λ entity. map (place_at left right entity) parts) (entities left right)

-- places are ordered by entity, and those of one entity by part
abbrev pub key_of : Place → List ℕ
key_of place = place.entity ∷ number_of place.part ∷ []

-- the least place that is different, if there is any
unfoldable pub difference_of : State → State → Option Place
difference_of left right = least_of key_of (filter is_different (places left right))

-- the first part of one entity that is different, if there is any
abbrev pub difference_in : State → State → ℕ → Option Place
difference_in left right entity = find is_different (map (place_at left right entity) parts)

-- ---- the same as a relation, over every number and every part

-- a lesser entity, or a lesser part of the same entity
abbrev pub IsBefore : ℕ → Part → Place → Type 0
IsBefore entity part place = (entity < place.entity) ⊎ ((entity ≡ place.entity) × (number_of part < number_of place.part))

-- the two states have not the same bytes there, and have the same bytes everywhere before
pub record IsLeastDifference (left right : State) (place : Place) : Type 0 where
  pub in_left : place.left ≡ bits left place.entity place.part
  pub in_right : place.right ≡ bits right place.entity place.part
  pub different : place.left ≢ place.right
  pub least : (entity : ℕ) (part : Part) → IsBefore entity part place → bits left entity part ≡ bits right entity part

-- the two states have the same bytes of every part of every entity
abbrev pub HaveSameBits : State → State → Type 0
HaveSameBits left right = (entity : ℕ) (part : Part) → bits left entity part ≡ bits right entity part
