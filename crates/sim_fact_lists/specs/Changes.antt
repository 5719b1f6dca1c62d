-- What a note changes: all that is kept of one id.
use Rattle.sim_base.specs.{declared.{place.Point.Point, setup.Land.Land}, Limits.{IsLand, IsRawFrom}, Places.is_inside, Rows.size_of}
use Rattle.sim_system.specs.declared.{fact.Fact.Fact, kind.Kind.{Kind, TheVariants.{Census, Ground, Range, Watch}}}
use Rattle.sim_system.specs.{declared.note.Note.{Note, TheVariants.{Aimed, Born, Gone, Moved, Owned}}, Notes.{aim_of, id_of_fact, kept, with_kept, without}}
use Rattle.std.specs.List.Sorted.{IsStrictlyIncreasing}
use Rattle.std.specs.Prelude.{All, Bool, false, if◌then◌else◌, IsTrue, length, List, map, None, Option, option_map, slice_index_or, Some, ℕ, ℤ, ◌<◌, ◌≡◌, ◌≤◌}

-- the id of which a note tells
abbrev pub id_in : Note → ℕ
id_in (Born fact) = fact.id
id_in (Gone fact) = fact.id
id_in (Moved id from to) = id
id_in (Owned id from to) = id
id_in (Aimed id from to) = id

-- whether there is a fact, and it passes
abbrev pub passes : (Fact → Bool) → Option Fact → Bool
passes p None = false
passes p (Some fact) = p fact

-- a truth value as a number
abbrev pub one_if : Bool → ℕ
one_if b = if b then 1 else 0

-- what a kind keeps of an entity after a move, which Range alone keeps
abbrev pub part_moved : Kind → Option Fact → Point → Option Fact
part_moved Ground part to = part
part_moved Range part to = option_map (λ (fact : Fact). record fact { at = to }) part
part_moved Watch part to = part
part_moved Census part to = part

-- the same after a change of owner, which Range and Census keep
abbrev pub part_owned : Kind → Option Fact → ℕ → Option Fact
part_owned Ground part to = part
part_owned Range part to = option_map (λ (fact : Fact). record fact { owner = to }) part
part_owned Watch part to = part
part_owned Census part to = option_map (λ (fact : Fact). record fact { owner = to }) part

-- the same after an aim, which Watch alone keeps
abbrev pub part_aimed : Kind → Option Fact → ℕ → ℕ → Option Fact
part_aimed Ground part id to = part
part_aimed Range part id to = part
part_aimed Watch part id to = kept Watch (aim_of id to)
part_aimed Census part id to = part

-- what a kind keeps of an entity after a note on it, where this was kept before
abbrev pub part_noted : Kind → Option Fact → Note → Option Fact
part_noted kind part (Born fact) = kept kind fact
part_noted kind part (Gone fact) = None
part_noted kind part (Moved id from to) = part_moved kind part to
part_noted kind part (Owned id from to) = part_owned kind part to
part_noted kind part (Aimed id from to) = part_aimed kind part id to

-- Where the fact of an id stands in a list by id, and which facts a system holds.

-- the fact of this id stands there
pub record Stands (facts : List Fact) (id place : ℕ) : Type 0 where
  pub within : place < length facts
  pub same : (d : Fact) → (slice_index_or facts place d).id ≡ id

-- no fact has this id, and one that has it belongs there: the ids before are below it, and all others above
pub record Belongs (facts : List Fact) (id place : ℕ) : Type 0 where
  pub within : place ≤ length facts
  pub before : (k : ℕ) (d : Fact) → k < place → (slice_index_or facts k d).id < id
  pub behind : (k : ℕ) (d : Fact) → place ≤ k → k < length facts → id < (slice_index_or facts k d).id

-- the facts where this is all that is kept of this id
abbrev pub with_only : ℕ → Option Fact → List Fact → List Fact
with_only id part facts = with_kept part (without id facts)

-- the ids ascend
abbrev pub Ascend : List Fact → Type 0
Ascend facts = IsStrictlyIncreasing (map id_of_fact facts)

-- a fact that a system holds: its place lies inside, its owner is known, and its vision is that of arms
pub record IsHeld (land : Land) (fact : Fact) : Type 0 where
  pub at : IsTrue (is_inside (size_of land) fact.at)
  pub owner : fact.owner < length land.masks
  pub vision : (raw : ℤ) → fact.vision ≡ Some raw → IsRawFrom 0 16777216 raw

-- there are at most 4096 of them, ascending by id
pub record AreHeld (land : Land) (facts : List Fact) : Type 0 where
  pub few : length facts ≤ 4096
  pub ascending : Ascend facts
  pub each : All (IsHeld land) facts

-- the land is within its limits, and the facts are held on it
pub record Holds (land : Land) (facts : List Fact) : Type 0 where
  pub limits : IsLand land
  pub held : AreHeld land facts

-- so it is where there is a land
abbrev pub HoldsIfAny : Option Land → List Fact → Type 0
HoldsIfAny land facts = (l : Land) → land ≡ Some l → Holds l facts
