-- What a system is to its callers, and the four systems of a match. All of it is plain data, and knows of no boxes.
use Rattle.sim_system.specs.declared.ask.Ask.TheVariants as ask
use Rattle.sim_base.specs.Commands.{field_of, is_free_rect, is_near, is_open, population, rect_covers, seen, spot, watchers, within}
use Rattle.sim_base.specs.declared.{place.{Cell.Cell, Point.Point, Rect.Rect}, setup.{Land.Land, Setup.Setup}, state.{Row.Row, State.State}, template.Arms.Arms}
use Rattle.sim_base.specs.{Places.{cells_of, centre_of, covers, Field, is_inside, is_rect_inside, IsOnGround, square}, Rows.{arms_of, in_mask, row_of, size_of}}
use Rattle.{sim_base.specs.Ways.{least_of, Way, way_of}, sim_system.specs.declared.ask.Answer.{Answer, TheVariants.{Found, Many, Number, Place, Truth}}}
use Rattle.sim_system.specs.{declared.{kind.Kind.TheVariants.{Ground, Range, Watch}, note.Note.Note}, Notes.{fact_with, facts_of, id_of_fact, kept_of, noted}}
use Rattle.{sim_system.specs.Notes.NoteFits, std.specs.{List.{list_all, list_any}, Prelude.{Bool, count_by, filter, IsSome, IsTrue, List, map, MatchOption}}}
use Rattle.std.specs.Prelude.{min, None, not, Option, slice_index, Some, ℕ, ℤ, [], ◌&&◌, ◌+◌, ◌-◌, ◌==◌, ◌^◌, ◌||◌, ◌∷◌, ◌≡◌, ◌≤◌}
use Rattle.sim_system.specs.declared.{Way.Way as WayAnswer, ask.Ask.Ask, fact.Fact.Fact, kind.Kind.Kind, kind.Kind.TheVariants.Census}

-- What is answered: over the facts of a system, and over the rows of a state.

-- the kind of system that is asked
abbrev pub kind_for : Ask → Kind
kind_for (ask.Open cell) = Ground
kind_for (ask.Free rect) = Ground
kind_for (ask.Way start goal) = Ground
kind_for (ask.Spot at) = Ground
kind_for (ask.Within at radius mask) = Range
kind_for (ask.Seen id) = Range
kind_for (ask.Watchers id) = Watch
kind_for (ask.Count owner) = Census

-- a way as it is answered
abbrev pub way_told : Way → WayAnswer
way_told way = record { points = way.points; whole = way.whole }

-- ---- over a land and facts

-- no closed rectangle and no fact's rectangle covers the cell
abbrev pub is_open_among : Land → List Fact → Cell → Bool
is_open_among land facts c = not (list_any (λ r. covers r c) land.closed) && not (list_any (λ (fact : Fact). rect_covers fact.rect c) facts)

abbrev pub field_among : Land → List Fact → Field
field_among land facts = record { size = size_of land; is_open = is_open_among land facts }

abbrev pub is_free_among : Land → List Fact → Rect → Bool
is_free_among land facts r = is_rect_inside (size_of land) r && list_all (λ c. not (covers r c) || is_open_among land facts c) (cells_of (size_of land))

abbrev pub spot_among : Land → List Fact → Point → Option Cell
spot_among land facts p = least_of (λ c. square (centre_of c) p ∷ c.z ∷ c.x ∷ []) (filter (is_open_among land facts) (cells_of (size_of land)))

-- the facts with health of the masked owners that are near a point
abbrev pub within_among : List Fact → Point → ℤ → ℕ → List ℕ
within_among facts p radius mask = map id_of_fact (filter (λ (fact : Fact). fact.health && in_mask mask fact.owner && is_near fact.at p radius) facts)

-- the enemies that an entity with this vision sees
abbrev pub seen_by_vision : Land → List Fact → Fact → Option ℤ → List ℕ
seen_by_vision land facts fact None = []
seen_by_vision land facts fact (Some vision) = filter (λ id. not (id == fact.id)) (within_among facts fact.at vision (slice_index land.masks fact.owner))

-- the enemies that an entity sees, if it is kept with a vision
abbrev pub seen_among : Land → List Fact → Option Fact → List ℕ
seen_among land facts None = []
seen_among land facts (Some fact) = seen_by_vision land facts fact fact.vision

abbrev pub watchers_among : List Fact → ℕ → List ℕ
watchers_among facts id = map id_of_fact (filter (λ (fact : Fact). not (id == 0) && fact.target == id) facts)

abbrev pub population_among : List Fact → ℕ → ℕ
population_among facts owner = count_by (λ (fact : Fact). fact.owner == owner) facts

-- the answer over a land and facts
abbrev pub answer : Land → List Fact → Ask → Answer
answer land facts (ask.Open cell) = Truth (is_open_among land facts cell)
answer land facts (ask.Free rect) = Truth (is_free_among land facts rect)
answer land facts (ask.Way start goal) = Found (way_told (way_of (field_among land facts) start goal))
answer land facts (ask.Spot at) = Place (spot_among land facts at)
answer land facts (ask.Within at radius mask) = Many (within_among facts at radius mask)
answer land facts (ask.Seen id) = Many (seen_among land facts (fact_with facts id))
answer land facts (ask.Watchers id) = Many (watchers_among facts id)
answer land facts (ask.Count owner) = Number (population_among facts owner)

-- ---- over the rows of a state

-- the enemies that a row sees, if it can attack
abbrev pub seen_with : Setup → State → Row → Option Arms → List ℕ
seen_with setup state row None = []
seen_with setup state row (Some arms) = seen setup state row arms

-- the enemies that a row sees, if it is alive
abbrev pub seen_from : Setup → State → Option Row → List ℕ
seen_from setup state None = []
seen_from setup state (Some row) = seen_with setup state row (arms_of setup row)

-- the answer over the rows
abbrev pub answer_over : Setup → State → Ask → Answer
answer_over setup state (ask.Open cell) = Truth (is_open setup state cell)
answer_over setup state (ask.Free rect) = Truth (is_free_rect setup state rect)
answer_over setup state (ask.Way start goal) = Found (way_told (way_of (field_of setup state) start goal))
answer_over setup state (ask.Spot at) = Place (spot setup state at)
answer_over setup state (ask.Within at radius mask) = Many (within state at radius mask)
answer_over setup state (ask.Seen id) = Many (seen_from setup state (row_of state id))
answer_over setup state (ask.Watchers id) = Many (watchers state id)
answer_over setup state (ask.Count owner) = Number (population state owner)

-- which system it is, its land, what it keeps, and how often it was built
pub record Meaning : Type 0 where
  pub kind : Kind
  pub land : Option Land
  pub facts : List Fact
  pub rebuilds : ℕ

-- it has forgotten all
abbrev pub cleared : Meaning → Meaning
cleared m = record m { land = None; facts = [] }

-- it was built from this land and these facts
abbrev pub built : Land → List Fact → Meaning → Meaning
built land facts m = record m { land = Some land; facts = kept_of m.kind facts }

-- it was built once more; the count stands still at the end of its type
abbrev pub one_more : ℕ → ℕ
one_more count = count + min 1 (2 ^ 64 - 1 - count)

abbrev pub counted : Meaning → Meaning
counted m = record m { rebuilds = one_more m.rebuilds }

-- it was told this
abbrev pub told : Meaning → Note → Meaning
told m note = record m { facts = noted m.kind m.facts note }

-- it has a land, and the note fits what it keeps
abbrev pub MayHear : Meaning → Note → Type 0
MayHear m note = MatchOption m.land ⊥ (λ land. NoteFits m.kind land m.facts note)

-- the points of an ask lie inside, its cells on the ground, and the entity of Seen is kept with a vision
abbrev pub AskFits : Land → List Fact → Ask → Type 0
AskFits land facts (ask.Open cell) = IsOnGround (size_of land) cell
AskFits land facts (ask.Free rect) = Unit {0}
AskFits land facts (ask.Way start goal) = IsTrue (is_inside (size_of land) start) × IsTrue (is_inside (size_of land) goal)
AskFits land facts (ask.Spot at) = IsTrue (is_inside (size_of land) at)
AskFits land facts (ask.Within at radius mask) = IsTrue (is_inside (size_of land) at)
AskFits land facts (ask.Seen id) = MatchOption (fact_with facts id) ⊥ (λ (fact : Fact). IsSome fact.vision)
AskFits land facts (ask.Watchers id) = Unit {0}
AskFits land facts (ask.Count owner) = Unit {0}

-- it has a land, and the ask is of its kind and fits
abbrev pub MayAnswer : Meaning → Ask → Type 0
MayAnswer m a = MatchOption m.land ⊥ (λ land. (kind_for a ≡ m.kind) × AskFits land m.facts a)

-- the answer over its land and facts
abbrev pub IsAnswer : Meaning → Ask → Answer → Type 0
IsAnswer m a given = MatchOption m.land ⊥ (λ land. given ≡ answer land m.facts a)

-- the asks that are always answered
abbrev pub NeedsNoMemory : Ask → Type 0
NeedsNoMemory (ask.Open cell) = Unit {0}
NeedsNoMemory (ask.Free rect) = Unit {0}
NeedsNoMemory (ask.Way start goal) = ⊥
NeedsNoMemory (ask.Spot at) = ⊥
NeedsNoMemory (ask.Within at radius mask) = ⊥
NeedsNoMemory (ask.Seen id) = ⊥
NeedsNoMemory (ask.Watchers id) = ⊥
NeedsNoMemory (ask.Count owner) = Unit {0}

-- the same of an ask to a scene, where the entity of Seen is alive and can attack
abbrev pub MayAsk : Setup → State → Ask → Type 0
MayAsk setup state (ask.Open cell) = IsOnGround (size_of setup.land) cell
MayAsk setup state (ask.Free rect) = Unit {0}
MayAsk setup state (ask.Way start goal) = IsTrue (is_inside (size_of setup.land) start) × IsTrue (is_inside (size_of setup.land) goal)
MayAsk setup state (ask.Spot at) = IsTrue (is_inside (size_of setup.land) at)
MayAsk setup state (ask.Within at radius mask) = IsTrue (is_inside (size_of setup.land) at)
MayAsk setup state (ask.Seen id) = MatchOption (row_of state id) ⊥ (λ (row : Row). IsSome (arms_of setup row))
MayAsk setup state (ask.Watchers id) = Unit {0}
MayAsk setup state (ask.Count owner) = Unit {0}

-- the systems of a match
pub record Systems : Type 0 where
  pub ground : Meaning
  pub range : Meaning
  pub watch : Meaning
  pub census : Meaning

-- these four
abbrev pub four : Meaning → Meaning → Meaning → Meaning → Systems
four ground range watch census = record { ground = ground; range = range; watch = watch; census = census }

-- all have forgotten all
abbrev pub all_cleared : Systems → Systems
all_cleared s = four (cleared s.ground) (cleared s.range) (cleared s.watch) (cleared s.census)

-- each is in its place
pub record HaveKinds (s : Systems) : Type 0 where
  pub ground : s.ground.kind ≡ Ground
  pub range : s.range.kind ≡ Range
  pub watch : s.watch.kind ≡ Watch
  pub census : s.census.kind ≡ Census

-- a system of this kind has the land of the match, and keeps what its kind keeps of the state
pub record IsFed (kind : Kind) (setup : Setup) (state : State) (m : Meaning) : Type 0 where
  pub kinds : m.kind ≡ kind
  pub land : m.land ≡ Some setup.land
  pub facts : m.facts ≡ facts_of kind setup state

-- each of the four does so
pub record AreFed (setup : Setup) (state : State) (s : Systems) : Type 0 where
  pub ground : IsFed Ground setup state s.ground
  pub range : IsFed Range setup state s.range
  pub watch : IsFed Watch setup state s.watch
  pub census : IsFed Census setup state s.census

-- none was built since
pub record HaveSameRebuilds (s t : Systems) : Type 0 where
  pub ground : t.ground.rebuilds ≡ s.ground.rebuilds
  pub range : t.range.rebuilds ≡ s.range.rebuilds
  pub watch : t.watch.rebuilds ≡ s.watch.rebuilds
  pub census : t.census.rebuilds ≡ s.census.rebuilds

-- each was built once
pub record AreBuiltOnce (s t : Systems) : Type 0 where
  pub ground : t.ground.rebuilds ≡ one_more s.ground.rebuilds
  pub range : t.range.rebuilds ≡ one_more s.range.rebuilds
  pub watch : t.watch.rebuilds ≡ one_more s.watch.rebuilds
  pub census : t.census.rebuilds ≡ one_more s.census.rebuilds

-- it was built once or not at all
pub record IsBuiltOnceAtMost (m n : Meaning) : Type 0 where
  pub low : m.rebuilds ≤ n.rebuilds
  pub high : n.rebuilds ≤ m.rebuilds + 1

-- each was built once or not at all
pub record AreBuiltOnceAtMost (s t : Systems) : Type 0 where
  pub ground : IsBuiltOnceAtMost s.ground t.ground
  pub range : IsBuiltOnceAtMost s.range t.range
  pub watch : IsBuiltOnceAtMost s.watch t.watch
  pub census : IsBuiltOnceAtMost s.census t.census
