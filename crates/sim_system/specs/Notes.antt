-- What a note makes of the facts that a system keeps, and when it fits them.
use Rattle.sim_base.specs.declared.change.Change.TheVariants as change
use Rattle.sim_base.specs.{Commands.{new_row, watchers}, declared.{change.Change.Change, place.{Point.Point, Rect.Rect}, setup.{Land.Land, Setup.Setup}}}
use Rattle.sim_base.specs.declared.{state.{Row.Row, State.State}, template.{Arms.Arms, Template.Template}}
use Rattle.sim_base.specs.{Limits.{IsFrom, IsRawFrom}, Places.{is_inside, rect_of}, Rows.{arms_of, rect_of_row, row_of, size_of, target_of}}
use Rattle.sim_system.specs.declared.{fact.Fact.Fact, kind.Kind.{Kind, TheVariants.{Census, Ground, Range, Watch}}}
use Rattle.{sim_system.specs.declared.note.Note.{Note, TheVariants.{Aimed, Born, Gone, Moved, Owned}}, std.specs.List.Sorted.IsStrictlyIncreasing}
use Rattle.std.specs.Prelude.{All, Bool, false, filter, filter_map, find, IfSome, if◌then◌else◌, is_some, IsTrue, length, List, map, nat_lt, None, not, Option}
use Rattle.std.specs.Prelude.{option_map, pos, slice_get, Some, true, unwrap_or, ℕ, ℤ, [], ◌++◌, ◌<◌, ◌==◌, ◌||◌, ◌∷◌, ◌≡◌, ◌≤◌}

-- What each kind of system keeps of a state.

-- how far a row sees, if it can attack
abbrev pub vision_of : Setup → Row → Option ℤ
vision_of setup row = option_map (λ (arms : Arms). arms.vision) (arms_of setup row)

-- a row as the systems see it
abbrev pub fact_of : Setup → Row → Fact
fact_of setup row =
    record {
      id = row.id;
      at = row.at;
      owner = row.owner;
      health = is_some row.health;
      vision = vision_of setup row;
      rect = rect_of_row setup row;
      target = target_of row;
    }

abbrev pub id_of_fact : Fact → ℕ
id_of_fact fact = fact.id

-- whether a kind keeps anything of an entity
abbrev pub keeps : Kind → Fact → Bool
keeps Ground fact = is_some fact.rect
keeps Range fact = fact.health || is_some fact.vision
keeps Watch fact = not (fact.target == 0)
keeps Census fact = true

-- stands in a fact for a place that is not kept
abbrev pub origin : Point
origin = record { x = pos 0; z = pos 0 }

-- what a kind keeps of an entity: its own fields, and in all others one fixed value
abbrev pub part_for : Kind → Fact → Fact
part_for Ground fact = record { id = fact.id; at = origin; owner = 0; health = false; vision = None; rect = fact.rect; target = 0 }
part_for Range fact = record { id = fact.id; at = fact.at; owner = fact.owner; health = fact.health; vision = fact.vision; rect = None; target = 0 }
part_for Watch fact = record { id = fact.id; at = origin; owner = 0; health = false; vision = None; rect = None; target = fact.target }
part_for Census fact = record { id = fact.id; at = origin; owner = fact.owner; health = false; vision = None; rect = None; target = 0 }

-- what a kind keeps of an entity, if anything
abbrev pub kept : Kind → Fact → Option Fact
kept kind fact = if keeps kind fact then Some (part_for kind fact) else None

-- what it keeps of several
abbrev pub kept_of : Kind → List Fact → List Fact
kept_of kind facts = filter_map (kept kind) facts

-- the rows as the systems see them
abbrev pub told_of : Setup → State → List Fact
told_of setup state = map (fact_of setup) state.rows

-- what a kind keeps of a state
abbrev pub facts_of : Kind → Setup → State → List Fact
facts_of kind setup state = kept_of kind (told_of setup state)

-- Which facts a system may be told.

-- the rectangle of an obstruction of 1 to 16 by 1 to 16 cells at a point
pub record IsRectAt (p : Point) (r : Rect) : Type 0 where
  pub width : ℕ
  pub depth : ℕ
  pub width_is : IsFrom 1 16 width
  pub depth_is : IsFrom 1 16 depth
  pub rect : r ≡ rect_of p width depth

-- each value of a fact is one that an entity of the land may have
pub record IsInRange (land : Land) (fact : Fact) : Type 0 where
  pub at : IsTrue (is_inside (size_of land) fact.at)
  pub owner : fact.owner < length land.masks
  pub vision : IfSome fact.vision (IsRawFrom 0 16777216)
  pub rect : IfSome fact.rect (IsRectAt fact.at)

-- there are at most 4096, ascending by id, each in range
pub record AreInRange (land : Land) (facts : List Fact) : Type 0 where
  pub few : length facts ≤ 4096
  pub ascending : IsStrictlyIncreasing (map id_of_fact facts)
  pub each : All (IsInRange land) facts

-- the fact of this id, if it is kept
abbrev pub fact_with : List Fact → ℕ → Option Fact
fact_with facts id = find (λ (fact : Fact). fact.id == id) facts

-- the facts but that of this id
abbrev pub without : ℕ → List Fact → List Fact
without id facts = filter (λ (fact : Fact). not (fact.id == id)) facts

-- the facts and one more, in its place by id
abbrev pub placed : Fact → List Fact → List Fact
placed fact [] = fact ∷ []
placed fact (first ∷ facts) = if nat_lt fact.id first.id then fact ∷ first ∷ facts else first ∷ placed fact facts

-- the facts and what is kept of one more
abbrev pub with_kept : Option Fact → List Fact → List Fact
with_kept None facts = facts
with_kept (Some fact) facts = placed fact facts

-- the fact of this id is changed
abbrev pub with_changed : ℕ → (Fact → Fact) → List Fact → List Fact
with_changed id changed facts = map (λ (fact : Fact). if fact.id == id then changed fact else fact) facts

-- the fact of an entity of which only its target is told
abbrev pub aim_of : ℕ → ℕ → Fact
aim_of id target = record { id = id; at = origin; owner = 0; health = false; vision = None; rect = None; target = target }

-- the facts after a move, which Range alone keeps
abbrev pub after_move : Kind → ℕ → Point → List Fact → List Fact
after_move Ground id to facts = facts
after_move Range id to facts = with_changed id (λ (fact : Fact). record fact { at = to }) facts
after_move Watch id to facts = facts
after_move Census id to facts = facts

-- the facts after a change of owner, which Range and Census keep
abbrev pub after_owner : Kind → ℕ → ℕ → List Fact → List Fact
after_owner Ground id to facts = facts
after_owner Range id to facts = with_changed id (λ (fact : Fact). record fact { owner = to }) facts
after_owner Watch id to facts = facts
after_owner Census id to facts = with_changed id (λ (fact : Fact). record fact { owner = to }) facts

-- the facts after an aim, which Watch alone keeps, and only while there is a target
abbrev pub after_aim : Kind → ℕ → ℕ → List Fact → List Fact
after_aim Ground id to facts = facts
after_aim Range id to facts = facts
after_aim Watch id to facts = with_kept (kept Watch (aim_of id to)) (without id facts)
after_aim Census id to facts = facts

-- the facts of a kind after a note
abbrev pub noted : Kind → List Fact → Note → List Fact
noted kind facts (Born fact) = with_kept (kept kind fact) facts
noted kind facts (Gone fact) = without fact.id facts
noted kind facts (Moved id from to) = after_move kind id to facts
noted kind facts (Owned id from to) = after_owner kind id to facts
noted kind facts (Aimed id from to) = after_aim kind id to facts

-- the target that is kept of an entity; one that is not kept has none
abbrev pub target_kept : List Fact → ℕ → ℕ
target_kept facts id = unwrap_or (option_map (λ (fact : Fact). fact.target) (fact_with facts id)) 0

-- a move fits where Range keeps the old place, if anything
abbrev pub MoveFits : Kind → Land → List Fact → ℕ → Point → Point → Type 0
MoveFits Ground land facts id from to = Unit {0}
MoveFits Range land facts id from to = IfSome (fact_with facts id) (λ (fact : Fact). fact.at ≡ from) × IsTrue (is_inside (size_of land) to)
MoveFits Watch land facts id from to = Unit {0}
MoveFits Census land facts id from to = Unit {0}

-- a change of owner fits where the old owner is kept, if anything
abbrev pub OwnerFits : Kind → Land → List Fact → ℕ → ℕ → ℕ → Type 0
OwnerFits Ground land facts id from to = Unit {0}
OwnerFits Range land facts id from to = IfSome (fact_with facts id) (λ (fact : Fact). fact.owner ≡ from) × (to < length land.masks)
OwnerFits Watch land facts id from to = Unit {0}
OwnerFits Census land facts id from to = IfSome (fact_with facts id) (λ (fact : Fact). fact.owner ≡ from) × (to < length land.masks)

-- an aim fits where the old target is kept
abbrev pub AimFits : Kind → List Fact → ℕ → ℕ → Type 0
AimFits Ground facts id from = Unit {0}
AimFits Range facts id from = Unit {0}
AimFits Watch facts id from = target_kept facts id ≡ from
AimFits Census facts id from = Unit {0}

-- what a note says of the old facts is what is kept, and its new values are in range
abbrev pub Agrees : Kind → Land → List Fact → Note → Type 0
Agrees kind land facts (Born fact) = IsInRange land fact × (fact_with facts fact.id ≡ None)
Agrees kind land facts (Gone fact) = fact_with facts fact.id ≡ kept kind fact
Agrees kind land facts (Moved id from to) = MoveFits kind land facts id from to
Agrees kind land facts (Owned id from to) = OwnerFits kind land facts id from to
Agrees kind land facts (Aimed id from to) = AimFits kind facts id from

-- a note fits the facts of a kind: it agrees with them, and leaves at most 4096
pub record NoteFits (kind : Kind) (land : Land) (facts : List Fact) (note : Note) : Type 0 where
  pub agrees : Agrees kind land facts note
  pub few : length (noted kind facts note) ≤ 4096

-- The notes that a change posts, and to which systems.

-- a move goes to Range
abbrev pub hears_moves : Kind → Bool
hears_moves Ground = false
hears_moves Range = true
hears_moves Watch = false
hears_moves Census = false

-- a change of owner goes to Range and Census
abbrev pub hears_owners : Kind → Bool
hears_owners Ground = false
hears_owners Range = true
hears_owners Watch = false
hears_owners Census = true

-- an aim goes to Watch
abbrev pub hears_aims : Kind → Bool
hears_aims Ground = false
hears_aims Range = false
hears_aims Watch = true
hears_aims Census = false

-- the table of subscriptions: a birth and a leaving go to all four
abbrev pub hears : Kind → Note → Bool
hears kind (Born fact) = true
hears kind (Gone fact) = true
hears kind (Moved id from to) = hears_moves kind
hears kind (Owned id from to) = hears_owners kind
hears kind (Aimed id from to) = hears_aims kind

-- the notes on a row that is alive
abbrev pub posts_on : Option Row → (Row → List Note) → List Note
posts_on None notes = []
posts_on (Some row) notes = notes row

-- the note on a row that is made of a known template
abbrev pub posts_born : Setup → Option Row → List Note
posts_born setup None = []
posts_born setup (Some row) = Born (fact_of setup row) ∷ []

-- the row that is made, if the template is known
abbrev pub row_made : Setup → State → ℕ → Point → ℕ → Option Row
row_made setup state number p owner = option_map (λ (template : Template). new_row state.next number p owner template) (slice_get setup.templates number)

-- the notes of a change, in order: where a row leaves, those who aimed at it are let go first
abbrev pub posts : Setup → State → Change → List Note
posts setup state (change.Move id p) = posts_on (row_of state id) (λ (row : Row). Moved id row.at p ∷ [])
posts setup state (change.Motion id motion) = []
posts setup state (change.Attack id aim) = posts_on (row_of state id) (λ (row : Row). Aimed id (target_of row) aim.target ∷ [])
posts setup state (change.Health id health) = []
posts setup state (change.Owner id owner) = posts_on (row_of state id) (λ (row : Row). Owned id row.owner owner ∷ [])
posts setup state (change.Remove id) = map (λ watcher. Aimed watcher id 0) (watchers state id) ++ posts_on (row_of state id)
    (λ (row : Row). Gone (fact_of setup row) ∷ [])
posts setup state (change.Create number p owner) = posts_born setup (row_made setup state number p owner)
posts setup state (change.Word word) = []
posts setup state change.Tick = []
