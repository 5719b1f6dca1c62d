-- A flood that labels one region after another.
use Rattle.sim_search.specs.{Common.{Cell, Field, IsOnGround, IsStep, neighbour, place_of, Size, Walk}, declared.labels.{Flood.Flood, Labels.Labels}}
use Rattle.{sim_search.specs.{declared.{region.Window.Window, table.Table.Table}, Queues.entry_at}, std.specs.{Option.{is_none, is_some}, Prelude.Bool}}
use Rattle.std.specs.Prelude.{Contains, count_by, false, length, List, None, Option, slice_set, Some, true, ℕ, [], ◌*◌, ◌++◌, ◌+◌, ◌<◌, ◌∷◌, ◌≡◌, ◌≢◌, ◌≤◌, ◌⊎◌}

-- Regions: the cells that steps to the east, north, west and south over open cells join.

-- a straight step between neighbours that leads to an open cell
pub record IsOpenStep (field : Field) (a b : Cell) : Type 0 where
  pub which : ℕ
  pub straight : which < 4
  pub leads : neighbour field.size a which ≡ Some b
  pub free : field.is_open b ≡ true

-- steps over open cells join the second cell to the first, which is open too
pub data IsJoined (field : Field) (a : Cell) : Cell → Type 0 where
  alone : IsOnGround field.size a → field.is_open a ≡ true → IsJoined field a a
  on : {b c : Cell} → IsJoined field a b → IsOpenStep field b c → IsJoined field a c

-- the label of an open cell is the least place of the cells that are joined to it
pub record IsLabel (field : Field) (c : Cell) (label : ℕ) : Type 0 where
  pub first : Cell
  pub joined : IsJoined field c first
  pub place : place_of field.size first ≡ label
  pub least : (e : Cell) → IsJoined field c e → label ≤ place_of field.size e

-- each open cell of the ground has its label, and no other cell has one
pub record AreLabels (field : Field) (label : Cell → Option ℕ) : Type 0 where
  pub sound : (c : Cell) (l : ℕ) → label c ≡ Some l → IsLabel field c l
  pub all : (c : Cell) → IsOnGround field.size c → field.is_open c ≡ true → (l : ℕ) × (label c ≡ Some l)

-- some walk leads to the cell
pub record IsReached (field : Field) (start c : Cell) : Type 0 where
  pub cost : ℕ
  pub walk : Walk (IsStep field start) start c cost

-- the start, or a cell to its east, north, west or south
pub data IsShore (field : Field) (start : Cell) : Cell → Type 0 where
  itself : IsShore field start start
  beside : {c : Cell} → (which : ℕ) → which < 4 → neighbour field.size start which ≡ Some c → IsShore field start c

-- the cell has the label of an open cell that is the start or lies beside it
pub record HasShoreLabel (field : Field) (label : Cell → Option ℕ) (start c : Cell) : Type 0 where
  pub shore : Cell
  pub is_shore : IsShore field start shore
  pub value : ℕ
  pub of_shore : label shore ≡ Some value
  pub of_cell : label c ≡ Some value

-- The law of labels: a cell other than the start is reached just where it has the label of an open cell that is the start or lies beside it.
pub record LabelsTellReached (field : Field) (label : Cell → Option ℕ) (start : Cell) : Type 0 where
  pub reached : (c : Cell) → (c ≡ start → ⊥) → IsReached field start c → HasShoreLabel field label start c
  pub back : (c : Cell) → HasShoreLabel field label start c → IsReached field start c

-- Numbers by cells.

abbrev pub size_in : Table → Size
size_in t = record { width = t.width; depth = t.depth }

-- where a cell stands in the list
abbrev pub place_at : Table → Cell → ℕ
place_at t c = place_of (size_in t) c

-- the number of a cell, if it has one
abbrev pub entry_in : Table → Cell → Option ℕ
entry_in t c = entry_at None (size_in t) t.items.items c

-- one cell has another number, and the others keep theirs
pub record IsEntered (old new : Table) (cell : Cell) (number : ℕ) : Type 0 where
  pub size : size_in new ≡ size_in old
  pub here : entry_in new cell ≡ Some number
  pub elsewhere : (c : Cell) → c ≢ cell → entry_in new c ≡ entry_in old c
  pub items_are : new.items.items ≡ slice_set old.items.items (place_at old cell) (Some number)

-- the label of a cell, if it has one
abbrev pub label_in : Labels → Cell → Option ℕ
label_in labels = entry_in labels.table

-- the cell has a label
abbrev pub HasLabel : Table → Cell → Type 0
HasLabel t c = (l : ℕ) × (entry_in t c ≡ Some l)

-- no cell but those that wait is late
abbrev pub is_none_late : Cell → Type 0
is_none_late c = ⊥

-- the neighbours of this cell were not all looked at
abbrev pub is_late : Cell → Cell → Type 0
is_late from c = c ≡ from

-- how many cells have no label
abbrev pub unlabelled : Flood → ℕ
unlabelled s = count_by is_none s.table.items.items

-- how much is left to do at most
abbrev pub work_left : Flood → ℕ
work_left s = 2 * unlabelled s + length s.waiting.items

-- Each label is right, the cells that wait have this one, and the open neighbours of a labelled cell have labels unless it waits or is late.
pub record Floods (field : Field) (s : Flood) (label : ℕ) (Late : Cell → Type 0) : Type 0 where
  pub size_is : size_in s.table ≡ field.size
  pub sound : (c : Cell) (l : ℕ) → entry_in s.table c ≡ Some l → IsLabel field c l
  pub stacked : (c : Cell) → Contains s.waiting.items c → entry_in s.table c ≡ Some label
  pub closed : (c : Cell) (l : ℕ) → entry_in s.table c ≡ Some l → Contains s.waiting.items c ⊎ Late c ⊎ ((e : Cell) → IsOpenStep field c e → HasLabel s.table e)

-- all cells before a place are labelled if they are open, and with each cell its whole region
pub record Flooded (field : Field) (s : Flood) (n : ℕ) : Type 0 where
  pub size_is : size_in s.table ≡ field.size
  pub none_wait : s.waiting.items ≡ []
  pub sound : (c : Cell) (l : ℕ) → entry_in s.table c ≡ Some l → IsLabel field c l
  pub closed : (c : Cell) (l : ℕ) → entry_in s.table c ≡ Some l → (e : Cell) → IsOpenStep field c e → HasLabel s.table e
  pub past : (c : Cell) → IsOnGround field.size c → place_of field.size c < n → field.is_open c ≡ true → HasLabel s.table c

-- the cell is closed or has a label, and nothing changed
pub record IsPassed (field : Field) (old new : Flood) (cell : Cell) : Type 0 where
  pub has : field.is_open cell ≡ true → HasLabel old.table cell
  pub same : new ≡ old

-- the cell was open and had no label, and has this one now and waits
pub record IsMarked (field : Field) (old new : Flood) (cell : Cell) (label : ℕ) : Type 0 where
  pub is_open : field.is_open cell ≡ true
  pub had_none : entry_in old.table cell ≡ None
  pub size_is : size_in new.table ≡ size_in old.table
  pub here : entry_in new.table cell ≡ Some label
  pub elsewhere : (c : Cell) → c ≢ cell → entry_in new.table c ≡ entry_in old.table c
  pub waits : new.waiting.items ≡ old.waiting.items ++ cell ∷ []
  pub less : work_left new + 1 ≡ work_left old

abbrev pub Marks : Field → Flood → Flood → Cell → ℕ → Type 0
Marks field old new cell label = IsPassed field old new cell ⊎ IsMarked field old new cell label

-- labels stay, and no more is left to do
pub record Spreads (old new : Flood) : Type 0 where
  pub keeps : (c : Cell) (l : ℕ) → entry_in old.table c ≡ Some l → entry_in new.table c ≡ Some l
  pub less : work_left new ≤ work_left old

-- labels stay, and no cell waits
pub record Fills (old new : Flood) : Type 0 where
  pub keeps : (c : Cell) (l : ℕ) → entry_in old.table c ≡ Some l → entry_in new.table c ≡ Some l
  pub none_wait : new.waiting.items ≡ []

-- Labels of a ground on which some cells were closed or opened.

-- a ground of which the cells with a label are open
abbrev pub labelled : Size → (Cell → Option ℕ) → Field
labelled size label = record { size = size; is_open = λ c. is_some (label c) }

-- one ground has the open cells of another and these cells, which are closed on the other
pub record IsMore (more less : Field) (cells : List Cell) : Type 0 where
  pub size : more.size ≡ less.size
  pub keeps : (c : Cell) → IsOnGround less.size c → less.is_open c ≡ true → more.is_open c ≡ true
  pub listed : (c : Cell) → IsOnGround less.size c → more.is_open c ≡ true → less.is_open c ≡ false → Contains cells c
  pub on : (c : Cell) → Contains cells c → IsOnGround less.size c
  pub opens : (c : Cell) → Contains cells c → more.is_open c ≡ true
  pub closed : (c : Cell) → Contains cells c → less.is_open c ≡ false

-- the labels have room for a cell
abbrev pub HasRoom : Labels → Cell → Type 0
HasRoom labels c = IsOnGround (size_in labels.table) c

-- one cell has no number any more, and the others keep theirs
pub record IsEmptied (old new : Table) (cell : Cell) : Type 0 where
  pub size : size_in new ≡ size_in old
  pub here : entry_in new cell ≡ None
  pub elsewhere : (c : Cell) → c ≢ cell → entry_in new c ≡ entry_in old c

-- these cells have no label any more, and the others keep theirs
pub record AreForgotten (old new : Labels) (cells : List Cell) : Type 0 where
  pub here : (c : Cell) → Contains cells c → label_in new c ≡ None
  pub elsewhere : (c : Cell) → (label_in new c ≡ label_in old c) ⊎ Contains cells c

-- these cells have this label, and the others keep theirs
pub record AreGiven (old new : Labels) (cells : List Cell) (label : ℕ) : Type 0 where
  pub here : (c : Cell) → Contains cells c → label_in new c ≡ Some label
  pub elsewhere : (c : Cell) → (label_in new c ≡ label_in old c) ⊎ Contains cells c

-- a cell of a window
pub record IsInside (w : Window) (c : Cell) : Type 0 where
  pub west : w.west ≤ c.x
  pub east : c.x < w.east
  pub south : w.south ≤ c.z
  pub north : c.z < w.north

-- the open cells beside one that lie in a window were added to a list, and no other
pub record AreAdded (field : Field) (w : Window) (from : Cell) (old new : List Cell) : Type 0 where
  pub each : (c : Cell) → Contains new c → Contains old c ⊎ IsOpenStep field from c
  pub keeps : (c : Cell) → Contains old c → Contains new c
  pub all : (c : Cell) → IsOpenStep field from c → IsInside w c → Contains new c

-- open cells of the ground
abbrev pub AreOpen : Field → List Cell → Type 0
AreOpen field cells = (c : Cell) → Contains cells c → IsOnGround field.size c × (field.is_open c ≡ true)

-- the open cells beside some
pub record IsRim (field : Field) (cells rim : List Cell) : Type 0 where
  pub are_open : AreOpen field rim
  pub all : (a b : Cell) → Contains cells a → IsOpenStep field a b → Contains rim b

-- any two of these cells are joined
abbrev pub AreJoined : Field → List Cell → Type 0
AreJoined field cells = (a b : Cell) → Contains cells a → Contains cells b → IsJoined field a b

-- the cell is not the first of its region
abbrev pub IsNotFirst : Size → (Cell → Option ℕ) → Cell → Type 0
IsNotFirst size label c = label c ≡ Some (place_of size c) → ⊥

-- the cells of a rim are joined, and none of these cells is the first of its region, or the rim has none
pub record AreOthersKept (field : Field) (label : Cell → Option ℕ) (cells rim : List Cell) : Type 0 where
  pub joined : AreJoined field rim
  pub first : ((c : Cell) → Contains cells c → IsNotFirst field.size label c) ⊎ ((b : Cell) → Contains rim b → ⊥)

-- a cell beside this one has this label
pub record IsNextTo (size : Size) (label : Cell → Option ℕ) (value : ℕ) (c : Cell) : Type 0 where
  pub which : ℕ
  pub straight : which < 4
  pub beside : Cell
  pub leads : neighbour size c which ≡ Some beside
  pub has : label beside ≡ Some value

-- a cell beside one of these has this label
pub record IsBeside (size : Size) (label : Cell → Option ℕ) (cells : List Cell) (value : ℕ) : Type 0 where
  pub from : Cell
  pub listed : Contains cells from
  pub next : IsNextTo size label value from

-- no cell beside one has another label
abbrev pub AreAlike : Size → (Cell → Option ℕ) → ℕ → Cell → Type 0
AreAlike size label value c = (which : ℕ) (b : Cell) (l : ℕ) → which < 4 → neighbour size c which ≡ Some b → label b ≡ Some l → l ≡ value

-- a cell may have a label: its place is not less, and no cell beside it has another
pub record Suits (labels : Labels) (size : Size) (value : ℕ) (c : Cell) : Type 0 where
  pub room : HasRoom labels c
  pub least : value ≤ place_of size c
  pub alike : AreAlike size (label_in labels) value c

-- the labels are right now, or it was given up and nothing changed
pub record Mends (field : Field) (old new : Labels) (done : Bool) : Type 0 where
  pub mended : done ≡ true → AreLabels field (label_in new)
  pub same : done ≡ false → new ≡ old

-- What the law of labels says.

-- labels tell which cells a walk from the start reaches
abbrev pub LabelsTell : Type 0
LabelsTell = (field : Field) (label : Cell → Option ℕ) (start : Cell) → IsOnGround field.size start → AreLabels field label
    → LabelsTellReached field label start

-- a cell of the ground has no label just where it is closed
abbrev pub NoLabelIsClosed : Type 0
NoLabelIsClosed =
    (field : Field) (label : Cell → Option ℕ) (c : Cell) → AreLabels field label → IsOnGround field.size c
    → (label c ≡ None → field.is_open c ≡ false) × (field.is_open c ≡ false → label c ≡ None)
