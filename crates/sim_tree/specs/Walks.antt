-- What is asked of all values within a value of JSON, wherever they stand: on which levels they lie, and whether a number
-- is not whole.
use Rattle.serde_json.specs.Data.{array, boolean, Data, item, Items, member, Members, no_items, no_members, null, number, object, string}
use Rattle.std.specs.Prelude.{Bool, List, Option, false, max, option_and_then, suc, ℕ, ℤ, ◌||◌}
use Rattle.{serde_json.specs.Find.is_float, sim_base.specs.NumberText.number_of, sim_tree.specs.Trees.Entry, sim_tree.specs.Trees.Node, sim_tree.specs.Trees.at}

abbrev mutual
  -- how many levels of values there are, the value itself being on the first
  pub height : Data → ℕ
  height null = 1
  height (boolean b) = 1
  height (number x) = 1
  height (string s) = 1
  height (array ds) = suc (items_height ds)
  height (object ms) = suc (members_height ms)

  pub items_height : Items → ℕ
  items_height no_items = 0
  items_height (item d ds) = max (height d) (items_height ds)

  pub members_height : Members → ℕ
  members_height no_members = 0
  members_height (member k d ms) = max (height d) (members_height ms)

abbrev mutual
  -- a number in it is not whole
  pub has_float : Data → Bool
  has_float null = false
  has_float (boolean b) = false
  has_float (number x) = is_float x
  has_float (string s) = false
  has_float (array ds) = items_float ds
  has_float (object ms) = members_float ms

  pub items_float : Items → Bool
  items_float no_items = false
  items_float (item d ds) = has_float d || items_float ds

  pub members_float : Members → Bool
  members_float no_members = false
  members_float (member k d ms) = has_float d || members_float ms

-- What is read at a path of a tree.

-- the value of what stands at a path
abbrev pub value_at : Node → List (List ℕ) → Option (List ℕ)
value_at n path = option_and_then (λ (entry : Entry). entry.value) (at n path)

-- the number that this value spells
abbrev pub number_at : Node → List (List ℕ) → Option ℤ
number_at n path = option_and_then number_of (value_at n path)
