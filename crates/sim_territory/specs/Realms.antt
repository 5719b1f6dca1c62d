-- What contracts see of a realm.
use Rattle.std.specs.Prelude.{ℕ, List, map}
use Rattle.sim_territory.specs.{Common.cells_of, Common.Mark, Common.marks_of, Common.Setup, Common.size_of, Common.State, Holders.holder, Influence.influence}

-- a match, and the marks of the state that was followed last
pub record RealmOf : Type 0 where
  pub setup : Setup
  pub marks : List Mark

-- the realm of a state
abbrev pub realm_of : Setup → State → RealmOf
realm_of setup state = record { setup = setup; marks = marks_of state }

-- the influence of a player at each cell by z, then x
abbrev pub influences_in : RealmOf → ℕ → List ℕ
influences_in realm player = map (influence realm.setup realm.marks player) (cells_of (size_of realm.setup.land))

-- the holder of each cell by z, then x
abbrev pub holders_in : RealmOf → List ℕ
holders_in realm = map (holder realm.setup realm.marks) (cells_of (size_of realm.setup.land))
