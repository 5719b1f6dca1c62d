-- Rows that were tested one after the other are those of a valid state.
use Rattle.sim_codec.proofs.Common.{IsKnownRow, IsStrictlyIncreasing, IsValid, recursion_from_All, Row, row_limit, Setup, State}
use Rattle.sim_codec.proofs.Common.{ℕ, ◌^◌, ◌<◌, ◌≤◌, Bool, ◌↔◌, List, [], ◌∷◌, map, length, IsTrue, All, All-from_recursion, AllByRecursion, AreGood, id_of}

module _ (setup : Setup) (all : List Row) (next : ℕ) where
  abbrev IsBelow : Row → Type 0
  IsBelow row = (2 ≤ row.id) × (row.id < next)

  below : (rows : List Row) → AreGood setup all next rows → AllByRecursion IsBelow rows
  below [] good = tt
  below (row ∷ rows) good = (good.0.0, below rows good.1)

  known : (rows : List Row) → AreGood setup all next rows → AllByRecursion (IsKnownRow 1 setup all) rows
  known [] good = tt
  known (row ∷ rows) good = (good.0.1, known rows good.1)

  good : (rows : List Row) → AllByRecursion IsBelow rows → AllByRecursion (IsKnownRow 1 setup all) rows → AreGood setup all next rows
  good [] ids rows' = tt
  good (row ∷ rows) ids rows' = ((ids.0, rows'.0), good rows ids.1 rows'.1)

  pub good_all : (rows : List Row) → AreGood setup all next rows ↔ (All IsBelow rows × All (IsKnownRow 1 setup all) rows)
  good_all rows = (
    λ h. (All-from_recursion IsBelow rows (below rows h), All-from_recursion (IsKnownRow 1 setup all) rows (known rows h)),
    λ h. good rows (recursion_from_All IsBelow rows h.0) (recursion_from_All (IsKnownRow 1 setup all) rows h.1),
  )

abbrev Clock : Setup → State → Type 0
Clock setup s = (s.turn ≤ setup.turns) × ((2 ≤ s.next) × (s.next ≤ 0x20000000)) × (s.word < 2 ^ 48)

pub valid_of : (setup : Setup) (s : State) (answer : Bool) → Clock setup s → length s.rows ≤ row_limit
    → (IsTrue answer ↔ (IsStrictlyIncreasing (map id_of s.rows) × AreGood setup s.rows s.next s.rows))
    → (IsTrue answer → IsValid setup s) × (IsValid setup s → IsTrue answer)
valid_of setup s answer clock few says = (
  λ h. (
      let rows = says.0 h in
      let good = (good_all setup s.rows s.next s.rows).0 rows.1 in
      record { turn = clock.0; next = clock.1; word = clock.2; few = few; ascending = rows.0; ids = good.0; rows = good.1 }
      ),
  λ v. says.1 (v.ascending, (good_all setup s.rows s.next s.rows).1 (v.ids, v.rows)),
)
