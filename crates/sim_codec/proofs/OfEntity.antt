-- What is said of an entity other than the first, by its row.
use Rattle.{sim_base.specs.Rows.row_of, sim_codec.proofs.Common.{bits, List, ne_eqb, None, Option, Part, Row, row_bits, Some, State, ℕ, ◌≡◌}}

pub bits_there : (state : State) (entity : ℕ) (part : Part) (x : Row) (answer : Option (List ℕ)) → (entity ≡ 1 → ⊥) → row_of state entity ≡ Some x
    → answer ≡ row_bits part x → answer ≡ bits state entity part
bits_there state entity part x answer differs found says = rw (ne_eqb entity 1 differs, found) says

pub bits_absent : (state : State) (entity : ℕ) (part : Part) (answer : Option (List ℕ)) → (entity ≡ 1 → ⊥) → row_of state entity ≡ None → answer ≡ None
    → answer ≡ bits state entity part
bits_absent state entity part answer differs found says = rw (ne_eqb entity 1 differs, found) says
