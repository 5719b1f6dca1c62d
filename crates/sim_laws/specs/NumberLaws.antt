-- What the laws of numbers say.
use Rattle.{sim_base.specs.Places.IsRoot, sim_base.specs.Places.root, std.specs.Prelude.ℕ, std.specs.Prelude.◌≡◌}

-- the square of the root is within the number, and no greater number's is
abbrev pub RootIsGreatest : Type 0
RootIsGreatest = (n : ℕ) → IsRoot n (root n)

-- and no other number is the root
abbrev pub RootIsUnique : Type 0
RootIsUnique = (n r : ℕ) → IsRoot n r → r ≡ root n
