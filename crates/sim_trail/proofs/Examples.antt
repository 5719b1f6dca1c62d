-- Worked examples of marks that change.
use Rattle.{sim_trail.specs.{declared.{mark.Mark.Mark, shift.Shift.TheVariants.{Born, Gone}}, Shifts.shifts_between}, std.proofs.Common.{refl, ℕ, [], ◌∷◌, ◌≡◌}}

-- an entity of template 1 in a cell
abbrev one : ℕ → ℕ → ℕ → ℕ → Mark
one id x z owner = record { id = id; cell = record { x = x; z = z }; owner = owner; template = 1 }

-- all that stands at the beginning is born
begins : shifts_between [] (one 2 5 5 1 ∷ one 7 0 0 2 ∷ []) ≡ Born (one 2 5 5 1) ∷ Born (one 7 0 0 2) ∷ []
unfolding shifts_between
begins = refl

-- 2 stays, 3 goes to another cell, 4 is gone, 5 changes its owner, and 6 is new
in_one_turn : shifts_between (one 2 1 1 1 ∷ one 3 1 1 1 ∷ one 4 1 1 1 ∷ one 5 1 1 1 ∷ []) (one 2 1 1 1 ∷ one 3 2 1 1 ∷ one 5 1 1 2 ∷ one 6 9 9 0 ∷ [])
    ≡ Gone (one 3 1 1 1) ∷ Born (one 3 2 1 1) ∷ Gone (one 4 1 1 1) ∷ Gone (one 5 1 1 1) ∷ Born (one 5 1 1 2) ∷ Born (one 6 9 9 0) ∷ []
unfolding shifts_between
in_one_turn = refl

-- nothing is told of marks that are the same
nothing : shifts_between (one 2 1 1 1 ∷ one 3 1 1 1 ∷ []) (one 2 1 1 1 ∷ one 3 1 1 1 ∷ []) ≡ []
unfolding shifts_between
nothing = refl
