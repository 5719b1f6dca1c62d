-- Worked examples of deeds, computed.
use Rattle.sim_stock.proofs.Common.{◌≡◌, ℕ, [], ◌∷◌, refl, Barter, deed, Stocks, Tribute}

-- the stocks of two players
two_have : ℕ → ℕ → ℕ → ℕ → Stocks
two_have food metal other_food other_metal =
    record { food = food ∷ other_food ∷ 0 ∷ 0 ∷ 0 ∷ 0 ∷ 0 ∷ 0 ∷ []; metal = metal ∷ other_metal ∷ 0 ∷ 0 ∷ 0 ∷ 0 ∷ 0 ∷ 0 ∷ [] }

-- 15 food go to the second player
a_tribute : deed (two_have 22 45 20 60) 1 (Tribute 2 0 15) ≡ two_have 7 45 35 60
unfolding two_have
a_tribute = refl

-- 40 food are not there
a_tribute_too_great : deed (two_have 11 31 22 3) 1 (Tribute 2 0 40) ≡ two_have 11 31 22 3
unfolding two_have
a_tribute_too_great = refl

-- four fifths of 7 food are 5.6 metal, rounded down to 5
a_barter : deed (two_have 11 65 45 2) 1 (Barter 0 7) ≡ two_have 4 70 45 2
unfolding two_have
a_barter = refl

-- four fifths of 11 food are 8.8 metal
another_barter : deed (two_have 50 0 0 0) 1 (Barter 0 11) ≡ two_have 39 8 0 0
unfolding two_have
another_barter = refl

-- 51 food are not there
a_barter_too_great : deed (two_have 50 0 0 0) 1 (Barter 0 51) ≡ two_have 50 0 0 0
unfolding two_have
a_barter_too_great = refl
