-- Lists, what holds of each of their elements, and what is at a place.
use Rattle.sim_merge.proofs.Common.{◌≡◌, ℕ, ◌<◌, Bool, true, false, List, length, get_or, refl, list_all, list_all_at, sym, true≢false, ◌∙◌}

-- a test that every element passes is passed at each place
pub list_all-get_or : {X : Type 0} (p : X → Bool) (xs : List X) (i : ℕ) (d : X) → i < length xs → list_all p xs ≡ true → p (get_or xs i d) ≡ true
list_all-get_or p xs i d within all = by (p (get_or xs i d)) refl
  where
    by : (b : Bool) → p (get_or xs i d) ≡ b → p (get_or xs i d) ≡ true
    by true is = is
    by false is = absurd (true≢false (sym all ∙ list_all_at p xs i d within is))
