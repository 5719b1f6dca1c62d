-- Levels of values, and the test on them.
use Rattle.sim_tree.proofs.Common.{string}
use Rattle.sim_tree.proofs.Common.{◌≡◌, ℕ, suc, ◌-◌, ◌<◌, max, true, false, nat_lt, refl, arith, array, boolean, Data, height, nat_tests, null, number, object}

pub first_level : (d : Data) → nat_lt 0 (height d) ≡ true
first_level null = refl
first_level (boolean b) = refl
first_level (number x) = refl
first_level (string s) = refl
first_level (array ds) = grind (arith, nat_tests)
first_level (object ms) = grind (arith, nat_tests)

pub deeper : (n h : ℕ) → 0 < n → nat_lt n (suc h) ≡ nat_lt (n - 1) h
deeper n h e = grind (arith, nat_tests)

pub one_level : (n : ℕ) → 0 < n → nat_lt n 1 ≡ false
one_level n e = grind (arith, nat_tests)

pub either : (n a b : ℕ) → nat_lt n a ≡ true → nat_lt n (max a b) ≡ true
either n a b e = grind (arith, nat_tests)

pub other : (n a b : ℕ) → nat_lt n a ≡ false → nat_lt n (max a b) ≡ nat_lt n b
other n a b e = grind (arith, nat_tests)
