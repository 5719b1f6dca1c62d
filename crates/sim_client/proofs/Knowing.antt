-- What is known of a turn, put there twice; and that players of the match gave it.
use Rattle.{sim_base.specs.Limits.IsFrom, std.proofs.lemmas.Bool.and_parts, std.proofs.lemmas.Bool.leb-true, std.specs.Prelude.nat_le}
use Rattle.sim_client.proofs.Common.{Known, known_in, ltb-true, PlayerCommand, put, Setup, subst, sym}
use Rattle.sim_client.proofs.Common.{◌≡◌, ℕ, Bool, true, false, ◌&&◌, List, if◌then◌else◌, nat_lt, ◌==◌, All, refl, AreByPlayers, arith, is_client, IsOrderOf}

-- only the last one counts
pub put_again : {X : Type 0} (n : ℕ) (x y : X) (f : ℕ → X) → put n x (put n y f) ≡ put n x f
put_again n x y f = λ i m. by (m == n) (f m) i
  where
    by : (b : Bool) (z : _) → (if b then x else (if b then y else z)) ≡ (if b then x else z)
    by true z = refl
    by false z = refl

-- other commands of a turn, by players too
pub players_put : (setup : Setup) (old new : Known) (n : ℕ) (orders : List PlayerCommand) → known_in new ≡ put n orders (known_in old) → AreByPlayers setup old
    → All (IsOrderOf setup) orders →
    AreByPlayers setup new
players_put setup old new n orders is all these = λ t. subst (All (IsOrderOf setup)) (sym (λ i. is i t)) (by t (t == n))
  where
    by : (t : ℕ) (b : Bool) → All (IsOrderOf setup) (if b then orders else known_in old t)
    by t true = these
    by t false = all t

-- the second of two tests that hold is that of a player of the match
pub player_of_test : (a : Bool) (setup : Setup) (n : ℕ) → (a && is_client setup n) ≡ true → IsFrom 1 setup.players n
player_of_test a setup n h =
    let tests = and_parts (nat_lt 0 n) (nat_le n setup.players) (and_parts a (is_client setup n) h).1 in
    let low = ltb-true 0 n tests.0 in
    (omega (arith, low), leb-true n setup.players tests.1)
