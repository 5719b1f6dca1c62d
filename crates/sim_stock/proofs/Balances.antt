-- What deeds, prices and incomes make of all that there is.
use Rattle.sim_stock.proofs.Common.{[], affords, All, All-head, All-map, All-tail, amount_of, and_parts, AreBelow, arith, Barter, Bool, cond, DatedDeed, Deed}
use Rattle.sim_stock.proofs.Common.{deed, earned, false, find, gained, get_or, get_or-le-sum_by, if◌then◌else◌, IsAsked, IsDatedDeed, IsRate, IsStart, kind_of}
use Rattle.sim_stock.proofs.Common.{leb-true, List, map, NamedRate, nat_le, no_rate, opening, option_map, paid, range_with_len, Rate, rate_at, rate_named}
use Rattle.sim_stock.proofs.Common.{rates_of, refl, set, Some, spent, Stocks, subst, suc, sum, sum_by-cons, sum_by-le, sym, total, Tribute, true, unwrap_or}
use Rattle.sim_stock.proofs.Common.{unwrap_or-slice_get, zero, ℕ, ◌*◌, ◌+◌, ◌-◌, ◌/◌, ◌<◌, ◌==◌, ◌^◌, ◌∷◌, ◌≡◌, ◌≤◌}

-- one amount is at most the sum
at_most_sum : (xs : List ℕ) (i : ℕ) → get_or xs i 0 ≤ sum xs
at_most_sum [] i = omega arith
at_most_sum (x ∷ xs) zero = omega (arith, sum_by-cons (λ (y : ℕ). y) x xs)
at_most_sum (x ∷ xs) (suc i) = omega (arith, sum_by-cons (λ (y : ℕ). y) x xs, at_most_sum xs i)

-- an amount that rises
sum_more : (xs : List ℕ) (i a : ℕ) → sum (set xs i (get_or xs i 0 + a)) ≤ sum xs + a
sum_more [] i a = omega arith
sum_more (x ∷ xs) zero a = omega (arith, sum_by-cons (λ (y : ℕ). y) x xs, sum_by-cons (λ (y : ℕ). y) (x + a) xs)
sum_more (x ∷ xs) (suc i) a = omega (arith, sum_by-cons (λ (y : ℕ). y) x xs, sum_by-cons (λ (y : ℕ). y) x (set xs i (get_or xs i 0 + a)), sum_more xs i a)

-- an amount that falls
sum_less : (xs : List ℕ) (i a : ℕ) → a ≤ get_or xs i 0 → sum (set xs i (get_or xs i 0 - a)) + a ≤ sum xs
sum_less [] i a le = omega (arith, le)
sum_less (x ∷ xs) zero a le = omega (arith, le, sum_by-cons (λ (y : ℕ). y) x xs, sum_by-cons (λ (y : ℕ). y) (x - a) xs)
sum_less (x ∷ xs) (suc i) a le = omega (arith, sum_by-cons (λ (y : ℕ). y) x xs, sum_by-cons (λ (y : ℕ). y) x (set xs i (get_or xs i 0 - a)), sum_less xs i a le)

more_by : (b : Bool) (i a : ℕ) (q : Stocks) →
    total (if b then record q { food = set q.food i (get_or (if b then q.food else q.metal) i 0 + a) }
    else record q { metal = set q.metal i (get_or (if b then q.food else q.metal) i 0 + a) }) ≤ total q + a
more_by true i a q = omega (arith, sum_more q.food i a)
more_by false i a q = omega (arith, sum_more q.metal i a)

less_by : (b : Bool) (i a : ℕ) (q : Stocks) → a ≤ get_or (if b then q.food else q.metal) i 0 →
    total (if b then record q { food = set q.food i (get_or (if b then q.food else q.metal) i 0 - a) }
    else record q { metal = set q.metal i (get_or (if b then q.food else q.metal) i 0 - a) }) + a ≤ total q
less_by true i a q le = omega (arith, sum_less q.food i a le)
less_by false i a q le = omega (arith, sum_less q.metal i a le)

-- what one player gets, there is at most more
pub gained_total : (player good a : ℕ) (q : Stocks) → total (gained player good a q) ≤ total q + a
gained_total player good a q = more_by (good == 0) (player - 1) a q

-- what one player gives away, there is less
pub spent_total : (player good a : ℕ) (q : Stocks) → a ≤ amount_of player good q → total (spent player good a q) + a ≤ total q
spent_total player good a q le = less_by (good == 0) (player - 1) a q le

-- no player has more than there is
pub food_within : (q : Stocks) (i : ℕ) → get_or q.food i 0 ≤ total q
food_within q i = omega (arith, at_most_sum q.food i)

pub metal_within : (q : Stocks) (i : ℕ) → get_or q.metal i 0 ≤ total q
metal_within q i = omega (arith, at_most_sum q.metal i)

-- where all that there is is below a limit, each amount is
pub all_below : (limit : ℕ) (q : Stocks) → total q < limit → AreBelow limit q
all_below limit q below = record {
  food = λ k d lt. let within = get_or-le-sum_by (λ (y : ℕ). y) q.food k d lt in omega (arith, within, below);
  metal = λ k d lt. let within = get_or-le-sum_by (λ (y : ℕ). y) q.metal k d lt in omega (arith, within, below);
}

given_by : (b : Bool) (q new : Stocks) (player good a : ℕ) → nat_le a (amount_of player good q) ≡ b → (a ≤ amount_of player good q → total new ≤ total q) →
    total (if b then new else q) ≤ total q
given_by true q new player good a is then_is = then_is (leb-true a (amount_of player good q) is)
given_by false q new player good a is then_is = omega arith

-- a deed may be done on stocks that are below the limit
pub asked_for : (q : Stocks) (dated : DatedDeed) → IsDatedDeed dated → total q < 2 ^ 40 → IsAsked (kind_of dated.deed) q dated.player dated.deed
asked_for q dated is below = record { below = all_below (2 ^ 40) q below; player_is = is.player_is; kind_is = refl; deed_is = is.deed_is }

-- an income adds its two amounts at most
pub earned_total : (player : ℕ) (rate : Rate) (q : Stocks) → total (earned player rate q) ≤ total q + rate.food + rate.metal
earned_total player rate q = omega (arith, gained_total player 0 rate.food q, gained_total player 1 rate.metal (gained player 0 rate.food q))

-- no deed makes the stocks more
pub deed_total : (q : Stocks) (player : ℕ) (d : Deed) → total (deed q player d) ≤ total q
deed_total q player (Tribute other good a) =
    given_by (nat_le a (amount_of player good q)) q (gained other good a (spent player good a q)) player good a refl (λ le.
    omega (arith, spent_total player good a q le, gained_total other good a (spent player good a q)))
deed_total q player (Barter good a) =
    given_by (nat_le a (amount_of player good q)) q (gained player (1 - good) (a * 4 / 5) (spent player good a q)) player good a refl (λ le.
    omega (arith, spent_total player good a q le, gained_total player (1 - good) (a * 4 / 5) (spent player good a q)))

-- a price takes its two amounts away
pub paid_total : (player : ℕ) (rate : Rate) (q : Stocks) → affords player rate q ≡ true → total (paid player rate q) ≤ total q
paid_total player rate q can =
    let (food, metal) = and_parts (nat_le rate.food (amount_of player 0 q)) (nat_le rate.metal (amount_of player 1 q)) can in
    omega (
      arith,
      spent_total player 0 rate.food q (leb-true rate.food (amount_of player 0 q) food),
      spent_total player 1 rate.metal (spent player 0 rate.food q) (leb-true rate.metal (amount_of player 1 q) metal),
    )

-- Rates within a limit.

-- nothing is within every limit
none_limits : (limit : ℕ) → IsRate limit no_rate
none_limits limit = record { food = omega arith; metal = omega arith }

got_limits : (limit : ℕ) (rates : List Rate) (place : ℕ) → All (IsRate limit) rates → IsRate limit (get_or rates place no_rate)
got_limits limit [] place all = none_limits limit
got_limits limit (rate ∷ rates) zero all = All-head (IsRate limit) rate rates all
got_limits limit (rate ∷ rates) (suc place) all = got_limits limit rates place (All-tail (IsRate limit) rate rates all)

-- the rate in a place
pub rate_at_limits : (limit : ℕ) (rates : List Rate) (place : ℕ) → All (IsRate limit) rates → IsRate limit (rate_at rates place)
rate_at_limits limit rates place all = subst (IsRate limit) (sym (unwrap_or-slice_get rates place no_rate)) (got_limits limit rates place all)

-- the rate of a template
named_limits : (limit : ℕ) (named : List NamedRate) (number : ℕ) → All (λ (n : NamedRate). IsRate limit n.rate) named → IsRate limit (rate_named named number)
named_limits limit [] number all = none_limits limit
named_limits limit (n ∷ ns) number all = by (n.number == number) (named_limits limit ns number (All-tail (λ (m : NamedRate). IsRate limit m.rate) n ns all))
  where
    by : (b : Bool) → IsRate limit (rate_named ns number)
        → IsRate limit (unwrap_or (option_map (λ (m : NamedRate). m.rate) (cond b (Some n) (find (λ (m : NamedRate). m.number == number) ns))) no_rate)
    by true later = All-head (λ (m : NamedRate). IsRate limit m.rate) n ns all
    by false later = later

-- those of all templates
pub rates_limits : (limit count : ℕ) (named : List NamedRate) → All (λ (n : NamedRate). IsRate limit n.rate) named → All (IsRate limit) (rates_of count named)
rates_limits limit count named all = All-map (IsRate limit) (rate_named named) (range_with_len 0 count)
    (λ k d lt. named_limits limit named (get_or (range_with_len 0 count) k d) all)

-- what players begin with, one by one
opening_limits : (pairs : List Rate) → All (IsRate 1000000000) pairs → AreBelow 1000000001 (opening pairs)
opening_limits pairs all =
    record {
      food =
          All-map (λ (amount : ℕ). amount < 1000000001) (λ (place : ℕ). (rate_at pairs place).food) (range_with_len 0 8)
          (λ k d lt. let within = rate_at_limits 1000000000 pairs (get_or (range_with_len 0 8) k d) all in omega (arith, within.food));
      metal =
          All-map (λ (amount : ℕ). amount < 1000000001) (λ (place : ℕ). (rate_at pairs place).metal) (range_with_len 0 8)
          (λ k d lt. let within = rate_at_limits 1000000000 pairs (get_or (range_with_len 0 8) k d) all in omega (arith, within.metal));
    }

-- eight amounts
eight_sum : (f : ℕ → ℕ) (limit : ℕ) → All (λ a. a < limit + 1) (map f (range_with_len 0 8)) → sum (map f (range_with_len 0 8)) ≤ 8 * limit
eight_sum f limit all = sum_by-le (λ (a : ℕ). a) limit (map f (range_with_len 0 8)) (λ k d lt. let below = all k d lt in omega (arith, below))

-- and all together
pub opening_start : (pairs : List Rate) → All (IsRate 1000000000) pairs → IsStart (opening pairs)
opening_start pairs all =
    let each = opening_limits pairs all in
    let food = eight_sum (λ (place : ℕ). (rate_at pairs place).food) 1000000000 each.food in
    let metal = eight_sum (λ (place : ℕ). (rate_at pairs place).metal) 1000000000 each.metal in
    record { each = each; sum = omega (arith, food, metal) }
