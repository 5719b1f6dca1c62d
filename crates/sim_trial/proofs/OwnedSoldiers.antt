-- Every other soldier is a player's, so that his ids go up by two; and a group of them is a part of that list.
use Rattle.sim_trial.proofs.Common.{[], add-one, ap, append-nil, append_assoc, arith, Bool, comma, comma_after, commands_text, cond, decimal, div_ceil, drop}
use Rattle.sim_trial.proofs.Common.{drop-map, eqb-false, eqb-true, false, filter, filter-append, flat_map-append, group_size, groups_of, id_at, ids_between}
use Rattle.sim_trial.proofs.Common.{ids_of, join_with_byte, joined_after, length, length-map-range_with_len, List, lt-ltb, map, map-range_with_len_more, min}
use Rattle.sim_trial.proofs.Common.{nat_lt, ne_eqb, player_of, range_with_len, refl, slice_chunk, suc, sym, take, take-map, true, walk_text, walks_of, zero, ℕ}
use Rattle.sim_trial.proofs.Common.{◌%◌, ◌*◌, ◌+◌, ◌-◌, ◌/◌, ◌||◌, ◌∙◌, ◌∷◌, ◌≡◌, ◌≢◌, ◌≤◌}
use Rattle.{sim_base.proofs.Lists.range_with_len_more, sim_trial.proofs.Common.◌++◌, sim_trial.proofs.Common.◌==◌, std.proofs.lemmas.Simd.map-map}

-- Pieces of a list, one of which is added to those before it.

-- the first piece has no comma before it
join-first : (x : List ℕ) (xs : List (List ℕ)) → join_with_byte comma (x ∷ xs) ≡ x ++ joined_after true xs
join-first x [] = sym (append-nil x)
join-first x (y ∷ ys) = ap (λ (zs : List ℕ). x ++ (comma ∷ zs)) (join-first y ys)

-- pieces behind others are joined to them
pub join-append : (x : List ℕ) (xs ys : List (List ℕ)) → join_with_byte comma (x ∷ xs) ++ joined_after true ys ≡ join_with_byte comma (x ∷ (xs ++ ys))
join-append x xs ys =
    ap (λ (zs : List ℕ). zs ++ joined_after true ys) (join-first x xs)
    ∙ append_assoc x (joined_after true xs) (joined_after true ys)
    ∙ ap (λ (zs : List ℕ). x ++ zs) (sym (flat_map-append (λ (piece : List ℕ). comma ∷ piece) xs ys))
    ∙ sym (join-first x (xs ++ ys))

-- one piece more, with a comma where a piece stands before
joined_after-more : (begun : Bool) (xs : List (List ℕ)) (y : List ℕ) → joined_after begun (xs ++ y ∷ []) ≡ joined_after begun xs ++
    (comma_after (begun || nat_lt 0 (length xs)) ++ y)
joined_after-more true xs y =
    flat_map-append (λ (piece : List ℕ). comma ∷ piece) xs (y ∷ [])
    ∙ ap (λ (zs : List ℕ). joined_after true xs ++ (comma ∷ zs)) (append-nil y)
joined_after-more false [] y = refl
joined_after-more false (x ∷ xs) y =
    sym (join-append x xs (y ∷ []))
    ∙ ap (λ (zs : List ℕ). join_with_byte comma (x ∷ xs) ++ (comma ∷ zs)) (append-nil y)
    ∙ ap (λ (b : Bool). join_with_byte comma (x ∷ xs) ++ (comma_after b ++ y)) (sym (lt-ltb 0 (suc (length xs)) (omega arith)))

-- what is appended in two parts
pub appended : (old x y mid new : List ℕ) → mid ≡ old ++ x → new ≡ mid ++ y → new ≡ old ++ (x ++ y)
appended old x y mid new first second = second ∙ ap (λ (xs : List ℕ). xs ++ y) first ∙ append_assoc old x y

-- a loop that adds the pieces of a function one by one
pub pieces_more : (begun : Bool) (f : ℕ → List ℕ) (a n j : ℕ) → a + n ≡ j → (old before with_comma after : List ℕ) (more : Bool)
    → before ≡ old ++ joined_after begun (map f (range_with_len a n)) → more ≡ (begun || nat_lt 0 n) → with_comma ≡ before ++ comma_after more
    → after ≡ with_comma ++ f j → after ≡ old ++ joined_after begun (map f (range_with_len a (n + 1)))
pieces_more begun f a n j place old before with_comma after more so_far counted then_comma then_piece =
    let pieces = map f (range_with_len a n) in
    let more_is : comma_after more ≡ comma_after (begun || nat_lt 0 (length pieces)) =
    ap comma_after counted ∙ ap (λ (k : ℕ). comma_after (begun || nat_lt 0 k)) (sym (length-map-range_with_len f a n)) in
    let added : joined_after begun pieces ++ (comma_after more ++ f j) ≡ joined_after begun (map f (range_with_len a (n + 1))) =
    ap (λ (c : List ℕ). joined_after begun pieces ++ (c ++ f j)) more_is
    ∙ sym (joined_after-more begun pieces (f j))
    ∙ ap (joined_after begun) (sym (map-range_with_len_more f a n j place)) in
    appended old (joined_after begun pieces) (comma_after more ++ f j) before after so_far
    (appended before (comma_after more) (f j) with_comma after then_comma then_piece)
    ∙ ap (λ (xs : List ℕ). old ++ xs) added

-- how many of the soldiers are a player's
abbrev pub owned_by : ℕ → ℕ → ℕ
owned_by player units = (units + 2 - player) / 2

player_of-is : (place : ℕ) → player_of place ≡ place % 2 + 1
player_of-is place = by (place % 2 == 0) refl
  where
    by : (b : Bool) → (place % 2 == 0) ≡ b → cond b 1 2 ≡ place % 2 + 1
    by true e = omega (arith, eqb-true (place % 2) 0 e)
    by false e =
        let odd : place % 2 ≢ 0 = eqb-false (place % 2) 0 e in
        omega arith

-- his ids, one soldier more
ids_of-more : (player units : ℕ) → ids_of player (units + 1) ≡ ids_of player units ++ cond (player_of units == player) ((units + 2) ∷ []) []
ids_of-more player units =
    let test : ℕ → Bool = λ id. player_of (id - 2) == player in
    let id_is : units + 2 ≡ 2 + units = omega arith in
    let place_is : units + 2 - 2 ≡ units = omega arith in
    ap (filter test) (range_with_len_more 2 units)
    ∙ filter-append test (range_with_len 2 units) ((2 + units) ∷ [])
    ∙ ap (λ (id : ℕ). ids_of player units ++ cond (test id) (id ∷ []) []) (sym id_is)
    ∙ ap (λ (place : ℕ). ids_of player units ++ cond (player_of place == player) ((units + 2) ∷ []) []) place_is

-- his last one
id_at-last : (player units : ℕ) → player_of units ≡ player → id_at player (owned_by player units) ≡ units + 2
id_at-last player units his =
    let is : units % 2 + 1 ≡ player = sym (player_of-is units) ∙ his in
    omega arith

owned_by-his : (player units : ℕ) → player_of units ≡ player → owned_by player (units + 1) ≡ owned_by player units + 1
owned_by-his player units his =
    let is : units % 2 + 1 ≡ player = sym (player_of-is units) ∙ his in
    omega arith

owned_by-other : (player units : ℕ) → 1 ≤ player → player ≤ 2 → player_of units ≢ player → owned_by player (units + 1) ≡ owned_by player units
owned_by-other player units first last other =
    let apart : units % 2 + 1 ≢ player = λ e. other (player_of-is units ∙ e) in
    omega arith

-- his ids are those that go up by two
ids-is : (player units : ℕ) → 1 ≤ player → player ≤ 2 → ids_of player units ≡ map (id_at player) (range_with_len 0 (owned_by player units))
ids-is player zero first last = ap (λ (n : ℕ). map (id_at player) (range_with_len 0 n)) none
  where
    none : 0 ≡ owned_by player 0
    none = omega arith
ids-is player (suc units) first last = ap (ids_of player) (sym (add-one units)) ∙ ids_of-more player units ∙ by (ids-is player units first last)
    (player_of units == player) refl ∙ ap (λ (n : ℕ). map (id_at player) (range_with_len 0 (owned_by player n))) (add-one units)
  where
    by : ids_of player units ≡ map (id_at player) (range_with_len 0 (owned_by player units)) → (b : Bool) → (player_of units == player) ≡ b
        → ids_of player units ++ cond b ((units + 2) ∷ []) [] ≡ map (id_at player) (range_with_len 0 (owned_by player (units + 1)))
    by so_far true e =
        let his = eqb-true (player_of units) player e in
        ap (λ (xs : List ℕ). xs ++ (units + 2) ∷ []) so_far
        ∙ ap (λ (id : ℕ). map (id_at player) (range_with_len 0 (owned_by player units)) ++ id ∷ []) (sym (id_at-last player units his))
        ∙ sym (map-range_with_len_more (id_at player) 0 (owned_by player units) (owned_by player units) (omega arith))
        ∙ ap (λ (n : ℕ). map (id_at player) (range_with_len 0 n)) (sym (owned_by-his player units his))
    by so_far false e =
        append-nil _ ∙ so_far ∙ ap (λ (n : ℕ). map (id_at player) (range_with_len 0 n))
        (sym (owned_by-other player units first last (eqb-false (player_of units) player e)))

-- ---- a group of numbers that follow one another

drop-range : (k a n : ℕ) → drop k (range_with_len a n) ≡ range_with_len (a + k) (n - k)
drop-range zero a n = ap (λ (m : ℕ). range_with_len m n) start ∙ ap (range_with_len (a + 0)) count
  where
    start : a ≡ a + 0
    start = omega arith

    count : n ≡ n - 0
    count = omega arith
drop-range (suc k) a zero = ap (range_with_len (a + suc k)) none
  where
    none : 0 ≡ 0 - suc k
    none = omega arith
drop-range (suc k) a (suc n) = drop-range k (a + 1) n ∙ ap (λ (m : ℕ). range_with_len m (n - k)) start ∙ ap (range_with_len (a + suc k)) count
  where
    start : a + 1 + k ≡ a + suc k
    start = omega arith

    count : n - k ≡ suc n - suc k
    count = omega arith

take-range : (k a n : ℕ) → take k (range_with_len a n) ≡ range_with_len a (min k n)
take-range zero a n = ap (range_with_len a) none
  where
    none : 0 ≡ min 0 n
    none = omega arith
take-range (suc k) a zero = ap (range_with_len a) none
  where
    none : 0 ≡ min (suc k) 0
    none = omega arith
take-range (suc k) a (suc n) = ap (λ (xs : List ℕ). a ∷ xs) (take-range k (a + 1) n) ∙ ap (range_with_len a) count
  where
    count : suc (min k n) ≡ min (suc k) (suc n)
    count = omega arith

chunk-is : (player owned group : ℕ) → slice_chunk (map (id_at player) (range_with_len 0 owned)) group_size group ≡ ids_between player (group * 256)
    (min owned (group * 256 + 256))
chunk-is player owned group =
    ap (take 256) (drop-map (id_at player) (group * 256) (range_with_len 0 owned))
    ∙ take-map (id_at player) 256 (drop (group * 256) (range_with_len 0 owned))
    ∙ ap (map (id_at player)) (ap (take 256) (drop-range (group * 256) 0 owned) ∙ take-range 256 (0 + group * 256) (owned - group * 256) ∙
    ap (λ (from : ℕ). range_with_len from (min 256 (owned - group * 256))) start ∙ ap (range_with_len (group * 256)) count)
  where
    start : 0 + group * 256 ≡ group * 256
    start = omega arith

    count : min 256 (owned - group * 256) ≡ min owned (group * 256 + 256) - group * 256
    count = omega arith

map-same : {X Y : Type 0} (f g : X → Y) → ((x : X) → f x ≡ g x) → (xs : List X) → map f xs ≡ map g xs
map-same f g same [] = refl
map-same f g same (x ∷ xs) = ap (λ (y : _). y ∷ map f xs) (same x) ∙ ap (λ (ys : List _). g x ∷ ys) (map-same f g same xs)

-- ids as texts, by their places
pub id_texts-is : (player from to : ℕ) → map decimal (ids_between player from to) ≡ map (λ place. decimal (id_at player place))
    (range_with_len from (to - from))
id_texts-is player from to = map-map decimal (id_at player) (range_with_len from (to - from))

-- the command for one group
abbrev pub group_walk : ℕ → ℕ → ℕ → List ℕ
group_walk player owned group = walk_text player (ids_between player (group * 256) (min owned (group * 256 + 256)))

-- the commands of a player, group by group
pub walks_of-is : (player units : ℕ) → 1 ≤ player → player ≤ 2 → walks_of player units ≡ map (group_walk player (owned_by player units))
    (range_with_len 0 (div_ceil (owned_by player units) 256))
walks_of-is player units first last =
    let owned = owned_by player units in
    let ids : List ℕ = map (id_at player) (range_with_len 0 owned) in
    ap (λ (xs : List ℕ). map (walk_text player) (groups_of xs)) (ids-is player units first last)
    ∙ ap (λ (n : ℕ). map (walk_text player) (map (slice_chunk ids group_size) (range_with_len 0 (div_ceil n 256))))
    (length-map-range_with_len (id_at player) 0 owned)
    ∙ map-map (walk_text player) (slice_chunk ids group_size) (range_with_len 0 (div_ceil owned 256))
    ∙ map-same _ (group_walk player owned) (λ group. ap (walk_text player) (chunk-is player owned group)) (range_with_len 0 (div_ceil owned 256))

-- player 1 has a command, and those of player 2 stand behind it
pub both_walk : (units turns : ℕ) → 1 ≤ units → turns ≢ 0 → joined_after false (walks_of 1 units) ++ joined_after true (walks_of 2 units) ≡ commands_text units
    turns
both_walk units turns some played =
    ap (λ (xs : List (List ℕ)). joined_after false xs ++ joined_after true (walks_of 2 units)) first_is
    ∙ join-append _ _ (walks_of 2 units)
    ∙ ap (λ (xs : List (List ℕ)). join_with_byte comma (xs ++ walks_of 2 units)) (sym first_is)
    ∙ ap (λ (b : Bool). cond b [] (join_with_byte comma (walks_of 1 units ++ walks_of 2 units))) (sym (ne_eqb turns 0 played))
  where
    owned : ℕ
    owned = owned_by 1 units

    groups : suc (div_ceil owned 256 - 1) ≡ div_ceil owned 256
    groups = omega arith

    first_is : walks_of 1 units ≡ group_walk 1 owned 0 ∷ map (group_walk 1 owned) (range_with_len 1 (div_ceil owned 256 - 1))
    first_is = walks_of-is 1 units (omega arith) (omega arith) ∙ ap (λ (n : ℕ). map (group_walk 1 owned) (range_with_len 0 n)) (sym groups)
