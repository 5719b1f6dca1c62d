-- The holder of a cell is found by looking at one player after another.
use Rattle.sim_territory.proofs.Common.{holder_by, inl, inr, IsHolder, le-leb, le-ltb, list_all, lt-leb, lt-ltb, range_with_len, subst, sym, ◌∙◌}
use Rattle.sim_territory.proofs.Common.{unwrap_or, refl, and_from, and_left, and_right, ap, arith, cases_lt, cond-false, cond-true, eq-or-lt_of_le, has_most}
use Rattle.sim_territory.proofs.Common.{◌≡◌, ℕ, zero, suc, ◌+◌, ◌<◌, ◌≤◌, Bool, true, false, cond, ◌&&◌, ◌⊎◌, ◌↔◌, nat_lt, nat_le, Some, None, find, Option}

-- ---- the first number of a range that passes a test

find-range : (test : ℕ → Bool) (a n h : ℕ) → a ≤ h → h < a + n → test h ≡ true → ((k : ℕ) → a ≤ k → k < h → test k ≡ false) → find test (range_with_len a n) ≡
    Some h
find-range test a zero h le lt passes fails = absurd (omega arith)
find-range test a (suc n) h le lt passes fails =
    by (eq-or-lt_of_le le) (λ l. find-range test (a + 1) n h (omega arith) (omega arith) passes (λ k from below. fails k (omega arith) below))
  where
    by : (a ≡ h) ⊎ (a < h) → (a < h → find test (range_with_len (a + 1) n) ≡ Some h) → cond (test a) (Some a) (find test (range_with_len (a + 1) n)) ≡ Some h
    by (inl e) rest = cond-true (test a) (Some a) (find test (range_with_len (a + 1) n)) (ap test e ∙ passes) ∙ ap Some e
    by (inr l) rest = cond-false (test a) (Some a) (find test (range_with_len (a + 1) n)) (fails a (omega arith) l) ∙ rest l

find-range_none : (test : ℕ → Bool) (a n : ℕ) → ((k : ℕ) → a ≤ k → k < a + n → test k ≡ false) → find test (range_with_len a n) ≡ None
find-range_none test a zero fails = refl
find-range_none test a (suc n) fails =
    cond-false (test a) (Some a) (find test (range_with_len (a + 1) n)) (fails a (omega arith) (omega arith)) ∙
    find-range_none test (a + 1) n (λ k from below. fails k (omega arith) (omega arith))

list_all-range : (test : ℕ → Bool) (a n : ℕ) → ((k : ℕ) → a ≤ k → k < a + n → test k ≡ true) → list_all test (range_with_len a n) ≡ true
list_all-range test a zero passes = refl
list_all-range test a (suc n) passes =
    and_from (test a) (list_all test (range_with_len (a + 1) n)) (passes a (omega arith) (omega arith))
    (list_all-range test (a + 1) n (λ k from below. passes k (omega arith) (omega arith)))

list_all-range_none : (test : ℕ → Bool) (a n k : ℕ) → a ≤ k → k < a + n → test k ≡ false → list_all test (range_with_len a n) ≡ false
list_all-range_none test a zero k le lt fails = absurd (omega arith)
list_all-range_none test a (suc n) k le lt fails = by (eq-or-lt_of_le le) (λ l. list_all-range_none test (a + 1) n k (omega arith) (omega arith) fails)
  where
    by : (a ≡ k) ⊎ (a < k) → (a < k → list_all test (range_with_len (a + 1) n) ≡ false) → (test a && list_all test (range_with_len (a + 1) n)) ≡ false
    by (inl e) rest = and_left (test a) (list_all test (range_with_len (a + 1) n)) (ap test e ∙ fails)
    by (inr l) rest = and_right (test a) (list_all test (range_with_len (a + 1) n)) (rest l)

-- ---- the holder is the one number that is described

pub holder_by-is : (players : ℕ) (f : ℕ → ℕ) (h : ℕ) → IsHolder players f h → holder_by players f ≡ h
holder_by-is players f h (inl nobody) =
    ap (λ (o : Option ℕ). unwrap_or o 0)
    (find-range_none (has_most players f) 1 players
    (λ k from below.
    let none = nobody.all k from (omega arith) in
    and_left (nat_lt 0 (f k)) (list_all (λ other. nat_le (f other) (f k)) (range_with_len 1 players)) (le-ltb 0 (f k) (omega (arith, none)))))
    ∙ sym nobody.none
holder_by-is players f h (inr one) =
    ap (λ (o : Option ℕ). unwrap_or o 0)
    (find-range (has_most players f) 1 players h one.least (let most = one.most in omega arith)
    (and_from (nat_lt 0 (f h)) (list_all (λ other. nat_le (f other) (f h)) (range_with_len 1 players)) (lt-ltb 0 (f h) one.some)
    (list_all-range (λ other. nat_le (f other) (f h)) 1 players (λ k from below. le-leb (f k) (f h) (one.greatest k from (omega arith)))))
    (λ k from below.
    let less = one.first k from below in
    let h_from = one.least in
    let h_most = one.most in
    and_right (nat_lt 0 (f k)) (list_all (λ other. nat_le (f other) (f k)) (range_with_len 1 players))
    (list_all-range_none (λ other. nat_le (f other) (f k)) 1 players h h_from (omega arith) (lt-leb (f h) (f k) less))))

-- ---- one player after another

-- nobody before this player has influence
pub record IsNobodyBefore (f : ℕ → ℕ) (player holder most : ℕ) : Type 0 where
  pub none : holder ≡ 0
  pub zero_is : most ≡ 0
  pub all : (k : ℕ) → 1 ≤ k → k < player → f k ≡ 0

-- the holder is the first of those before this player who have the most
pub record IsFirstBefore (f : ℕ → ℕ) (player holder most : ℕ) : Type 0 where
  pub least : 1 ≤ holder
  pub below : holder < player
  pub is : most ≡ f holder
  pub some : 0 < most
  pub greatest : (k : ℕ) → 1 ≤ k → k < player → f k ≤ most
  pub first : (k : ℕ) → 1 ≤ k → k < holder → f k < most

-- the best of those before this player
abbrev pub IsBestBefore : (ℕ → ℕ) → ℕ → ℕ → ℕ → Type 0
IsBestBefore f player holder most = IsNobodyBefore f player holder most ⊎ IsFirstBefore f player holder most

pub best_begins : (f : ℕ → ℕ) → IsBestBefore f 1 0 0
best_begins f = inl (record { none = refl; zero_is = refl; all = λ k from below. absurd (omega arith) })

pub best_takes : (f : ℕ → ℕ) (player holder most influence : ℕ) → 1 ≤ player → influence ≡ f player → most < influence → IsBestBefore f player holder most
    → IsBestBefore f (player + 1) player influence
best_takes f player holder most influence from is more before =
    inr (record {
      least = from;
      below = omega arith;
      is = is;
      some = omega arith;
      greatest = λ k a b. greatest before k a (eq-or-lt_of_le b);
      first = λ k a b. lower before k a b;
    })
  where
    lower : IsBestBefore f player holder most → (k : ℕ) → 1 ≤ k → k < player → f k < influence
    lower (inl nobody) k a b = let none = nobody.all k a b in omega arith
    lower (inr one) k a b = let less = one.greatest k a b in omega arith

    greatest : IsBestBefore f player holder most → (k : ℕ) → 1 ≤ k → (suc k ≡ player + 1) ⊎ (suc k < player + 1) → f k ≤ influence
    greatest best k a (inl e) = let same : k ≡ player = omega arith in let at : f k ≡ f player = ap f same in omega arith
    greatest best k a (inr l) = let less = lower best k a (omega arith) in omega arith

pub best_keeps : (f : ℕ → ℕ) (player holder most influence : ℕ) → influence ≡ f player → influence ≤ most → IsBestBefore f player holder most
    → IsBestBefore f (player + 1) holder most
best_keeps f player holder most influence is less (inl nobody) =
    inl (record { none = nobody.none; zero_is = nobody.zero_is; all = λ k a b. at k a (eq-or-lt_of_le b) })
  where
    at : (k : ℕ) → 1 ≤ k → (suc k ≡ player + 1) ⊎ (suc k < player + 1) → f k ≡ 0
    at k a (inl e) = let same : k ≡ player = omega arith in let here : f k ≡ f player = ap f same in let none = nobody.zero_is in omega arith
    at k a (inr l) = nobody.all k a (omega arith)
best_keeps f player holder most influence is less (inr one) =
    inr (record {
      least = one.least;
      below = let b = one.below in omega arith;
      is = one.is;
      some = one.some;
      greatest = λ k a b. at k a (eq-or-lt_of_le b);
      first = one.first;
    })
  where
    at : (k : ℕ) → 1 ≤ k → (suc k ≡ player + 1) ⊎ (suc k < player + 1) → f k ≤ most
    at k a (inl e) = let same : k ≡ player = omega arith in let here : f k ≡ f player = ap f same in omega arith
    at k a (inr l) = one.greatest k a (omega arith)

best_holds : (f : ℕ → ℕ) (players player holder most : ℕ) → player ≡ players + 1 → IsBestBefore f player holder most → IsHolder players f holder
best_holds f players player holder most e (inl nobody) = inl (record { none = nobody.none; all = λ k a b. nobody.all k a (omega arith) })
best_holds f players player holder most e (inr one) =
    inr (record {
      least = one.least;
      most = let b = one.below in omega arith;
      some = let s = one.some in let i = one.is in omega arith;
      greatest = λ k a b. let g = one.greatest k a (omega arith) in let i = one.is in omega arith;
      first = λ k a b. let l = one.first k a b in let i = one.is in omega arith;
    })

pub best_is : (f : ℕ → ℕ) (players player holder most : ℕ) → player ≡ players + 1 → IsBestBefore f player holder most → holder_by players f ≡ holder
best_is f players player holder most e best = holder_by-is players f holder (best_holds f players player holder most e best)

-- ---- it is told by the influences of the players alone

some_best : (f : ℕ → ℕ) (n : ℕ) → (h : ℕ) × (m : ℕ) × IsBestBefore f (n + 1) h m
some_best f zero = (0, 0, best_begins f)
some_best f (suc n) = let (h, m, b) = some_best f n in by h m b (cases_lt m (f (n + 1)))
  where
    next : n + 1 + 1 ≡ suc n + 1
    next = omega arith

    by : (h m : ℕ) → IsBestBefore f (n + 1) h m → (m < f (n + 1)) ⊎ (f (n + 1) ≤ m) → (k : ℕ) × (l : ℕ) × IsBestBefore f (suc n + 1) k l
    by h m b (inl lt) = (
      n + 1,
      f (n + 1),
      subst (λ (p : ℕ). IsBestBefore f p (n + 1) (f (n + 1))) next (best_takes f (n + 1) h m (f (n + 1)) (omega arith) refl lt b),
    )
    by h m b (inr le) = (h, m, subst (λ (p : ℕ). IsBestBefore f p h m) next (best_keeps f (n + 1) h m (f (n + 1)) refl le b))

best_same : (f g : ℕ → ℕ) (player holder most : ℕ) → ((k : ℕ) → 1 ≤ k → k < player → f k ≡ g k) → IsBestBefore f player holder most
    → IsBestBefore g player holder most
best_same f g player holder most same (inl nobody) =
    inl (record { none = nobody.none; zero_is = nobody.zero_is; all = λ k a b. sym (same k a b) ∙ nobody.all k a b })
best_same f g player holder most same (inr one) =
    inr (record {
      least = one.least;
      below = one.below;
      is = one.is ∙ same holder one.least one.below;
      some = one.some;
      greatest = λ k a b. let le = one.greatest k a b in let e = same k a b in omega arith;
      first = λ k a b. let lt = one.first k a b in let below = one.below in let e = same k a (omega arith) in omega arith;
    })

pub holder_by-same : (n : ℕ) (f g : ℕ → ℕ) → ((k : ℕ) → 1 ≤ k → k ≤ n → f k ≡ g k) → holder_by n f ≡ holder_by n g
holder_by-same n f g same =
    let (h, m, b) = some_best f n in
    best_is f n (n + 1) h m refl b ∙ sym (best_is g n (n + 1) h m refl (best_same f g (n + 1) h m (λ k a lt. same k a (omega arith)) b))

-- the holder is one that is described
pub holder_by-holds : (n : ℕ) (f : ℕ → ℕ) → IsHolder n f (holder_by n f)
holder_by-holds n f = let (h, m, b) = some_best f n in subst (IsHolder n f) (sym (best_is f n (n + 1) h m refl b)) (best_holds f n (n + 1) h m refl b)

-- and no other number is
pub one_holder : (n : ℕ) (f : ℕ → ℕ) (h : ℕ) → (holder_by n f ≡ h) ↔ IsHolder n f h
one_holder n f h = (λ e. subst (IsHolder n f) e (holder_by-holds n f), holder_by-is n f h)
