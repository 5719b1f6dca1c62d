-- Lists of one value, and one cell put into an empty bucket.
use Rattle.sim_search.proofs.Common.{cases_eq, cases_lt, Cell, cond_both, Contains-push, Contains-push_cases, entry_at, get_or-map, get_or-replicate, get_or-set_other, get_or-set_same, get_or_past, has_cell}
use Rattle.sim_search.proofs.Common.{inl, inr, length-map, length-replicate, place_of, Size, subst, sym, ⊎_elim, ◌∙◌}
use Rattle.sim_search.proofs.Common.{◌≡◌, ℕ, ◌<◌, ◌≤◌, ◌⊎◌, List, [], ◌∷◌, ◌++◌, map, length, get_or, set, replicate, All, Contains, refl, All-get_or, arith}

alike : {X : Type 0} (n i : ℕ) (x : X) → get_or (replicate n x) i x ≡ x
alike n i x = ⊎_elim (λ (l : i < n). get_or-replicate n i x x l) (λ (l : n ≤ i). get_or_past (replicate n x) i x (omega (arith, length-replicate n x)))
    (cases_lt i n)

pub entry_at-replicate : {X : Type 0} (other : X) (size : Size) (xs : List X) (n : ℕ) (c : Cell) → xs ≡ replicate n other → entry_at other size xs c ≡ other
entry_at-replicate {X} other size xs n c e =
    rw e (cond_both (has_cell size c) (get_or (replicate n other) (place_of size c) other) other (λ (v : X). v ≡ other) (λ h. alike n (place_of size c) other)
    (λ h. refl))

pub queued_first : (q : List (List Cell)) (b n : ℕ) (old l : List Cell) (x : Cell) → b ≡ n → b < length q → l ≡ old ++ x ∷ []
    → Contains (get_or (set q b l) n []) x
queued_first q b n old l x e h f =
    rw (← e) (subst (λ (xs : List Cell). Contains xs x) (sym (get_or-set_same q b l [] h ∙ f)) (Contains-push old x))

pub only_first : (q : List (List Cell)) (b at : ℕ) (x c : Cell) → b < length q → b < 32 → at < 32 → ((n : ℕ) → n < 32 → get_or q n [] ≡ [])
    → Contains (get_or (set q b (get_or q b [] ++ x ∷ [])) at []) c → c ≡ x
only_first q b at x c h ring lt none is_in = by (cases_eq at b)
  where
    more : List Cell
    more = get_or q b [] ++ x ∷ []

    nothing : (n : ℕ) → n < 32 → Contains (get_or q n []) c → c ≡ x
    nothing n below there = absurd (nothing_in (subst (λ (xs : List Cell). Contains xs c) (none n below) there))
      where
        nothing_in : Contains [] c → ⊥
        nothing_in (k, l, is) = omega arith

    by : (at ≡ b) ⊎ (at ≡ b → ⊥) → c ≡ x
    by (inl e) =
        ⊎_elim (λ (l : Contains (get_or q b []) c). nothing b ring l) (λ (same : x ≡ c). sym same)
        (Contains-push_cases (get_or q b []) x c (subst (λ (xs : List Cell). Contains xs c) (get_or-set_same q b more [] h)
        (subst (λ (n : ℕ). Contains (get_or (set q b more) n []) c) e is_in)))
    by (inr e) = nothing at lt (subst (λ (xs : List Cell). Contains xs c) (get_or-set_other q b at more [] e) is_in)

-- a list that reads alike everywhere
pub entry_at-all : {X Y : Type 0} (f : Y → X) (other : X) (size : Size) (xs : List Y) (c : Cell) → All (λ y. f y ≡ other) xs
    → entry_at other size (map f xs) c ≡ other
entry_at-all {X} {Y} f other size xs c all = cond_both (has_cell size c) (get_or (map f xs) (place_of size c) other) other (λ (v : X). v ≡ other)
    (λ h. by (cases_lt (place_of size c) (length xs))) (λ h. refl)
  where
    by : (place_of size c < length xs) ⊎ (length xs ≤ place_of size c) → get_or (map f xs) (place_of size c) other ≡ other
    by (inl lt) = at xs (place_of size c) lt all
      where
        at : (ys : List Y) (i : ℕ) → i < length ys → All (λ y. f y ≡ other) ys → get_or (map f ys) i other ≡ other
        at [] i l a = absurd (omega (arith, l))
        at (y ∷ ys) i l a = get_or-map f (y ∷ ys) i y other l ∙ All-get_or (λ v. f v ≡ other) (y ∷ ys) i y l a
    by (inr le) = get_or_past (map f xs) (place_of size c) other (omega (arith, length-map xs f))
