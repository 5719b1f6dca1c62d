-- What waits for each client of a server, as lists of posts come and go.
use Rattle.sim_held.proofs.Common.{DownOf, eq-eqb, false, filter, flat_map, flat_map-append, flat_map-cons, get_or, if◌then◌else◌, inl, inr, IsSmallDown}
use Rattle.sim_held.proofs.Common.{[], All, All-cons, All-head, All-nil, All-tail, ap, append-nil, append_assoc, arith, Bool, cases_eq, cond-false, cond-true}
use Rattle.sim_held.proofs.Common.{length, List, map, ne_eqb, not, PostOf, refl, subst, suc, sym, take, take_more, told_to, true, zero, ℕ, ◌++◌, ◌+◌, ◌<◌, ◌∙◌}
use Rattle.sim_held.{proofs.Common.◌∷◌, proofs.Common.◌≡◌, proofs.Common.◌⊎◌, specs.Servers.AreSmall, specs.Servers.has_some, specs.Servers.waiting}
use Rattle.std.proofs.{Common.◌==◌, lemmas.List.Elements.All-filter}

abbrev Post : Type 0
Post = PostOf (List ℕ)

-- the posts to others
abbrev pub others : ℕ → List Post → List Post
others c = filter (λ post. not (post.to == c))

told_none : (c : ℕ) (posts : List Post) → told_to c (others c posts) ≡ []
told_none c [] = refl
told_none c (x ∷ xs) = by (cases_eq x.to c) (told_none c xs)
  where
    by : (x.to ≡ c) ⊎ (x.to ≡ c → ⊥) → told_to c (others c xs) ≡ [] → told_to c (others c (x ∷ xs)) ≡ []
    by (inl e) rec = ap (λ (b : Bool). told_to c (if not b then x ∷ others c xs else others c xs)) (eq-eqb x.to c e) ∙ rec
    by (inr ne) rec =
        ap (λ (b : Bool). told_to c (if not b then x ∷ others c xs else others c xs)) (ne_eqb x.to c ne)
        ∙ ap (λ (b : Bool). if b then x.down ∷ told_to c (others c xs) else told_to c (others c xs)) (ne_eqb x.to c ne) ∙ rec

told_same : (c d : ℕ) (posts : List Post) → (d ≡ c → ⊥) → told_to d (others c posts) ≡ told_to d posts
told_same c d [] apart = refl
told_same c d (x ∷ xs) apart = by (cases_eq x.to c) (told_same c d xs apart)
  where
    by : (x.to ≡ c) ⊎ (x.to ≡ c → ⊥) → told_to d (others c xs) ≡ told_to d xs → told_to d (others c (x ∷ xs)) ≡ told_to d (x ∷ xs)
    by (inl e) rec =
        ap (λ (b : Bool). told_to d (if not b then x ∷ others c xs else others c xs)) (eq-eqb x.to c e) ∙ rec
        ∙ sym (ap (λ (b : Bool). if b then x.down ∷ told_to d xs else told_to d xs) (ne_eqb x.to d (λ h. apart (sym h ∙ e))))
    by (inr ne) rec =
        ap (λ (b : Bool). told_to d (if not b then x ∷ others c xs else others c xs)) (ne_eqb x.to c ne)
        ∙ ap (λ (l : List (DownOf (List ℕ))). if x.to == d then x.down ∷ l else l) rec

none_waits : (c : ℕ) (said : List (List Post)) → waiting (map (others c) said) c ≡ []
none_waits c [] = refl
none_waits c (x ∷ xs) = flat_map-cons (told_to c) (others c x) (map (others c) xs) ∙ (λ i. told_none c x i ++ none_waits c xs i)

same_waits : (c d : ℕ) (said : List (List Post)) → (d ≡ c → ⊥) → waiting (map (others c) said) d ≡ waiting said d
same_waits c d [] apart = refl
same_waits c d (x ∷ xs) apart =
    flat_map-cons (told_to d) (others c x) (map (others c) xs) ∙ (λ i. told_same c d x apart i ++ same_waits c d xs apart i)
    ∙ sym (flat_map-cons (told_to d) x xs)

-- what waits for one is gone, and what waits for another is as it was
pub others_wait : (c d : ℕ) (said : List (List Post)) → waiting (map (others c) said) d ≡ (if d == c then [] else waiting said d)
others_wait c d said = by (cases_eq d c)
  where
    by : (d ≡ c) ⊎ (d ≡ c → ⊥) → waiting (map (others c) said) d ≡ (if d == c then [] else waiting said d)
    by (inl e) = ap (λ (k : ℕ). waiting (map (others c) said) k) e ∙ none_waits c said ∙ sym (cond-true _ [] (waiting said d) (eq-eqb d c e))
    by (inr apart) = same_waits c d said apart ∙ sym (cond-false _ [] (waiting said d) (ne_eqb d c apart))

-- lists with nothing in them hold nothing back
pub full_waits : (d : ℕ) (said : List (List Post)) → waiting (filter has_some said) d ≡ waiting said d
full_waits d [] = refl
full_waits d ([] ∷ xs) = full_waits d xs ∙ sym (flat_map-cons (told_to d) [] xs)
full_waits d ((x ∷ more) ∷ xs) =
    flat_map-cons (told_to d) (x ∷ more) (filter has_some xs) ∙ ap (λ l. told_to d (x ∷ more) ++ l) (full_waits d xs)
    ∙ sym (flat_map-cons (told_to d) (x ∷ more) xs)

-- what stays has frames
pub others_small : (c : ℕ) (said : List (List Post)) → AreSmall said → AreSmall (map (others c) said)
others_small c [] small = All-nil _
others_small c (x ∷ xs) small =
    All-cons (All (λ (post : Post). IsSmallDown post.down)) (others c x) (map (others c) xs)
    (All-filter (λ post. not (post.to == c)) (λ (post : Post). IsSmallDown post.down) x (All-head (All (λ (post : Post). IsSmallDown post.down)) x xs small))
    (others_small c xs (All-tail (All (λ (post : Post). IsSmallDown post.down)) x xs small))

pub full_small : (said : List (List Post)) → AreSmall said → AreSmall (filter has_some said)
full_small said small = All-filter has_some (All (λ (post : Post). IsSmallDown post.down)) said small

-- ---- who is told nothing

-- two lists with nothing in them together
none_before : {X : Type 0} (xs ys : List X) → xs ++ ys ≡ [] → xs ≡ []
none_before [] ys none = refl
none_before (x ∷ xs) ys none = absurd (cc)

none_behind : {X : Type 0} (xs ys : List X) → xs ++ ys ≡ [] → ys ≡ []
none_behind [] ys none = none
none_behind (x ∷ xs) ys none = absurd (cc)

told_cons : (c : ℕ) (x : Post) (xs : List Post) → told_to c (x ∷ xs) ≡ told_to c (x ∷ []) ++ told_to c xs
told_cons c x xs = by (x.to == c)
  where
    by : (b : Bool) → (if b then x.down ∷ told_to c xs else told_to c xs) ≡ (if b then x.down ∷ [] else []) ++ told_to c xs
    by true = refl
    by false = refl

-- not by any post of a list
pub none_by_post : (c : ℕ) (posts : List Post) (i : ℕ) (post : Post) → i < length posts → post ≡ get_or posts i post → told_to c posts ≡ []
    → told_to c (post ∷ []) ≡ []
none_by_post c [] i post within is none = absurd (omega (arith, within))
none_by_post c (x ∷ xs) zero post within is none =
    subst (λ (p : Post). told_to c (p ∷ []) ≡ []) (sym is) (none_before (told_to c (x ∷ [])) (told_to c xs) (sym (told_cons c x xs) ∙ none))
none_by_post c (x ∷ xs) (suc i) post within is none =
    none_by_post c xs i post (omega (arith, within)) is (none_behind (told_to c (x ∷ [])) (told_to c xs) (sym (told_cons c x xs) ∙ none))

-- not by any list of several
pub none_by_list : (c : ℕ) (said : List (List Post)) (i : ℕ) (posts : List Post) → i < length said → posts ≡ get_or said i posts → waiting said c ≡ []
    → told_to c posts ≡ []
none_by_list c [] i posts within is none = absurd (omega (arith, within))
none_by_list c (x ∷ xs) zero posts within is none =
    subst (λ (l : List Post). told_to c l ≡ []) (sym is)
    (none_before (told_to c x) (waiting xs c) (sym (flat_map-cons (told_to c) x xs) ∙ none))
none_by_list c (x ∷ xs) (suc i) posts within is none =
    none_by_list c xs i posts (omega (arith, within)) is (none_behind (told_to c x) (waiting xs c) (sym (flat_map-cons (told_to c) x xs) ∙ none))

-- Lists that a loop appends for each element of another.

-- of one element alone
pub flat_map_one : {X A : Type 0} (f : X → List A) (x : X) → flat_map f (x ∷ []) ≡ f x
flat_map_one f x = flat_map-cons f x [] ∙ append-nil (f x)

-- one element more
pub flat_map_more : {X A : Type 0} (f : X → List A) (all : List X) (i : ℕ) (x : X) → i < length all → x ≡ get_or all i x
    → flat_map f (take (i + 1) all) ≡ flat_map f (take i all) ++ f x
flat_map_more f all i x lt is =
    ap (flat_map f) (take_more all i x lt ∙ ap (λ y. take i all ++ y ∷ []) (sym is)) ∙ flat_map-append f (take i all) (x ∷ [])
    ∙ ap (λ l. flat_map f (take i all) ++ l) (flat_map_one f x)

-- what was appended so far, and one piece more
pub appended_more : {X A : Type 0} (f : X → List A) (all : List X) (i : ℕ) (x : X) (old now new : List A) → i < length all → x ≡ get_or all i x
    → now ≡ old ++ flat_map f (take i all) → new ≡ now ++ f x → new ≡ old ++ flat_map f (take (i + 1) all)
appended_more f all i x old now new lt is before more =
    more ∙ ap (λ l. l ++ f x) before ∙ append_assoc old (flat_map f (take i all)) (f x) ∙ ap (λ l. old ++ l) (sym (flat_map_more f all i x lt is))
