-- Rows that are told or counted one after the other.
use Rattle.{sim_base.proofs.Lists.length-cons_option, sim_codec.proofs.Common.{ap, append-nil, append_assoc, arith, cons_option, false, filter_map, flat_map}}
use Rattle.sim_codec.proofs.Common.{is_some, length, List, None, Option, refl, Some, subst, sym, Tells, true, ℕ, [], ◌++◌, ◌+◌, ◌∙◌, ◌∷◌, ◌≡◌, ◌≤◌}

length-cons : {Y : Type 0} (o : Option Y) (ys : List Y) (n : ℕ) → length ys ≤ n → length (cons_option o ys) ≤ n + 1
length-cons None ys n h = omega arith
length-cons (Some y) ys n h = omega arith

pub length-filter_map : {X Y : Type 0} (h : X → Option Y) (xs : List X) → length (filter_map h xs) ≤ length xs
length-filter_map h [] = omega arith
length-filter_map h (x ∷ xs) = omega (arith, length-cons (h x) (filter_map h xs) (length xs) (length-filter_map h xs))

length-not : {Y : Type 0} (o : Option Y) (ys : List Y) → is_some o ≡ false → length (cons_option o ys) ≡ length ys
length-not None ys h = refl
length-not (Some y) ys h = absurd cc

pub one_found : {X Y : Type 0} (h : X → Option Y) (x : X) (xs before : List X) (o : Option Y) → before ≡ x ∷ xs → o ≡ h x → is_some o ≡ true
    → length (filter_map h before) ≡ length (filter_map h xs) + 1
one_found h x xs before o is o-is there = ap (λ ys. length (filter_map h ys)) is ∙ length-cons_option (h x) (filter_map h xs) (ap is_some (sym o-is) ∙ there)

pub none_found : {X Y : Type 0} (h : X → Option Y) (x : X) (xs before : List X) (o : Option Y) → before ≡ x ∷ xs → o ≡ h x → is_some o ≡ false
    → length (filter_map h before) ≡ length (filter_map h xs)
none_found h x xs before o is o-is there = ap (λ ys. length (filter_map h ys)) is ∙ length-not (h x) (filter_map h xs) (ap is_some (sym o-is) ∙ there)

-- the bytes of a row are those of the rows that begin with it, before those of the others
pub some_bytes : {X Y : Type 0} (spelled : Y → List ℕ) (h : X → Option Y) (x : X) (xs before : List X) (y : Y) → before ≡ x ∷ xs → Some y ≡ h x
    → spelled y ++ flat_map spelled (filter_map h xs) ≡ flat_map spelled (filter_map h before)
some_bytes spelled h x xs before y is y-is = rw (is, ← y-is) refl

pub no_bytes : {X Y : Type 0} (spelled : Y → List ℕ) (h : X → Option Y) (x : X) (xs before : List X) → before ≡ x ∷ xs → None ≡ h x
    → flat_map spelled (filter_map h xs) ≡ flat_map spelled (filter_map h before)
no_bytes spelled h x xs before is none = rw (is, ← none) refl

-- a piece, and then what the others tell
pub told_first : {K : Type 0} (holds : K → List ℕ → List ℕ → Type 0) (a b c : K) (x y all : List ℕ) → x ++ y ≡ all → Tells holds a b x → Tells holds b c y
    → Tells holds a c all
told_first holds a b c x y all is p q = λ about told h. subst (λ bytes. holds c about (told ++ bytes)) is
    (subst (holds c about) (append_assoc told x y) (q about (told ++ x) (p about told h)))

pub nothing_told : {X Y K : Type 0} (holds : K → List ℕ → List ℕ → Type 0) (k : K) (spelled : Y → List ℕ) (h : X → Option Y) (xs : List X) → xs ≡ []
    → Tells holds k k (flat_map spelled (filter_map h xs))
nothing_told holds k spelled h xs is = λ about told held. subst (holds k about)
    (sym (ap (λ ys. told ++ flat_map spelled (filter_map h ys)) is ∙ append-nil told)) held
