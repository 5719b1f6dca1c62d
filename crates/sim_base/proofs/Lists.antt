-- Short facts of std's words that several crates name: numbers one behind the other, a text that is itself, a part that is there, nothing in an
-- empty list, and what follows from a call that was done.
use Rattle.std.proofs.{Common.arith, Common.bytes_eq, Common.sym, Common.◌∙◌, lemmas.List.FromFn.map-range_with_len_more, lemmas.Slice.Eq.bytes_eq-Decides}
use Rattle.std.proofs.Common.{◌≡◌, ℕ, ◌+◌, true, List, [], ◌∷◌, ◌++◌, map, length, is_some, OnOk, Some, None, Ok, Err, Option, Result, Contains, refl, ap}
use Rattle.std.specs.List.{cons_option, range_with_len}

pub range_with_len_more : (a n : ℕ) → range_with_len a (n + 1) ≡ range_with_len a n ++ (a + n) ∷ []
range_with_len_more a n = map-is _ ∙ map-range_with_len_more (λ (k : ℕ). k) a n (a + n) refl ∙ ap (λ (xs : List ℕ). xs ++ (a + n) ∷ []) (sym (map-is _))
  where
    map-is : (xs : List ℕ) → xs ≡ map (λ (k : ℕ). k) xs
    map-is [] = refl
    map-is (x ∷ xs) = ap (λ (ys : List ℕ). x ∷ ys) (map-is xs)

pub bytes_eq-same : (xs : List ℕ) → bytes_eq xs xs ≡ true
bytes_eq-same xs = (bytes_eq-Decides xs xs).1 refl

pub length-cons_option : {Y : Type 0} (o : Option Y) (ys : List Y) → is_some o ≡ true → length (cons_option o ys) ≡ length ys + 1
length-cons_option None ys e = absurd cc
length-cons_option (Some y) ys e = omega arith

pub nothing_in : {X : Type 0} (x : X) → Contains [] x → ⊥
nothing_in x (k, h, is) = omega arith

pub on_ok : {V E : Type 0} (r : Result V E) (P Q : Type 0) → (P → Q) → OnOk r P → OnOk r Q
on_ok (Ok v) P Q f h = f h
on_ok (Err e) P Q f h = tt
