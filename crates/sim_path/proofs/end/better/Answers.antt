use Rattle.sim_path.proofs.Common.{is_lt, is_some_and, Less, nat_cmp, Ordering, ordering_then, partial_lt, partial_ordering_then, slice_cmp, slice_partial_cmp}
use Rattle.sim_path.proofs.Common.{sym, ◌∙◌}
use Rattle.sim_path.proofs.Common.{◌≡◌, ℕ, Bool, List, [], ◌∷◌, Some, Option, refl, ap, ap₂, as_partial_cmp, cond-false, cond-true, Equal, Greater, is_before}

first_then : (o : Ordering) (p : Option Ordering) (r : Ordering) → p ≡ Some r → partial_ordering_then (Some o) p ≡ Some (ordering_then o r)
first_then Less p r e = refl
first_then Equal p r e = e
first_then Greater p r e = refl

compared : (xs ys : List ℕ) → slice_partial_cmp (as_partial_cmp nat_cmp) xs ys ≡ Some (slice_cmp nat_cmp xs ys)
compared [] [] = refl
compared [] (y ∷ ys) = refl
compared (x ∷ xs) [] = refl
compared (x ∷ xs) (y ∷ ys) = first_then (nat_cmp x y) (slice_partial_cmp (as_partial_cmp nat_cmp) xs ys) (slice_cmp nat_cmp xs ys) (compared xs ys)

before : (xs ys k l : List ℕ) {t b : Bool} → k ≡ xs → l ≡ ys → t ≡ partial_lt (slice_partial_cmp (as_partial_cmp nat_cmp)) k l → t ≡ b → is_before xs ys ≡ b
before xs ys k l e f g h = ap (is_some_and is_lt) (sym (compared xs ys)) ∙ ap₂ (partial_lt (slice_partial_cmp (as_partial_cmp nat_cmp))) (sym e) (sym f) ∙
    sym g ∙ h

pub returns-then-lt : Rattle.sim_path.proofs.end.better.Goals.returns-then-lt
returns-then-lt c = sym (cond-true _ c.args.other c.args.best (before _ _ c.key.result c.key-2.result c.key.ensures c.key-2.ensures c.lt.ensures c.if-lt.true))

pub returns-else-lt : Rattle.sim_path.proofs.end.better.Goals.returns-else-lt
returns-else-lt c = sym (cond-false _ c.args.other c.args.best (before _ _ c.key.result c.key-2.result c.key.ensures c.key-2.ensures c.lt.ensures
    c.if-lt.false))
