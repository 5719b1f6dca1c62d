-- What is kept of several facts, one after another.
use Rattle.sim_fact_lists.proofs.Common.{cons_option, Fact, kept, kept_of, Kind, sym, ◌∙◌}
use Rattle.sim_fact_lists.proofs.Common.{◌≡◌, ℕ, zero, suc, ◌+◌, ◌<◌, List, [], ◌∷◌, ◌++◌, length, get_or, take, Some, None, Option, refl, ap, arith}

-- what is kept of one fact more
cons_option-append : (o : Option Fact) (xs ys : List Fact) → cons_option o (xs ++ ys) ≡ cons_option o xs ++ ys
cons_option-append None xs ys = refl
cons_option-append (Some f) xs ys = refl

kept_of-next : (kind : Kind) (facts : List Fact) (i : ℕ) (d : Fact) → i < length facts → kept_of kind (take (suc i) facts) ≡ kept_of kind (take i facts) ++
    cons_option (kept kind (get_or facts i d)) []
kept_of-next kind [] i d below = absurd (omega arith)
kept_of-next kind (f ∷ facts) zero d below = refl
kept_of-next kind (f ∷ facts) (suc i) d below =
    ap (cons_option (kept kind f)) (kept_of-next kind facts i d (omega arith)) ∙ cons_option-append (kept kind f) (kept_of kind (take i facts))
    (cons_option (kept kind (get_or facts i d)) [])

pub kept_of-more : (kind : Kind) (facts all after : List Fact) (i : ℕ) (f : Fact) → all ≡ kept_of kind (take i facts) → i < length facts → f ≡ get_or facts i f
    → after ≡ all ++ cons_option (kept kind f) [] → after ≡ kept_of kind (take (i + 1) facts)
kept_of-more kind facts all after i f is below here more =
    let next : suc i ≡ i + 1 = omega arith in
    more ∙ ap (λ (fs : List Fact). fs ++ cons_option (kept kind f) []) is ∙ ap (λ (g : Fact). kept_of kind (take i facts) ++ cons_option (kept kind g) []) here
    ∙ sym (kept_of-next kind facts i f below) ∙ ap (λ (n : ℕ). kept_of kind (take n facts)) next

pub nothing_more : (all : List Fact) → all ≡ all ++ []
nothing_more [] = refl
nothing_more (f ∷ all) = ap (λ (fs : List Fact). f ∷ fs) (nothing_more all)
