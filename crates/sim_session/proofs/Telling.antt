-- What is told of one client more, and of one event more.
use Rattle.sim_session.proofs.TextCommon.{◌≡◌, ℕ, zero, suc, ◌+◌, ◌<◌, ◌≤◌, List, ◌++◌, refl, add-one, ap, append_assoc, arith, sym, told_of, ◌∙◌}

-- the line of one more stands behind those so far
pub told_more : (tell : ℕ → List ℕ) (i : ℕ) (start old new : List ℕ) → old ≡ start ++ told_of tell i → new ≡ old ++ tell (i + 1)
    → new ≡ start ++ told_of tell (i + 1)
told_more tell i start old new old-is new-is =
    new-is ∙ ap (λ (l : List ℕ). l ++ tell (i + 1)) old-is ∙ append_assoc start (told_of tell i) (tell (i + 1))
    ∙ ap (λ n. start ++ (told_of tell i ++ tell n)) (add-one i) ∙ ap (λ n. start ++ told_of tell n) (sym (add-one i))

-- the same is told of each, and so of all
pub told_same : (f g : ℕ → List ℕ) (n : ℕ) → ((c : ℕ) → 0 < c → c ≤ n → f c ≡ g c) → told_of f n ≡ told_of g n
told_same f g zero same = refl
told_same f g (suc n) same =
    let rest : told_of f n ≡ told_of g n = told_same f g n (λ c low high. same c low (omega (arith, high))) in
    let last : f (suc n) ≡ g (suc n) = same (suc n) (omega arith) (omega arith) in
    cc
