use Rattle.sim_search.proofs.{Coming.come-past, Common.subst, Common.sym, Common.take_all, Common.take_more, Common.true≢false, Common.◌∙◌}
use Rattle.sim_search.proofs.Common.{◌≡◌, ℕ, ◌+◌, ◌≤◌, List, [], ◌∷◌, ◌++◌, get_or, take, Some, None, refl, arith, Cell, Contains-get_or, cost_in, IsComeTo}
use Rattle.sim_search.proofs.drain.is_come_to.Goals.{in-Some+else-cost-now, in_default}
use Rattle.sim_search.proofs.drain.is_come_to.Goals as goal

pub loop-end-init : goal.loop-end-init
loop-end-init c come = let (k, h, is) = come.among in omega (arith, h)

pub loop-end-preserved : goal.loop-end-preserved
loop-end-preserved c =
    let cost = cost_in c.args.costs.now in
    let xs = c.args.ends.now in
    let i = c.loop-end.end-index in
    let x : Cell = get_or xs i (record { x = 0; z = 0 }) in
    let more : take (i + 1) xs ≡ take i xs ++ x ∷ [] = take_more xs i (record { x = 0; z = 0 }) c.loop-end-test.true in
    let past : ((v : ℕ) → cost x ≡ Some v → c.args.now ≤ v) → IsComeTo cost (take (i + 1) xs) c.args.now → ⊥ =
    λ late come. come-past cost (take i xs) x c.args.now late c.loop-end.invariant (subst (λ (l : List Cell). IsComeTo cost l c.args.now) more come) in
    elim c.match-at.branch [
      | in-Some+else-cost-now w ↦ past (λ v e. let both : Some w.in-Some.cost ≡ Some v = sym w.in-Some.is ∙ c.at.ensures ∙ e in let same : w.in-Some.cost ≡ v =
          cc in omega (arith, w.if-cost-now.false, same))
      | in_default w ↦ past (λ v e. let both : None ≡ Some v = sym w.in_default.is ∙ c.at.ensures ∙ e in let never : ⊥ = cc in absurd never)
    ]

pub returns-then-cost-now : goal.returns-then-cost-now
returns-then-cost-now c =
    let first : Cell = record { x = 0; z = 0 } in (
      λ t. record {
        end = get_or c.args.ends.now c.loop-end.end-index first;
        value = c.in-Some.cost;
        among = Contains-get_or c.args.ends.now c.loop-end.end-index first c.loop-end-test.true;
        reached = sym c.at.ensures ∙ c.in-Some.is;
        below = c.if-cost-now.true;
      },
      λ come. refl,
    )

pub returns : goal.returns
returns c = (
  λ t. absurd (true≢false (sym t)),
  λ (come : IsComeTo (cost_in c.args.costs.now) c.args.ends.now c.args.now).
      absurd (c.loop-end.invariant (subst (λ (l : List Cell). IsComeTo (cost_in c.args.costs.now) l c.args.now)
      (sym (take_all c.loop-end.end-index c.args.ends.now c.loop-end-test.false)) come)),
)
