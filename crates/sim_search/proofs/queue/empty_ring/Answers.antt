use Rattle.sim_search.proofs.Common.{◌≡◌, ℕ, List, [], ◌∷◌, ◌++◌, replicate, ap, ap₂, arith, Cell, IfOk-from_err, replicate_more, ◌∙◌}
use Rattle.sim_search.proofs.queue.empty_ring.Goals as goal

pub loop-init : goal.loop-init
loop-init c = c.new-buckets.ensures.items

pub returns-in_err-push : goal.returns-in_err-push
returns-in_err-push c = IfOk-from_err _ _ c.from_residual.ensures.0

pub loop-preserved : goal.loop-preserved
loop-preserved c = c.in_ok-push.ensures.items ∙ ap₂ (λ (v : List (List Cell)) (b : List Cell). v ++ b ∷ []) c.loop.invariant c.new.ensures ∙
    replicate_more c.loop.counter []

pub returns : goal.returns
returns c =
    let all : c.loop.counter ≡ 32 = omega (arith, c.loop.auto.counter-end, c.loop-test.false) in
    c.loop.invariant ∙ ap (λ (n : ℕ). replicate n []) all
