use Rattle.sim_search.proofs.Beginning.{only_first, queued_first}
use Rattle.sim_search.proofs.Common.{◌+◌, ◌%◌, false, Bool, List, [], ◌∷◌, ◌++◌, get_or, Contains, refl, ap₂, arith, Cell, entry_at, IfOk-from_err, Size, subst, sym, ◌∙◌}
use Rattle.sim_search.proofs.queue.begun.Goals as goal

pub returns : goal.returns
returns g c =
    let start = c.args.origin.start in
    let s = c.in_ok-search.search in
    let b = c.in_ok-search.ensures in
    let w = c.in_ok-wait.ensures in
    let n = g.A.Guide.estimate_of c.args.aim start in
    record {
      start_is = w.start_is ∙ b.start_is;
      size_is = w.size_is ∙ b.size_is;
      here = w.here;
      elsewhere = λ e ne. w.elsewhere e ne ∙ b.none_reached e;
      none_taken = λ e. ap₂ (λ (size : Size) (xs : List Bool). entry_at false size xs e) w.size_is w.taken_is ∙ b.none_taken e;
      queued = subst (λ (xs : List (List Cell)). Contains (get_or xs (n % 32) []) start) (sym w.queued)
          (queued_first s.buckets.items ((0 + n) % 32) (n % 32) (get_or s.buckets.items ((0 + n) % 32) [])
          (get_or s.buckets.items ((0 + n) % 32) [] ++ start ∷ []) start (omega arith) (omega (arith, s.ring, s.buckets.ok.0)) refl);
      only = λ at e lt is_in. only_first s.buckets.items ((0 + n) % 32) at start e (omega (arith, s.ring, s.buckets.ok.0)) (omega arith) lt b.none_wait
          (subst (λ (xs : List (List Cell)). Contains (get_or xs at []) e) w.queued is_in);
    }

pub returns-in_err-search : goal.returns-in_err-search
returns-in_err-search g c = IfOk-from_err _ _ c.from_residual.ensures.0

pub returns-in_err-wait : goal.returns-in_err-wait
returns-in_err-wait g c = IfOk-from_err _ _ c.from_residual-in_err-wait.ensures.0
