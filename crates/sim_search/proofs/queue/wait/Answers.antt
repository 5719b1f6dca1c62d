use Rattle.sim_search.proofs.Common.{get_or_default, IfOk-from_err, is_lower_than, ltb-true, subst, sym, ◌∙◌}
use Rattle.sim_search.proofs.Common.{◌≡◌, ℕ, ◌+◌, ◌%◌, List, [], ◌∷◌, ◌++◌, map, get_or, set, nat_eq, refl, ap, arith, Cell}

pub returns : Rattle.sim_search.proofs.queue.wait.Goals.returns
returns g c =
    let old = c.args.search.now in
    let b = c.bucket.result in
    let to = c.args.to in
    let key : b ≡ (c.args.total + g.A.Guide.estimate_of c.args.aim to) % 32 =
    c.bucket.ensures.is ∙ ap (λ (n : ℕ). (c.args.total + n) % 32) c.estimate.ensures.is in
    let now = c.index_mut-waiting.result.now in
    let had : c.index_mut-waiting.result.now ≡ get_or old.buckets.items b [] = c.index_mut-waiting.ensures.value ∙ get_or_default old.buckets.items b now []
    (omega (arith, old.ring, old.buckets.ok.0, c.bucket.ensures.below)) in
    let pushed : c.push.new.self ≡ get_or old.buckets.items b [] ++ to ∷ [] = c.in_ok-push.ensures.ok ∙ ap (λ (l : List Cell). l ++ to ∷ []) had in
    record {
      higher = λ d e. ltb-true c.args.total d (ap (is_lower_than c.args.total) (sym e) ∙ c.requires.lower);
      size_is = c.set.ensures.size;
      here = c.set.ensures.here;
      elsewhere = c.set.ensures.elsewhere;
      start_is = refl;
      taken_is = ap (λ (n : ℕ). map (λ (t : ℕ). nat_eq t n) old.taken.items) c.set.ensures.stamp;
      queued = subst (λ (n : ℕ). set old.buckets.items b c.push.new.self ≡ set old.buckets.items n (get_or old.buckets.items n [] ++ to ∷ [])) key
          (ap (set old.buckets.items b) pushed);
    }

pub returns-in_err-push : Rattle.sim_search.proofs.queue.wait.Goals.returns-in_err-push
returns-in_err-push g c = IfOk-from_err _ _ c.from_residual.ensures.0
