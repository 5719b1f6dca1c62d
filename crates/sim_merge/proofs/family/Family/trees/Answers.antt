use Rattle.sim_merge.proofs.Common.{◌≡◌, Some, arith, IfRefusal, layings, origins_of, refusal_at, root_refusal, roots_in, rules}
use Rattle.sim_merge.proofs.KeepingLemmas.{all-collected, IfRefusal-refused, root_refusal-at, root_refusal-none}
use Rattle.sim_merge.proofs.family.Family.trees.Goals as goal

pub returns-in-Err-clause-refused : goal.returns-in-Err-clause-refused
returns-in-Err-clause-refused c =
    let parents = c.args.self.now.parents.now in
    let roots = roots_in (origins_of c.args.self.now.sources.now) in
    let number = c.loop-number.number in
    let told : IfRefusal (refusal_at number c.in-Err.fault) (root_refusal (layings parents roots) ≡ Some (refusal_at number c.in-Err.fault)) =
    IfRefusal-refused c.in-Err.fault number _ _
    (root_refusal-at parents roots c.loop-number.kept.items number c.loop-number-test.true c.loop-number.invariant.kept c.loop-number.invariant.has)
    c.in-Err.ensures.refused in
    search rules

pub returns-clause-resolved : goal.returns-clause-resolved
returns-clause-resolved c =
    all-collected c.args.self.now.parents.now (roots_in (origins_of c.args.self.now.sources.now)) c.loop-number.kept.items c.in_ok-taken.field-0.items
    c.loop-number.invariant.kept
    (λ k h. c.loop-number.invariant.has k (omega (arith, c.loop-number-test.false))) c.args.self.now.layable c.in_ok-taken.ensures

pub returns-clause-refused : goal.returns-clause-refused
returns-clause-refused c =
    root_refusal-none c.args.self.now.parents.now (roots_in (origins_of c.args.self.now.sources.now)) c.loop-number.kept.items
    c.loop-number.invariant.kept
    (λ k h. c.loop-number.invariant.has k (omega (arith, c.loop-number-test.false)))
