-- Those of one bucket more, or nobody where the bucket is out of reach.
use Rattle.sim_range.proofs.{Common.within_among, Common.◌∙◌, crowd.Crowd.within.Goals.else-touches, crowd.Crowd.within.Goals.then-touches+in_ok-push_near-2}
use Rattle.sim_range.proofs.Common.{ℕ, List, ◌++◌, vec_items, IsPermutation, ap, arith, below_bucket, Fact, held_in, IsNonDecreasingBy-from_sort, subst}
use Rattle.sim_range.proofs.Nearing.{all_chosen, beyond_by, bucket_held, lent_held, more_chosen, near_by, none_beyond, nothing_more, start_chosen}
use Rattle.sim_range.proofs.crowd.Crowd.within.Goals as goal

pub loop-number-init : goal.loop-number-init
loop-number-init c = start_chosen (near_by c.args.circle.now.at c.args.circle.now.radius c.args.circle.now.mask) c.args.self.now.held.facts.now
    c.new-ids.result.items c.new-ids.ensures.items

pub push_near-requires-then-touches-clause-held : goal.push_near-requires-then-touches-clause-held
push_near-requires-then-touches-clause-held c =
    bucket_held c.args.self.now.held.land.now c.args.self.now.held.facts.now c.loop-number.number c.args.self.now.buckets.now c.index-buckets-number.result _
    c.args.self.now.sorted.holds c.args.self.now.sorted.bucketed
    (grind arith) c.index-buckets-number.is c.as_slice.ensures.value

pub loop-number-preserved : goal.loop-number-preserved
loop-number-preserved c =
    let k = c.loop-number.number in
    let facts = c.args.self.now.held.facts.now in
    let ids = c.loop-number.ids.items in
    let near = near_by c.args.circle.now.at c.args.circle.now.radius c.args.circle.now.mask in
    elim c.if-touches.branch [
      | then-touches+in_ok-push_near-2 w ↦
          more_chosen near k facts ids _ c.loop-number.invariant
          (ap vec_items w.ids-is ∙ w.in_ok-push_near-2.ensures
          ∙ ap (λ (fs : List Fact). ids ++ within_among fs c.args.circle.now.at c.args.circle.now.radius c.args.circle.now.mask)
          (lent_held facts k c.args.self.now.buckets.now c.index-buckets-number.result _ c.args.self.now.sorted.bucketed (grind arith) c.index-buckets-number.is
          w.as_slice.ensures.value))
      | else-touches w ↦
          more_chosen near k facts ids _ c.loop-number.invariant
          (ap vec_items w.ids-is
          ∙ nothing_more ids (within_among (held_in k facts) c.args.circle.now.at c.args.circle.now.radius c.args.circle.now.mask)
          (none_beyond k c.args.circle.now.mask c.args.circle.now.at c.args.circle.now.radius facts c.args.self.now.sorted.placed
          (beyond_by k c.args.circle.now.at c.args.circle.now.radius c.reach_of-reach.result c.touches.result c.reach_of-reach.ensures w.if-touches.false
          c.touches.ensures)))
    ]

pub returns : goal.returns
returns c =
    c.from_items-2.ensures
    ∙ all_chosen (near_by c.args.circle.now.at c.args.circle.now.radius c.args.circle.now.mask) c.args.self.now.held.facts.now c.loop-number.ids.items _
    c.args.self.now.sorted.holds.held.ascending c.args.self.now.sorted.placed
    (subst (λ (n : ℕ). IsPermutation (within_among (below_bucket n c.args.self.now.held.facts.now) c.args.circle.now.at c.args.circle.now.radius
    c.args.circle.now.mask) c.loop-number.ids.items)
    (grind arith) c.loop-number.invariant) c.sort_unstable.ensures.permutation
    (IsNonDecreasingBy-from_sort (λ (n : ℕ). n) _ c.sort_unstable.ensures.sorted)
