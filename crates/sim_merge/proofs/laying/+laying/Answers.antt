use Rattle.sim_merge.proofs.laying.+laying.Goals as goal
use Rattle.sim_merge.proofs.ChildrenLemmas.{IfBadOp-weaker, merged-step, nodes_of-child, refused-step, unmarked-refused, unmarked-there}
use Rattle.sim_merge.proofs.Common.{ap, behind, child_named, drop, IfBadOp, IsPast, laid, laid_under, laid_unmarked, laying_of, List, lower_children, node_if}
use Rattle.sim_merge.proofs.Common.{node_of, nodes_of, None, out-Child, refl, refused, rules, subst, sym, with_lower, ℕ, ◌+◌, ◌∙◌, ◌≡◌}

pub merged-loop-child-preserved : goal.merged-loop-child-preserved
merged-loop-child-preserved t c =
    let xs = c.args.upper.now in
    let x = c.child-item.result in
    let i = c.loop-child.child-index in
    let name = (out-Child x).name in
    let n = node_of (out-Child x).tree in
    let old = nodes_of c.loop-child.children.items in
    let pushed = nodes_of c.push_before.new.out.items in
    let new = nodes_of c.push_laid.new.out.items in
    let lower = nodes_of c.loop-child.rest.now in
    let rest = nodes_of c.in_ok-rest.rest.now in
    let left = nodes_of c.behind-rest.result.now in
    let same = c.as_str-name.ensures in
    let PastAt : List ℕ → Type 0 = λ y. IsPast y old pushed lower rest in
    let past : IsPast name old pushed lower rest = subst PastAt same c.in_ok-rest.ensures in
    let step = merged-step name n old pushed new lower rest left (laying_of c.in_ok-laid.laid) past
    (ap (λ y. laid (child_named y rest) n) (sym same) ∙ ap (λ b. laid b n) (sym c.first_named.ensures.named) ∙ c.in_ok-laid.ensures.laid)
    c.in_ok-push_laid.ensures (c.behind-rest.ensures.rest ∙ ap (λ y. behind y rest) same) (nodes_of (drop (i + 1) xs)) in
    record {
      merged = sym step ∙ ap (λ cs. with_lower old (laid_under lower cs)) (sym (nodes_of-child xs i x c.loop-child-test.true c.child-item.is))
          ∙ c.loop-child.invariant.merged;
      sound = c.behind-rest.ensures.sound;
    }

pub merged-returns-in_err-laid : goal.merged-returns-in_err-laid
merged-returns-in_err-laid t c =
    let xs = c.args.upper.now in
    let x = c.child-item.result in
    let i = c.loop-child.child-index in
    let name = (out-Child x).name in
    let n = node_of (out-Child x).tree in
    let old = nodes_of c.loop-child.children.items in
    let pushed = nodes_of c.push_before.new.out.items in
    let lower = nodes_of c.loop-child.rest.now in
    let rest = nodes_of c.in_ok-rest.rest.now in
    let same = c.as_str-name.ensures in
    let fault = c.in_err-laid.field-0.0 in
    let PastAt : List ℕ → Type 0 = λ y. IsPast y old pushed lower rest in
    let past : IsPast name old pushed lower rest = subst PastAt same c.in_ok-rest.ensures in
    let told : IfBadOp fault (laid_under (nodes_of c.args.lower.now) (nodes_of xs) ≡ None) =
    IfBadOp-weaker fault _ _
    (λ e. sym c.loop-child.invariant.merged
    ∙ ap (λ cs. with_lower old (laid_under lower cs)) (nodes_of-child xs i x c.loop-child-test.true c.child-item.is)
    ∙ ap (with_lower old) (refused-step name n old pushed lower rest past
    (ap (λ y. laid (child_named y rest) n) (sym same) ∙ ap (λ b. laid b n) (sym c.first_named.ensures.named) ∙ e) (nodes_of (drop (i + 1) xs))))
    c.in_err-laid.ensures.laid in
    search rules

pub unmarked-returns-in_err-children : goal.unmarked-returns-in_err-children
unmarked-returns-in_err-children t c =
    let upper = c.args.upper.now in
    let fact : IfBadOp c.in_err-children.field-0.0 (laid_unmarked (node_if c.args.lower) (node_of upper) ≡ refused) =
    IfBadOp-weaker c.in_err-children.field-0.0 _ _
    (λ e. unmarked-refused (node_if c.args.lower) upper
    (ap (λ xs. laid_under (lower_children (node_if c.args.lower)) (nodes_of xs)) (sym c.as_slice.ensures.value)
    ∙ ap (λ cs. laid_under cs (nodes_of c.as_slice.result.now)) (sym c.children_of.ensures) ∙ e))
    c.in_err-children.ensures in
    search rules

pub unmarked-returns : goal.unmarked-returns
unmarked-returns t c =
    let upper = c.args.upper.now in
    unmarked-there (node_if c.args.lower) upper _ c.in_ok-value.ensures refl
    (ap (λ xs. laid_under (lower_children (node_if c.args.lower)) (nodes_of xs)) (sym c.as_slice.ensures.value)
    ∙ ap (λ cs. laid_under cs (nodes_of c.as_slice.result.now)) (sym c.children_of.ensures) ∙ c.in_ok-children.ensures)
