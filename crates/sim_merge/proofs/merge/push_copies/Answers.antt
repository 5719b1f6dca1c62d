use Rattle.sim_merge.proofs.ChildrenLemmas.{followed_by-assoc, followed_by-end, nodes_of-at}
use Rattle.sim_merge.proofs.Common.{[], ap, child, drop, drop_all, followed_by, named_of, no_children, nodes_of, sym, ◌+◌, ◌∙◌, ◌≡◌}

pub loop-child-preserved : Rattle.sim_merge.proofs.merge.push_copies.Goals.loop-child-preserved
loop-child-preserved c =
    let xs = c.args.children.now in
    let x = c.child-item.result in
    let i = c.loop-child.child-index in
    let out = nodes_of c.loop-child.out.items in
    ap (λ cs. followed_by cs (nodes_of (drop (i + 1) xs))) c.in_ok-push_copy.ensures
    ∙ followed_by-assoc out (child (named_of x).0 (named_of x).1 no_children) (nodes_of (drop (i + 1) xs))
    ∙ ap (followed_by out) (sym (nodes_of-at xs i x c.loop-child-test.true c.child-item.is))
    ∙ c.loop-child.invariant

pub returns : Rattle.sim_merge.proofs.merge.push_copies.Goals.returns
returns c =
    let out = nodes_of c.loop-child.out.items in
    let none : drop c.loop-child.child-index c.args.children.now ≡ [] = drop_all c.loop-child.child-index c.args.children.now c.loop-child-test.false in
    sym (followed_by-end out) ∙ ap (λ xs. followed_by out (nodes_of xs)) (sym none) ∙ c.loop-child.invariant
