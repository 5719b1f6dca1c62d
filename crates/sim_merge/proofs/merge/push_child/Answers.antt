use Rattle.sim_merge.proofs.{ChildrenLemmas.nodes_of-push, Common.{ap, child, followed_by, no_children, node_of, nodes_of, ◌∙◌}}

pub returns : Rattle.sim_merge.proofs.merge.push_child.Goals.returns
returns c =
    ap nodes_of c.in_ok-push.ensures.items ∙ nodes_of-push c.args.out.now.items _
    ∙ ap (λ name. followed_by (nodes_of c.args.out.now.items) (child name (node_of c.args.tree) no_children)) c.in_ok-name.ensures
