use Rattle.sim_merge.proofs.ChildrenLemmas.{with_lower-child, with_lower-followed_by}
use Rattle.sim_merge.proofs.Common.{ap, child, laying_of, no_children, node_of, nodes_of, sym, with_laid, with_lower, ◌∙◌}

pub returns-in_ok-push_child-in-Some : Rattle.sim_merge.proofs.merge.push_laid.Goals.returns-in_ok-push_child-in-Some
returns-in_ok-push_child-in-Some c =
    let old = nodes_of c.args.out.now.items in
    let name = c.args.name.now in
    let n = node_of c.in-Some.tree in
    λ more. ap (λ tree. with_lower old (with_laid name (laying_of tree) more)) c.in-Some.is
    ∙ ap (with_lower old) (sym (with_lower-child name n more))
    ∙ sym (with_lower-followed_by old (child name n no_children) more)
    ∙ ap (λ cs. with_lower cs more) (sym c.in_ok-push_child-in-Some.ensures)
