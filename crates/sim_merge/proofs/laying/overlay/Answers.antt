use Rattle.sim_merge.proofs.laying.overlay.Goals as goal
use Rattle.sim_merge.proofs.{ChildrenLemmas.IfBadOp-weaker, Common.{IfBadOp, IsRefused, laid, node_of, rules, Some, ◌∙◌}}
use Rattle.sim_merge.proofs.{FitLemmas.{laid-resolved, laid-unmarked, mark_of-layable, there-resolved}, RefusalLemmas.{has-laid, is-refused}}

pub returns-clause-resolved : goal.returns-clause-resolved
returns-clause-resolved c =
    let lower = node_of c.args.lower.now in
    let upper = node_of c.args.upper.now in
    there-resolved (laid (Some lower) upper) (node_of c.in_ok-tree.tree)
    (laid-unmarked (Some lower) upper (mark_of-layable upper c.requires.upper) ∙ c.in_ok-tree.ensures)
    (laid-resolved lower upper c.requires.lower c.requires.upper)

pub returns-clause-paths : goal.returns-clause-paths
returns-clause-paths c =
    let lower = node_of c.args.lower.now in
    let upper = node_of c.args.upper.now in
    has-laid lower upper (node_of c.in_ok-tree.tree) c.requires.lower c.requires.upper
    (laid-unmarked (Some lower) upper (mark_of-layable upper c.requires.upper) ∙ c.in_ok-tree.ensures)

pub returns-in_err-tree-clause-bad : goal.returns-in_err-tree-clause-bad
returns-in_err-tree-clause-bad c =
    let lower = node_of c.args.lower.now in
    let upper = node_of c.args.upper.now in
    let fault = c.in_err-tree.field-0.0 in
    let told : IfBadOp fault (IsRefused lower upper) =
    IfBadOp-weaker fault _ _ (λ e. is-refused lower upper c.requires.upper (laid-unmarked (Some lower) upper (mark_of-layable upper c.requires.upper) ∙ e))
    c.in_err-tree.ensures in
    search rules
