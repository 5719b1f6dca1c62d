use Rattle.sim_tree.proofs.{Ascends.tree_levels, Common.false, Common.height, Common.nat_lt, Common.rules, Common.view, Common.◌≡◌}

pub returns-clause-levels : Rattle.sim_tree.proofs.tree.Tree.from_json.Goals.returns-clause-levels
returns-clause-levels c =
    let few : nat_lt 32 (height (view c.args.value.now)) ≡ false = search rules in
    tree_levels c.read_node.result (view c.args.value.now) few c.read_node.ensures.tree
