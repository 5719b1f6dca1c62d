use Rattle.sim_orders.proofs.Planning.{answers_same, sorted_removals}

pub returns : Rattle.sim_orders.proofs.task.Task.delete.Goals.returns
returns c =
    let task = c.args.self.now in
    answers_same c.deleted.result _ _ (sorted_removals task.player c.args.ids.now c.in_ok-named.named.ids c.as_slice.result.now task.state.now
    c.in_ok-named.ensures c.as_slice.ensures) c.deleted.ensures
