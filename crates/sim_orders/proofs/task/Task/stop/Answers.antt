use Rattle.sim_orders.proofs.{Common.stop_changes, Planning.answers_same, Planning.sorted_changes}

pub returns : Rattle.sim_orders.proofs.task.Task.stop.Goals.returns
returns c =
    let task = c.args.self.now in
    answers_same c.stopped.result _ _ (sorted_changes task.player c.args.ids.now c.in_ok-named.named.ids stop_changes c.as_slice.result.now task.state.now
    c.in_ok-named.ensures c.as_slice.ensures) c.stopped.ensures
