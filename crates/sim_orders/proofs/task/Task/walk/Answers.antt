use Rattle.sim_orders.proofs.{Common.sym, Common.◌∙◌, Planning.answers_same, Planning.sorted_changes}
use Rattle.sim_orders.proofs.Common.{◌≡◌, true, [], cond-true, is_inside, ordered_changes, rules, sent_changes, size_of}

pub returns-clause-value : Rattle.sim_orders.proofs.task.Task.walk.Goals.returns-clause-value
returns-clause-value c =
    let task = c.args.self.now in
    let ids = c.args.ids.now in
    let to = c.args.to.now in
    let inside : is_inside (size_of task.setup.now.land) to ≡ true = search rules in
    answers_same c.sent.result _ _ (sorted_changes task.player ids c.in_ok-named.named.ids (sent_changes to) c.as_slice.result.now task.state.now
    c.in_ok-named.ensures c.as_slice.ensures ∙
    sym (cond-true (is_inside (size_of task.setup.now.land) to) (ordered_changes task.player ids (sent_changes to) task.state.now) [] inside)) c.sent.ensures
