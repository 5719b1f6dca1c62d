use Rattle.sim_orders.proofs.{Common.sym, Common.◌∙◌, Planning.answers_same, Planning.sorted_changes}
use Rattle.sim_orders.proofs.Common.{◌≡◌, true, [], cond-true, is_enemy, ordered_changes, row_of, rules, set_on_changes}

pub returns-clause-value : Rattle.sim_orders.proofs.task.Task.attack.Goals.returns-clause-value
returns-clause-value c =
    let task = c.args.self.now in
    let ids = c.args.ids.now in
    let target = c.args.target in
    let enemy : is_enemy task.setup.now task.player (row_of task.state.now target) ≡ true = search rules in
    answers_same c.set_on.result _ _ (sorted_changes task.player ids c.in_ok-named.named.ids (set_on_changes target) c.as_slice.result.now task.state.now
    c.in_ok-named.ensures c.as_slice.ensures ∙
    sym (cond-true (is_enemy task.setup.now task.player (row_of task.state.now target)) (ordered_changes task.player ids (set_on_changes target)
    task.state.now) [] enemy)) c.set_on.ensures
