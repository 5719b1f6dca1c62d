use Rattle.sim_orders.proofs.{Common.{ap, cond, flat_map, List, Owner, Row, [], ◌==◌, ◌∷◌}, Planning.answers_same}

pub returns-clause-value : Rattle.sim_orders.proofs.task.Task.resign.Goals.returns-clause-value
returns-clause-value c =
    let player = c.args.self.now.player in
    answers_same c.resigned.result _ _
    (ap (λ (rows : List Row). flat_map (λ (row : Row). cond (row.owner == player) (Owner row.id 0 ∷ []) []) rows) c.as_slice.ensures) c.resigned.ensures.value
