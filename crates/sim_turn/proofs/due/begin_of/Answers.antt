-- The test of the closure parts a list that ascends by turns.
use Rattle.std.proofs.{Common.rules, lemmas.List.Sorted.IsPartitionedBy-ltb, lemmas.List.Sorted.IsPartitionPoint-from_clause}
use Rattle.sim_turn.proofs.{Common.nat_lt, Common.Timed, Stretches.rising}

pub returns-clause-point : Rattle.sim_turn.proofs.due.begin_of.Goals.returns-clause-point
returns-clause-point c =
    let timeds = c.args.timeds.now in
    IsPartitionPoint-from_clause (λ (timed : Timed). nat_lt timed.turn c.args.turn) timeds c.partition_point.result c.partition_point.ensures.partitioned
    (IsPartitionedBy-ltb (λ (timed : Timed). timed.turn) timeds c.args.turn (rising timeds c.requires)) (λ a r f called. search rules)
