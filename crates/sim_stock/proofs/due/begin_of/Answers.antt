-- The test of the closure parts a list that ascends by turns.
use Rattle.sim_stock.proofs.Common.{nat_lt, DatedDeed, IsPartitionedBy-ltb, IsPartitionPoint-from_clause, rules}

pub returns-clause-point : Rattle.sim_stock.proofs.due.begin_of.Goals.returns-clause-point
returns-clause-point c =
    let deeds = c.args.deeds.now in
    IsPartitionPoint-from_clause (λ (dated : DatedDeed). nat_lt dated.turn c.args.turn) deeds c.partition_point.result c.partition_point.ensures.partitioned
    (IsPartitionedBy-ltb (λ (dated : DatedDeed). dated.turn) deeds c.args.turn c.requires) (λ a r f called. search rules)
