use Rattle.{sim_base.proofs.RootLemmas.root_is, std.proofs.Common.sym}

pub returns-clause-value : Rattle.sim_base.proofs.number.root.Goals.returns-clause-value
returns-clause-value c = sym (root_is c.args.n c.isqrt.result (record { within = c.isqrt.ensures.square_le; above = c.isqrt.ensures.next_square_gt }))
