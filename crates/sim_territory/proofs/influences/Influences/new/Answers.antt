-- Nobody holds a cell at first.
use Rattle.sim_territory.proofs.{Common.refl, Keeping.nobody_holds}

pub invariant_of-result : Rattle.sim_territory.proofs.influences.Influences.new.Goals.invariant_of-result
invariant_of-result c = record {
  agree = nobody_holds c.args.sums c.in_ok-holders.holders.items c.args.sums.width c.args.sums.depth c.args.sums.players refl refl c.requires
      c.in_ok-holders.ensures;
}
