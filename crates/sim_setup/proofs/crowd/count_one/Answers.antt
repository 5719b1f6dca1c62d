use Rattle.sim_setup.proofs.{CommandLimits.counts_one, Common.arith}

pub returns-then-count-lt-MOST : Rattle.sim_setup.proofs.crowd.count_one.Goals.returns-then-count-lt-MOST
returns-then-count-lt-MOST c = counts_one c.args.counts.now c.args.turn c.args.player c.requires.player (omega (arith, c.requires.covers, c.requires.player))
    c.if-count-lt-MOST.true
