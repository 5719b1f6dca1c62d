-- Nothing was passed over yet.
use Rattle.sim_replay.proofs.{Aparts.from_start, Common.arith}

pub loop-rest-init : Rattle.sim_replay.proofs.apart.search.Goals.loop-rest-init
loop-rest-init c = record { same = from_start c.args.told.now c.args.played.now; counted = omega arith }
