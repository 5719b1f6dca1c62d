-- The rest of the walk gives the walk.
use Rattle.{sim_base.specs.Places.IsPlaced, sim_base.specs.Turn.walked, std.proofs.Common.All, std.proofs.Common.length, std.proofs.Common.◌≡◌}

abbrev pub invariant-loop-rest : Rattle.sim_motion.proofs.walk.walk.Given.invariant-loop-rest
invariant-loop-rest l =
    record {
      walk : walked l.at l.budget l.rest ≡ walked l.fn.from l.fn.budget l.fn.way;
      at : IsPlaced l.at;
      rest : All IsPlaced l.rest;
    }

abbrev pub decreases-loop-rest : Rattle.sim_motion.proofs.walk.walk.Given.decreases-loop-rest
decreases-loop-rest l = length l.rest
