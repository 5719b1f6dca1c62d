-- What is left differs first where the whole lists do.
use Rattle.sim_replay.proofs.{Aparts.apart_from, Common.first_apart, Common.length, Common.◌+◌, Common.◌≡◌}

abbrev pub invariant-loop-rest : Rattle.sim_replay.proofs.apart.search.Given.invariant-loop-rest
invariant-loop-rest l = record {
  same : apart_from l.turn l.rest l.other ≡ first_apart l.told l.played;
  counted : l.turn + length l.rest ≡ length l.told;
}

abbrev pub decreases-loop-rest : Rattle.sim_replay.proofs.apart.search.Given.decreases-loop-rest
decreases-loop-rest l = length l.rest
