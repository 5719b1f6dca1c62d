-- The rows so far are turned.
use Rattle.sim_vision.proofs.Common.{extent_of, IsSameExtent, IsTurnedBelow}

abbrev pub invariant-loop-z : Rattle.sim_vision.proofs.fog.Fog.turn.Given.invariant-loop-z
invariant-loop-z l = record {
  extent : IsSameExtent l.fn.self l.self;
  below : IsTurnedBelow (extent_of l.fn.self) l.discs l.crossing l.z l.fn.self.counts.items l.self.counts.items l.fn.self.flags.items l.self.flags.items;
}
