-- The shifts so far are told, and what is left can be followed.
use Rattle.sim_vision.proofs.{Common.length, Common.extent_of, Common.IsSameExtent, Following.Follows}

abbrev pub invariant-shifts : Rattle.sim_vision.proofs.fog.Fog.follow.Given.invariant-shifts
invariant-shifts l = record {
  extent : IsSameExtent l.fn.self l.self;
  follows : Follows (extent_of l.fn.self) l.discs l.shifts l.rest l.fn.self.counts.items l.self.counts.items l.fn.self.flags.items l.self.flags.items;
}

abbrev pub decreases-shifts : Rattle.sim_vision.proofs.fog.Fog.follow.Given.decreases-shifts
decreases-shifts l = length l.rest
