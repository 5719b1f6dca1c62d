-- A crossing is told, and what is left can be followed.
use Rattle.sim_vision.proofs.{Common.{Extent, extent_of, IsKnownCrossing, IsTurned, subst, sym, ◌∙◌}, Following.{goes_on, known_crossing}}

pub turn-requires-clause-known : Rattle.sim_vision.proofs.fog.Fog.follow.Goals.turn-requires-clause-known
turn-requires-clause-known c =
    let fog = c.args.self.now in
    let now = c.shifts.self in
    subst (λ (e : Extent). IsKnownCrossing e c.args.discs.now c.in-Some.crossing) (sym c.shifts.invariant.extent)
    (known_crossing (extent_of fog) c.args.discs.now c.args.shifts.now c.shifts.rest.now c.in-Some.more.now c.in-Some.crossing c.in-Some.ensures
    fog.counts.items now.counts.items fog.flags.items now.flags.items c.shifts.invariant.follows)

pub shifts-preserved : Rattle.sim_vision.proofs.fog.Fog.follow.Goals.shifts-preserved
shifts-preserved c =
    let fog = c.args.self.now in
    let now = c.shifts.self in
    let turned = subst (λ (e : Extent). IsTurned e c.args.discs.now c.in-Some.crossing now.counts.items c.turn.new.self.counts.items now.flags.items
    c.turn.new.self.flags.items) c.shifts.invariant.extent c.turn.ensures.turned in
    record {
      extent = c.turn.ensures.extent ∙ c.shifts.invariant.extent;
      follows = goes_on (extent_of fog) c.args.discs.now c.args.shifts.now c.shifts.rest.now c.in-Some.more.now c.in-Some.crossing c.in-Some.ensures
          fog.counts.items now.counts.items fog.flags.items now.flags.items c.shifts.invariant.follows
          c.turn.new.self.counts.items c.turn.new.self.flags.items turned;
    }
