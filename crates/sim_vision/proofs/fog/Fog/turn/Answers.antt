-- Outside of the rows nothing is seen. The owner is one of the players, since the marks are known.
use Rattle.sim_vision.proofs.{Places.not_watched, Turning.begins, Turning.ends}
use Rattle.sim_vision.proofs.Common.{ℕ, ◌≤◌, List, IfSome, Some, None, Option, refl, ap, arith, Extent, extent_of, inl, inr, IsKnownMark, Mark}
use Rattle.sim_vision.proofs.fog.Fog.turn.Goals as goal

pub loop-z-init : goal.loop-z-init
loop-z-init c = record {
  extent = refl;
  below = begins (extent_of c.args.self.now) c.args.discs.now c.args.crossing c.rows_of-first.result.0 c.args.self.now.counts.items c.args.self.now.flags.items
      (λ player cell at lt. not_watched c.args.discs.now player cell c.args.crossing.old (c.rows_of-first.ensures.old cell at.on.north (inl lt)))
      (λ player cell at lt. not_watched c.args.discs.now player cell c.args.crossing.new (c.rows_of-first.ensures.new cell at.on.north (inl lt)));
}

at_most : (extent : Extent) (reaches : List ℕ) (mark : Option Mark) → IfSome mark (IsKnownMark extent reaches) →
    IfSome mark (λ (m : Mark). m.owner ≤ extent.players)
at_most extent reaches None known = tt
at_most extent reaches (Some mark) known = known.owner

pub turn_at-requires-clause-row : goal.turn_at-requires-clause-row
turn_at-requires-clause-row c =
    let extent = extent_of c.args.self.now in
    let most = c.owner-owner.ensures.last extent.players (at_most extent c.args.discs.now c.args.crossing.old c.requires.known.old)
    (at_most extent c.args.discs.now c.args.crossing.new c.requires.known.new) in
    let same = ap (λ (e : Extent). e.players) c.loop-z.invariant.extent in
    let deep = ap (λ (e : Extent). e.size.depth) c.loop-z.invariant.extent in
    record { first = omega arith; last = omega (arith, most, same); row = omega (arith, deep, c.rows_of-first.ensures.within) }

pub returns : goal.returns
returns c =
    let rows = c.rows_of-first.ensures in
    let past : c.rows_of-first.result.1 ≤ c.loop-z.z = omega arith in
    record {
      extent = c.loop-z.invariant.extent;
      turned = ends (extent_of c.args.self.now) c.args.discs.now c.args.crossing c.loop-z.z c.args.self.now.counts.items c.loop-z.self.counts.items
          c.args.self.now.flags.items c.loop-z.self.flags.items c.loop-z.invariant.below
          (λ player cell at le. not_watched c.args.discs.now player cell c.args.crossing.old (rows.old cell at.on.north (inr (omega arith))))
          (λ player cell at le. not_watched c.args.discs.now player cell c.args.crossing.new (rows.new cell at.on.north (inr (omega arith))));
    }
