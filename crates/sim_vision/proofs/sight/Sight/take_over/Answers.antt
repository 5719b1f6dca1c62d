-- A fog that takes over cells among which are all that it counts is kept.
use Rattle.sim_vision.proofs.{Common.length, Common.ap, Common.sym, Common.Vision, Common.◌∙◌, Joining.keeps_joined}

pub invariant_of-self : Rattle.sim_vision.proofs.sight.Sight.take_over.Goals.invariant_of-self
invariant_of-self c =
    let s = c.self.inside in
    let long = c.requires.length ∙ ap (λ (v : Vision). length v.explored) (sym c.self.view_is) in
    keeps_joined s.setup.now s.trail s.discs.items s.fog c.explore.new.self c.args.explored.now c.self.invariant
    c.explore.ensures.extent c.explore.ensures.counts c.explore.ensures.flags long (sym c.misses.ensures ∙ c.if-misses.false) c.requires.bits
