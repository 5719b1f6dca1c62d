-- Where no obstruction comes or goes, the facts are the same.
use Rattle.sim_ground.proofs.{Common.sym, Common.◌∙◌, Turning.still_kept_on}

pub invariant_of-self : Rattle.sim_ground.proofs.system.GroundSystem.on.Goals.invariant_of-self
invariant_of-self c = record {
  over = still_kept_on c.on.result c.args.self.now.kept.land c.on.new.self.land c.args.self.now.kept.facts.items c.on.new.self.facts.items
      c.args.self.now.opened c.args.note.now c.requires (sym c.builds_of.ensures ∙ c.if-builds_of.false)
      c.on.ensures.facts c.on.ensures.same c.on.ensures.land c.args.self.now.over;
}
