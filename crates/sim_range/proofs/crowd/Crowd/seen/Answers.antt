-- The fact that is found is held on the land.
use Rattle.sim_range.proofs.{Common.sym, Nearing.found_held}

pub sight_of-requires : Rattle.sim_range.proofs.crowd.Crowd.seen.Goals.sight_of-requires
sight_of-requires c = record {
  watcher = found_held c.args.self.now.held.land.now c.args.self.now.held.facts.now c.args.id c.in-Some.watcher.now c.args.self.now.held.holds
      (sym c.in-Some.ensures);
}
