-- Nobody aims at no target.
use Rattle.sim_watch.proofs.{Aiming.list_is, Aiming.no_list, Common.facts_in, Common.◌∙◌}

pub returns-then-id-eq0 : Rattle.sim_watch.proofs.watch.Watch.list.Goals.returns-then-id-eq0
returns-then-id-eq0 c = no_list (facts_in c.args.self.now.aimers.aimers.items) c.args.id c.if-id-eq0.true

pub returns-else-id-eq0 : Rattle.sim_watch.proofs.watch.Watch.list.Goals.returns-else-id-eq0
returns-else-id-eq0 c = c.at.ensures ∙ c.args.self.now.listed c.args.id ∙ list_is (facts_in c.args.self.now.aimers.aimers.items) c.args.id c.if-id-eq0.false
