-- Nothing was kept of an entity that is born.
use Rattle.{sim_base.proofs.Lists.on_ok, sim_watch.proofs.Aiming.born_noted, sim_watch.proofs.Aiming.meant_by, sim_watch.proofs.Common.◌∙◌}

pub returns-in-Born-clause-ok : Rattle.sim_watch.proofs.watch.WatchSystem.on.Goals.returns-in-Born-clause-ok
returns-in-Born-clause-ok c =
    let s = c.args.self.now in
    on_ok c.aim.result _ _ (λ is. meant_by _ _ _ _ _ _ c.aim.ensures.stays.land (is ∙ born_noted s.aimers.aimers.items s.aimers.ascend s.land c.args.note.now
    c.in-Born.fact c.in-Born.is c.requires) c.aim.ensures.stays.rebuilds) c.aim.ensures.ok
