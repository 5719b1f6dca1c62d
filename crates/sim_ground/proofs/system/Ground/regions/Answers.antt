-- The labels that are kept are those of the open cells.
use Rattle.sim_ground.proofs.{Common.AreRegions, Common.Opened, Common.Option, Common.option_map, Common.subst, Mendable.regions_are}

pub returns-in-Some : Rattle.sim_ground.proofs.system.Ground.regions.Goals.returns-in-Some
returns-in-Some c =
    let s = c.args.self.now in
    subst (λ (o : Option Opened). AreRegions s.kept.land s.kept.facts.items (option_map (λ (p : Opened). p.labels) o)) c.in-Some.is
    (regions_are s.kept.land s.kept.facts.items s.opened s.over)
