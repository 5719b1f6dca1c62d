use Rattle.{sim_attack.specs.Finds.AreFound, sim_plans.specs.Plans.aim_changes_of, std.proofs.Common.◌≡◌, std.proofs.Common.take, std.proofs.Common.flat_map}

abbrev pub invariant-loop-row : Rattle.sim_attack.proofs.aim.listed_aims.Given.invariant-loop-row
invariant-loop-row g l = record {
  changes : l.changes ≡ flat_map (aim_changes_of l.scene.setup.now l.scene.state.now) (take l.row-index l.scene.state.now.rows);
  finds : AreFound l.scene.setup.now l.scene.state.now l.finds.kept.items;
}
