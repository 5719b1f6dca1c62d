-- The labels are those of the grid.
use Rattle.sim_ground.proofs.Mendable.{labels_again}

pub way-way-requires-clause-labels : Rattle.sim_ground.proofs.way.way_over.Goals.way-way-requires-clause-labels
way-way-requires-clause-labels c = labels_again _ _ c.requires.labels
