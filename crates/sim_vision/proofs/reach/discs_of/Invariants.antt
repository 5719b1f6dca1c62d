use Rattle.sim_vision.proofs.Common.{◌≡◌, map, take, reach_of}

abbrev pub invariant-loop-template : Rattle.sim_vision.proofs.reach.discs_of.Given.invariant-loop-template
invariant-loop-template l = l.discs.items ≡ map reach_of (take l.template-index l.templates)
