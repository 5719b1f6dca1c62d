use Rattle.{sim_base.proofs.RootLemmas.root_is, sim_base.specs.Places.root, std.proofs.Common.ap, std.proofs.Common.sym, std.proofs.Common.◌∙◌}

pub returns-then-is_root : Rattle.sim_motion.proofs.far.distance.Goals.returns-then-is_root
returns-then-is_root c =
    let is = c.is_root.ensures c.if-is_root.true in
    sym (root_is c.square-square.result c.guess_of-guess.result is) ∙ ap root c.square-square.ensures
