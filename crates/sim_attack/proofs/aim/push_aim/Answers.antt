pub lets_go-requires : Rattle.sim_attack.proofs.aim.push_aim.Goals.lets_go-requires
lets_go-requires g c = record { limits = c.requires.can.stands.limits; valid = c.requires.can.stands.valid; row_is = c.requires.can.row_is }
