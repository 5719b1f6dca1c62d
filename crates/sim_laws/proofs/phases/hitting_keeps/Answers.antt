use Rattle.sim_laws.proofs.{Common.refl, Hitting.hit_is_state}

pub returns : Rattle.sim_laws.proofs.phases.hitting_keeps.Goals.returns
returns c = record { loose = hit_is_state; turn = λ setup state. refl }
