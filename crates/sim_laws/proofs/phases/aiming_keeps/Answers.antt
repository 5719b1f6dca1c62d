use Rattle.sim_laws.proofs.{Common.refl, Removing.aimed_is_state}

pub returns : Rattle.sim_laws.proofs.phases.aiming_keeps.Goals.returns
returns c = record {
  loose = λ setup state h. aimed_is_state 0 setup state h;
  valid = λ setup state h. aimed_is_state 1 setup state h;
  turn = λ setup state. refl;
}
