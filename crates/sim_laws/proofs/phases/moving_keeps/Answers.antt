use Rattle.sim_laws.proofs.{Commanding.moved_is_state, Common.refl}

pub returns : Rattle.sim_laws.proofs.phases.moving_keeps.Goals.returns
returns c = record {
  loose = λ setup state h. moved_is_state 0 setup state h;
  valid = λ setup state h. moved_is_state 1 setup state h;
  turn = λ setup state. refl;
}
