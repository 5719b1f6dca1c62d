use Rattle.sim_laws.proofs.{Removing.gone_is_valid, Turning.gone_keeps_turn}

pub returns : Rattle.sim_laws.proofs.phases.gone_is_valid.Goals.returns
returns c = record { valid = gone_is_valid; turn = gone_keeps_turn }
