-- Both states are read from the same bytes.
use Rattle.sim_codec.proofs.{Common.refl, Common.inl, Common.spelling, Standing.one_state}

pub returns : Rattle.sim_codec.proofs.laws.bytes_stand_for_one_state.Goals.returns
returns c = record {
  bytes = one_state;
  spellings = λ setup s t is s-valid t-valid same. one_state setup (spelling setup s) s t is (record { valid = s-valid; spelled = inl refl })
      (record { valid = t-valid; spelled = inl same });
}
