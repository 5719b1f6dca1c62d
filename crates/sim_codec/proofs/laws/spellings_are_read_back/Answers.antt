-- Each spelling stands for its state.
use Rattle.sim_codec.proofs.{Common.{inl, inr, old_spelling, refl, spelling}, Standing.{old_spelling_read, spelling_read, stands_head}}

pub returns : Rattle.sim_codec.proofs.laws.spellings_are_read_back.Goals.returns
returns c = record {
  head = λ setup state is valid. stands_head setup (spelling setup state) state is.id (record { valid = valid; spelled = inl refl });
  state = spelling_read;
  old_head = λ setup state is valid none. stands_head setup (old_spelling setup state) state is.id (record { valid = valid; spelled = inr (none, refl) });
  old_state = old_spelling_read;
}
