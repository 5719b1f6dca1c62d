-- The two laws are the lemmas of these names.
use Rattle.sim_packed.proofs.Packed.{files_back, words_back}

pub returns : Rattle.sim_packed.proofs.laws.what_is_packed_is_read_back.Goals.returns
returns c = record { words = words_back; files = files_back }
