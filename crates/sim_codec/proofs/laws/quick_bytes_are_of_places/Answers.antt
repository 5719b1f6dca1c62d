-- The numbers and the rows are read back from the bytes.
use Rattle.sim_codec.proofs.Back.{of_places}

pub returns : Rattle.sim_codec.proofs.laws.quick_bytes_are_of_places.Goals.returns
returns c = of_places
