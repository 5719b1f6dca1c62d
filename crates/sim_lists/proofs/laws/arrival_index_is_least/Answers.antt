-- The index of each list that is read so is the least.
use Rattle.{sim_json.proofs.Reading.is_least, sim_lists.specs.Arrivals.arrival_of, std.proofs.Common.[]}

pub returns : Rattle.sim_lists.proofs.laws.arrival_index_is_least.Goals.returns
returns c = λ clients ds i refused. is_least (λ done. arrival_of clients) [] ds i refused
