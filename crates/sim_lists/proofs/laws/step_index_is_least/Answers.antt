-- The index of each list that is read so is the least.
use Rattle.{sim_json.proofs.Reading.is_least, sim_lists.specs.StepLists.step_of, std.proofs.Common.[]}

pub returns : Rattle.sim_lists.proofs.laws.step_index_is_least.Goals.returns
returns c = λ players ds i refused. is_least (λ done. step_of players) [] ds i refused
