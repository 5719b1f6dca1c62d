-- Two lists of numbers are the same where their numbers are.
use Rattle.std.proofs.lemmas.{Bool.Decides.Decides-eqb, Slice.Eq.slice_eq-Decides}

pub returns : Rattle.sim_ground.proofs.same.are_same_ids.Goals.returns
returns c = slice_eq-Decides Decides-eqb c.args.one.now c.args.other.now c.eq.result c.eq.ensures
