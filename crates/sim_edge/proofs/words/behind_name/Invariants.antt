-- The words so far, and then those that are still to come, are all behind the name.
use Rattle.std.{proofs.Common.◌≡◌, proofs.Common.◌++◌, proofs.Common.drop, specs.Vec.Iter.into_iter_items, specs.Vec.Iter.into_iter_len}

abbrev pub invariant-words : Rattle.sim_edge.proofs.words.behind_name.Given.invariant-words
invariant-words l = l.words.items ++ into_iter_items l.arguments ≡ drop 1 (into_iter_items l.fn.arguments)

abbrev pub decreases-words : Rattle.sim_edge.proofs.words.behind_name.Given.decreases-words
decreases-words l = into_iter_len l.arguments
