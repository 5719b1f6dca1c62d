use Rattle.sim_merge.proofs.SetLemmas.{contains_left}

pub returns-clause-left : Rattle.sim_merge.proofs.words.take_word.Goals.returns-clause-left
returns-clause-left c = contains_left c.args.word.now c.args.set.now c.remove.new.self c.remove.ensures.updates
