use Rattle.sim_merge.proofs.Common.{take, contains_text, TellsWords}

abbrev pub invariant-loop-word : Rattle.sim_merge.proofs.words.set_of.Given.invariant-loop-word
invariant-loop-word l = TellsWords (contains_text l.set) (take l.word-index l.words)
