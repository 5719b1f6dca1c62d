-- The words that are left are read as all of them are.
use Rattle.sim_replay.proofs.{Common.length, Common.map, Common.naturals_of, Common.word_text, Common.◌≡◌, Naturals.naturals_behind}

abbrev pub invariant-loop-rest : Rattle.sim_replay.proofs.words.naturals.Given.invariant-loop-rest
invariant-loop-rest l = naturals_behind l.found.items (map word_text l.rest) ≡ naturals_of (map word_text l.words)

abbrev pub decreases-loop-rest : Rattle.sim_replay.proofs.words.naturals.Given.decreases-loop-rest
decreases-loop-rest l = length l.rest
