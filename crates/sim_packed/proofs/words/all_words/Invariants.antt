-- What is left spells, behind the word and the words so far, what all bytes spell.
use Rattle.{sim_packed.specs.Files.spelled_words, std.proofs.Common.{length, map, string_bytes, [], ◌≡◌}}

abbrev pub invariant-loop-rest : Rattle.sim_packed.proofs.words.all_words.Given.invariant-loop-rest
invariant-loop-rest l = spelled_words l.rest l.word.items (map string_bytes l.words.items) ≡ spelled_words l.fn.bytes [] []

abbrev pub decreases-loop-rest : Rattle.sim_packed.proofs.words.all_words.Given.decreases-loop-rest
decreases-loop-rest l = length l.rest
