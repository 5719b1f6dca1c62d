-- The parts of a text between its commas.
use Rattle.std.proofs.{Common.lit<, lemmas.Iterator.Consumers.map_from_collect, lemmas.Iterator.Splits.YieldsList-from_str_split}

pub returns : Rattle.sim_replay.proofs.words.words_of.Goals.returns
returns c = map_from_collect _ c.collect.ensures.ran
    (YieldsList-from_str_split 44 c.args.text.now (lit< tt) c.split.ensures.text c.split.ensures.has_more c.split.ensures.pattern)
