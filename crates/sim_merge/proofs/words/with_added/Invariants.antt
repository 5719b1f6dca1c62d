use Rattle.sim_merge.proofs.Common.{◌≡◌, reverse, length, fold, contains_text, TellsLacking, with_added}

abbrev pub invariant-loop-word : Rattle.sim_merge.proofs.words.with_added.Given.invariant-loop-word
invariant-loop-word l = record {
  lacking : TellsLacking (contains_text l.lacking) l.words.items l.found;
  same : fold with_added l.found (reverse l.words.items) ≡ fold with_added l.fn.lower (reverse l.fn.added);
}

abbrev pub decreases-loop-word : Rattle.sim_merge.proofs.words.with_added.Given.decreases-loop-word
decreases-loop-word l = length l.words.items
