-- The text has the soldiers so far, and the word is the one after their steps.
use Rattle.sim_trial.proofs.Common.{◌≡◌, ◌*◌, ◌^◌, ◌<◌, ◌++◌, string_bytes, soldiers_text, word_after}

abbrev pub invariant-loop-place : Rattle.sim_trial.proofs.soldiers.push_soldiers.Given.invariant-loop-place
invariant-loop-place l = record {
  written : string_bytes l.text ≡ string_bytes l.initial.text ++ soldiers_text l.seed l.place;
  word_is : l.word ≡ word_after l.seed (2 * l.place);
  word_fits : l.word < 2 ^ 48;
}
