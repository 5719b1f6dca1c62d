-- From no difference to one spelling, from there to one state, and back.
use Rattle.sim_diff.proofs.{LeastPlace.difference_of-none, OneSpelling.same-no_difference, OneSpelling.same_bits-spelling, OneSpelling.spelling-same}

pub returns : Rattle.sim_diff.proofs.laws.no_difference_is_one_spelling.Goals.returns
returns c = record {
  spelling = λ setup left right is l r. (
    λ none. same_bits-spelling setup left right l r (difference_of-none left right none),
    λ same. same-no_difference left right (spelling-same setup left right is l r same),
  );
  state = λ setup left right is l r. (
    λ none. spelling-same setup left right is l r (same_bits-spelling setup left right l r (difference_of-none left right none)),
    same-no_difference left right,
  );
}
