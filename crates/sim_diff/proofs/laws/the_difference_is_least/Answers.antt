-- Both ways of both clauses are lemmas.
use Rattle.sim_diff.proofs.{Common.sym, LeastPlace.{difference_of-none, difference_of-some, least-difference_of, same-difference_of}}

pub returns : Rattle.sim_diff.proofs.laws.the_difference_is_least.Goals.returns
returns c = record {
  least = λ left right place. (difference_of-some left right place, λ least. sym (least-difference_of left right place least));
  none = λ left right. (difference_of-none left right, λ same. sym (same-difference_of left right same));
}
