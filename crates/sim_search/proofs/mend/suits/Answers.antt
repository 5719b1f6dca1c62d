use Rattle.sim_search.proofs.Common.{arith}

pub returns : Rattle.sim_search.proofs.mend.suits.Goals.returns
returns c = λ e. record {
  room = c.has.ensures.0 c.if-not-has.false;
  least = omega (arith, c.place_in.ensures, c.if-place_in-label.false);
  alike = c.are_alike.ensures e;
}
