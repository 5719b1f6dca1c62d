-- The cell beside it has the label that is answered.
use Rattle.sim_search.proofs.Common.{sym, ◌∙◌}

pub returns-then-is_some : Rattle.sim_search.proofs.mend.label_beside.Goals.returns-then-is_some
returns-then-is_some c = λ l e. record {
  which = c.loop-which.which;
  straight = c.loop-which-test.true;
  beside = c.in-Some.beside;
  leads = sym c.neighbour.ensures ∙ c.in-Some.is;
  has = sym c.of-label.ensures ∙ e;
}
