-- The cell in one direction more has no other label, or the answer is no.
use Rattle.sim_search.{proofs.Common.{ap, arith, Cell, eq-or-lt_of_le, inl, inr, neighbour, Some, suc, ℕ, ◌+◌, ◌<◌, ◌∙◌, ◌≡◌, ◌⊎◌}, specs.Floods.label_in}

pub loop-which-preserved : Rattle.sim_search.proofs.mend.are_alike.Goals.loop-which-preserved
loop-which-preserved c = λ j b n lt e h. by j b n e h (eq-or-lt_of_le lt)
  where
    by : (j : ℕ) (b : Cell) (n : ℕ) → neighbour c.args.grid.now.size c.args.cell j ≡ Some b → label_in c.args.labels.now b ≡ Some n
        → (suc j ≡ c.loop-which.which + 1) ⊎ (suc j < c.loop-which.which + 1) → n ≡ c.args.label
    by j b n e h (inl same) =
        let is : c.loop-which.which ≡ j = omega arith in
        c.is_alike.ensures c.if-not-is_alike.false b n (c.neighbour.ensures ∙ ap (neighbour c.args.grid.now.size c.args.cell) is ∙ e) h
    by j b n e h (inr before) = c.loop-which.invariant j b n (omega arith) e h

pub returns : Rattle.sim_search.proofs.mend.are_alike.Goals.returns
returns c = λ _ which b l lt e h. c.loop-which.invariant which b l (omega (arith, c.loop-which-test.false, lt)) e h
