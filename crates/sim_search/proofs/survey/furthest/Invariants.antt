use Rattle.{sim_search.proofs.Common.{Cell, is_open_at, IsOnGround, true, ◌≡◌}, std.specs.Prelude.IfSome}

abbrev pub invariant-loop-x : Rattle.sim_search.proofs.survey.furthest.Given.invariant-loop-x
invariant-loop-x l = IfSome l.found (λ (c : Cell). IsOnGround l.grid.size c × (is_open_at l.grid c ≡ true))

abbrev pub invariant-loop-z : Rattle.sim_search.proofs.survey.furthest.Given.invariant-loop-z
invariant-loop-z l = IfSome l.found (λ (c : Cell). IsOnGround l.grid.size c × (is_open_at l.grid c ≡ true))
