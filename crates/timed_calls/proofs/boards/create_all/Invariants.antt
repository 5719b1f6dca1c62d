use Rattle.sim_board.specs.Boards.{IsWholeBy}

abbrev pub invariant-loop-x : Rattle.timed_calls.proofs.boards.create_all.Given.invariant-loop-x
invariant-loop-x g l = IsWholeBy l.board (λ i v. (Rattle.timed_calls.proofs.boards.create_all.Given.System-dyn g (i, v)).meaning v)
