use Rattle.sim_board.specs.Boards.{IsWholeBy}

abbrev pub invariant-loop-id : Rattle.timed_calls.proofs.boards.remove_all.Given.invariant-loop-id
invariant-loop-id g l = IsWholeBy l.board (λ i v. (Rattle.timed_calls.proofs.boards.remove_all.Given.System-dyn g (i, v)).meaning v)
