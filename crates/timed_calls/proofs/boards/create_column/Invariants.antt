use Rattle.sim_board.specs.Boards.{IsWholeBy}

abbrev pub invariant-loop-z : Rattle.timed_calls.proofs.boards.create_column.Given.invariant-loop-z
invariant-loop-z g l = IsWholeBy l.board (λ i v. (Rattle.timed_calls.proofs.boards.create_column.Given.System-dyn g (i, v)).meaning v)
