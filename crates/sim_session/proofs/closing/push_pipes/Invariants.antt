-- The text so far has the lines of the pipes so far.
use Rattle.sim_session.proofs.TextCommon.{◌≡◌, ◌++◌, string_bytes, pipe_in, pipes_seen}

abbrev pub invariant-loop-before : Rattle.sim_session.proofs.closing.push_pipes.Given.invariant-loop-before
invariant-loop-before l = string_bytes l.out ≡ string_bytes l.initial.out ++ pipes_seen (pipe_in l.exchange.ups) (pipe_in l.exchange.downs) l.before
