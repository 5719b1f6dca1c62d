-- Some lines were answered, and the server stands for all that has arrived.
use Rattle.{sim_live.proofs.Relayed.HasAnswered, sim_server.specs.Standing.IsSmallServer, sim_server.specs.Standing.server_of, std.proofs.Common.◌≤◌}

abbrev pub invariant-loop-before : Rattle.sim_live.proofs.relaying.answer_all.Given.invariant-loop-before
invariant-loop-before g l =
    record {
      answered : HasAnswered l.rules l.server l.heard l._before (g.T.Talk.history l.fn.talk) (g.T.Talk.history l.talk);
      few : l.heard ≤ l._before;
      small : IsSmallServer (server_of l.server);
    }
