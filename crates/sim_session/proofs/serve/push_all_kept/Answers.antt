-- One turn more.
use Rattle.{sim_session.proofs.Histories.kept_more, sim_server.specs.Standing.server_of}

pub loop-i-preserved : Rattle.sim_session.proofs.serve.push_all_kept.Goals.loop-i-preserved
loop-i-preserved c = kept_more (server_of c.args.server.now).kept c.loop-i.i _ _ _ c.loop-i.invariant c.in_ok-push_if_kept.ensures
