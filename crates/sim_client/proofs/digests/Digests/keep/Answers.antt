-- What is kept is a copy, so that its digests are those of the state.
use Rattle.sim_client.proofs.Digesting.{digests_by_id}

pub invariant_of-push : Rattle.sim_client.proofs.digests.Digests.keep.Goals.invariant_of-push
invariant_of-push c = record {
  right = digests_by_id c.args.setup.now c.args.state.now c.in_ok-state.state c.args.both c.in_ok-state.ensures c.requires;
}
