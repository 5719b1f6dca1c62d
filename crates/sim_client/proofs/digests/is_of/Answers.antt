-- What is kept of an equal state of an equal match is of this one.
use Rattle.sim_client.{proofs.Common.State, proofs.Common.subst, specs.Kept.AreDigests}

pub returns-then-is_of_match : Rattle.sim_client.proofs.digests.is_of.Goals.returns-then-is_of_match
returns-then-is_of_match c = λ same.
    subst (λ (s : State). AreDigests c.args.setup.now s c.args.kept.now.both) (c.is_same.ensures.0 same)
    (c.args.kept.now.right c.args.setup.now (c.is_of_match.ensures.0 c.if-is_of_match.true))
