-- The client of a number is a member of the match.
use Rattle.sim_session.proofs.Common.{◌-◌, arith, IsMemberBy, subst, sym}
use Rattle.sim_session.proofs.session.Session.client.Goals as goal

pub returns-clause-sound : goal.returns-clause-sound
returns-clause-sound g c =
    let session = c.requires.session in
    let i = c.args.number - 1 in
    let one = session.members i c.index.result.now (omega (arith, session.count, c.requires.number.0, c.requires.number.1)) in
    (subst (λ x. IsMemberBy c.args.self.now.setup.now x (λ i v. (goal.System-dyn g (i, v)).meaning v)) (sym c.index.ensures) one).sound
