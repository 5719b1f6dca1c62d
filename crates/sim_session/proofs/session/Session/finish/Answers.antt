-- The rigs of clients come as these leave them.
use Rattle.sim_session.proofs.{Common.AreOfClients, Common.lives_of, Common.rigs_by, Common.subst, Common.sym, Leaving.of_clients}
use Rattle.sim_session.proofs.session.Session.finish.Goals as goal

pub returns-clause-stand : goal.returns-clause-stand
returns-clause-stand g c =
    let self = c.args.self in
    λ session. subst (AreOfClients self.setup.now (lives_of self.clients.items)) (sym c.unseat.ensures.systems)
    (of_clients self.setup.now (λ i v. (goal.System-dyn g (i, v)).meaning v) self.clients.items
    (rigs_by self.rigs.items (λ i v. (goal.System-dyn g (i, v)).meaning v)) session.count session.members)
