-- The first rig is cleared and complete, and its client is one of the match.
use Rattle.sim_session.proofs.rigs.seat_one.Goals as goal
use Rattle.sim_session.proofs.Common.{[], All-append, All-cons, All-nil, ap, AreCleared, AreMembersBy, drop, HaveKinds, IsMemberBy, life_at, lives_of}
use Rattle.sim_session.proofs.Common.{map-append, rigs_by, rules, subst, sym, systems_by, systems_on, ◌++◌, ◌∙◌, ◌∷◌, ◌≡◌}
use Rattle.{sim_session.proofs.Stepping.holds_there, sim_session.proofs.Stepping.moved_first, sim_system.specs.RigWords.systems_by as rig_by}

pub new-client-requires-clause-kinds : goal.new-client-requires-clause-kinds
new-client-requires-clause-kinds g c =
    holds_there HaveKinds (λ r. rig_by r (λ i v. (goal.System-dyn g (i, v)).meaning v)) c.args.rigs.now.items 0 c.remove.result c.requires.left
    c.remove.ensures.value c.requires.fresh.kinds

pub new-client-requires-clause-cleared : goal.new-client-requires-clause-cleared
new-client-requires-clause-cleared g c =
    holds_there AreCleared (λ r. rig_by r (λ i v. (goal.System-dyn g (i, v)).meaning v)) c.args.rigs.now.items 0 c.remove.result c.requires.left
    c.remove.ensures.value c.requires.fresh.cleared

pub returns-clause-seats : goal.returns-clause-seats
returns-clause-seats g c =
    let setup = c.args.setup.now in
    let client = c.new-client.result in
    let clients = c.args.clients.now.items in
    let member : IsMemberBy setup client (λ i v. (goal.System-dyn g (i, v)).meaning v) =
    record { sound = c.new-client.ensures.sound; same = c.new-client.ensures.setup } in
    let rest : c.remove.new.self.items ≡ drop 1 c.args.rigs.now.items = search rules in
    record {
      rigs = rest;
      systems = (λ i. systems_by (c.in-Ok.ensures.items i) (λ i v. (goal.System-dyn g (i, v)).meaning v) ++ rigs_by (rest i)
          (λ i v. (goal.System-dyn g (i, v)).meaning v))
          ∙ moved_first (λ x. systems_on x.board (λ i v. (goal.System-dyn g (i, v)).meaning v)) (λ r. rig_by r (λ i v. (goal.System-dyn g (i, v)).meaning v))
          clients client c.args.rigs.now.items c.remove.result c.requires.left
          c.remove.ensures.value c.new-client.ensures.systems;
      members = subst (λ l. AreMembersBy setup l (λ i v. (goal.System-dyn g (i, v)).meaning v)) (sym c.in-Ok.ensures.items)
          (All-append (λ x. IsMemberBy setup x (λ i v. (goal.System-dyn g (i, v)).meaning v)) clients (client ∷ []) c.requires.members
          (All-cons (λ x. IsMemberBy setup x (λ i v. (goal.System-dyn g (i, v)).meaning v)) client [] member
          (All-nil (λ x. IsMemberBy setup x (λ i v. (goal.System-dyn g (i, v)).meaning v)))));
      off = ap lives_of c.in-Ok.ensures.items ∙ map-append (λ x. life_at x.stage x.board) clients (client ∷ [])
          ∙ ap (λ life. lives_of clients ++ life ∷ []) c.new-client.ensures.off;
      kept = search rules;
    }
