-- The last client hands its rig back, in front of those that are back.
use Rattle.sim_session.proofs.rigs.unseat.Goals as goal
use Rattle.sim_session.proofs.Common.{[], ap, arith, HaveKinds, length, length-append, map-append, rigs_by, sym, systems_by, systems_on, ◌++◌, ◌+◌, ◌∙◌, ◌∷◌}
use Rattle.sim_session.proofs.{Common.◌≡◌, Stepping.drop_back, Stepping.holds_in_front, Stepping.holds_last, Stepping.moved}
use Rattle.sim_system.specs.RigWords.{systems_by as rig_by}

pub finish-requires : goal.finish-requires
finish-requires g c = holds_last HaveKinds (λ x. systems_on x.board (λ i v. (goal.System-dyn g (i, v)).meaning v)) c.loop-client.clients.items
    c.pop.new.self.items c.in-Some.client c.in-Some.ensures.items c.loop-client.invariant.kinds

pub loop-client-preserved : goal.loop-client-preserved
loop-client-preserved g c =
    let was = c.loop-client.invariant in
    let before = c.loop-client.clients.items in
    let left = c.pop.new.self.items in
    let client = c.in-Some.client in
    let popped = c.in-Some.ensures.items in
    let rigs = c.loop-client.rigs.items in
    let rig = c.finish.result in
    let back = c.put_back.ensures.rigs in
    let long : length before ≡ length left + 1 = ap length popped ∙ length-append left (client ∷ []) in
    record {
      systems = ap (λ l. systems_by left (λ i v. (goal.System-dyn g (i, v)).meaning v) ++ rigs_by l (λ i v. (goal.System-dyn g (i, v)).meaning v)) back ∙
          sym (moved (λ x. systems_on x.board (λ i v. (goal.System-dyn g (i, v)).meaning v)) (λ r. rig_by r (λ i v. (goal.System-dyn g (i, v)).meaning v)) left
          client rigs rig (sym c.finish.ensures.systems)) ∙
          ap (λ l. systems_by l (λ i v. (goal.System-dyn g (i, v)).meaning v) ++ rigs_by rigs (λ i v. (goal.System-dyn g (i, v)).meaning v))
          (sym popped) ∙ was.systems;
      rest = drop_back (length c.args.clients.items) (length before) (length left) rig rigs c.put_back.new.rigs.items long was.few back ∙ was.rest;
      few = omega (arith, long, was.few);
      room = omega (arith, long, was.room, c.put_back.ensures.kept, ap length back);
      kept = c.put_back.ensures.kept ∙ was.kept;
      kinds = holds_in_front HaveKinds (systems_by left (λ i v. (goal.System-dyn g (i, v)).meaning v))
          (systems_on client.board (λ i v. (goal.System-dyn g (i, v)).meaning v) ∷ []) (systems_by before (λ i v. (goal.System-dyn g (i, v)).meaning v))
          (sym (ap (λ l. systems_by l (λ i v. (goal.System-dyn g (i, v)).meaning v)) popped ∙
          map-append (λ x. systems_on x.board (λ i v. (goal.System-dyn g (i, v)).meaning v)) left (client ∷ []))) was.kinds;
    }
