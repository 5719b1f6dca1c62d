-- One more rig has a client.
use Rattle.sim_session.proofs.rigs.seat.Goals as goal
use Rattle.sim_session.proofs.Common.{[], ap, AreCleared, arith, drop, HaveKinds, Off, replicate-append-replicate, ◌++◌, ◌∙◌, ◌∷◌}
use Rattle.{sim_session.proofs.Stepping.drop_next, sim_session.proofs.Stepping.holds_behind, sim_system.specs.RigWords.systems_by as rig_by}

pub loop-i-preserved : goal.loop-i-preserved
loop-i-preserved g c =
    let was = c.loop-i.invariant in
    let now = c.seat_one.ensures.seats in
    let before = c.loop-i.rigs.items in
    let after = c.seat_one.new.rigs.items in
    record {
      rigs = now.rigs ∙ ap (drop 1) was.rigs ∙ drop_next c.loop-i.i c.args.rigs.now.items;
      systems = now.systems ∙ was.systems;
      members = now.members;
      off = now.off ∙ ap (λ l. l ++ Off ∷ []) was.off ∙ replicate-append-replicate c.loop-i.i 1 Off;
      room = omega (arith, was.room, c.seat_one.ensures.room);
      kept = now.kept ∙ was.kept;
      kinds = holds_behind HaveKinds (λ r. rig_by r (λ i v. (goal.System-dyn g (i, v)).meaning v)) before after now.rigs was.kinds;
      cleared = holds_behind AreCleared (λ r. rig_by r (λ i v. (goal.System-dyn g (i, v)).meaning v)) before after now.rigs was.cleared;
    }
