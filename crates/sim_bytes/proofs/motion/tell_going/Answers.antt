-- Six pieces, one behind the other.
use Rattle.{sim_bytes.proofs.Ways.first, sim_bytes.proofs.Ways.motion_pieces, sim_bytes.specs.Telling.Tells, std.proofs.Common.OnOk, std.proofs.Common.subst}

pub returns : Rattle.sim_bytes.proofs.motion.tell_going.Goals.returns
returns g c =
    let holds = g.K.ByteSink.holds in
    subst (λ bytes. OnOk c.tell_stored.result (Tells holds c.args.out.now c.tell_stored.new.out bytes))
    (motion_pieces c.args.goal c.args.whole c.args.points.now c.args.stored.now)
    (first holds _ _ _ _ _ _ c.in_ok-tell_u8.ensures (first holds _ _ _ _ _ _ c.in_ok-tell_point.ensures
    (first holds _ _ _ _ _ _ c.in_ok-tell_flag.ensures (first holds _ _ _ _ _ _ c.in_ok-tell_u8-2.ensures
    (first holds _ _ _ _ _ _ c.in_ok-tell_points.ensures c.tell_stored.ensures)))))
