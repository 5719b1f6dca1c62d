use Rattle.{sim_base.specs.Limits.IsFrom, sim_turn.proofs.{Common.{arith, IsOrderOf, length, Setup, setup_in, subst, sym, Timed, ◌<◌}, Counting.all_mapped}}

pub obey-requires : Rattle.sim_turn.proofs.playing.obey_due.Goals.obey-requires
obey-requires g c =
    let due = c.args.due.now in
    let at = c.loop-timed.timed-index in
    let item = c.timed-item.result in
    let lt : at < length due = omega arith in
    record {
      whole = c.loop-timed.invariant.whole;
      player = subst (λ (s : Setup). IsFrom 1 s.players item.order.player) (sym c.loop-timed.invariant.same)
          (all_mapped (IsOrderOf (setup_in c.args.board.now)) (λ (timed : Timed). timed.order) due at item c.requires.players lt c.timed-item.is);
    }
