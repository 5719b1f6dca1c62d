-- All that was kept is written, and then the text is told.
use Rattle.{sim_talk.proofs.Keeping.told_behind, sim_talk.specs.LineTalk.TellCounts, std.proofs.Common.subst, std.proofs.Common.ℕ}

pub returns : Rattle.sim_talk.proofs.kept.Kept.tell.Goals.returns
returns g c =
    let settled = c.in_ok-settle.ensures.settles in
    record {
      told = told_behind c.tell_alone.result _ _ _ _ _ _ _ settled.told c.tell_alone.ensures.told;
      faults = subst (λ (n : ℕ). TellCounts c.tell_alone.result n (g.K.Sink.faults c.tell_alone.new.sink)) settled.faults c.tell_alone.ensures.faults;
    }
