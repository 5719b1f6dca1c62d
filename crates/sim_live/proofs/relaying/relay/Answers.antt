-- However the talk ended, all that was told is written then.
use Rattle.{sim_live.proofs.Relayed.relay_caused, sim_live.proofs.Relayed.relay_settled, sim_talk.proofs.Talking.nothing_kept}

pub returns : Rattle.sim_live.proofs.relaying.relay.Goals.returns
returns g c =
    let relays = relay_settled c.args.rules c.talk_over-outcome.result c.settled.result _ _ _ c.talk_over-outcome.ensures.relays c.settled.ensures in
    record {
      relays = relays;
      settled = nothing_kept c.talk_over-outcome.result c.settled.result _ _ c.settled.ensures;
      causes = relay_caused c.args.rules c.settled.result _ _ relays;
    }
