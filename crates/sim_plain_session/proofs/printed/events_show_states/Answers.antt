use Rattle.sim_plain_session.proofs.Enabling.{events_are_shown, starts_are_shown}

pub returns : Rattle.sim_plain_session.proofs.printed.events_show_states.Goals.returns
returns c =
    record {
      steps = events_are_shown;
      starts = starts_are_shown;
    }
