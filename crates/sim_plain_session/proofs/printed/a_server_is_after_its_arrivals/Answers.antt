use Rattle.sim_plain_session.proofs.Arrived.{notices_are_of_arrivals, server_is_after_arrivals}

pub returns : Rattle.sim_plain_session.proofs.printed.a_server_is_after_its_arrivals.Goals.returns
returns c =
    record {
      server = server_is_after_arrivals;
      notices = notices_are_of_arrivals;
    }
