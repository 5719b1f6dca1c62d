use Rattle.sim_session_laws.proofs.Common.{InHasState, OffIsOut, OnIsIn, OutHasWish, StrangersAreOut, WaitingHasDonor}
use Rattle.sim_session_laws.proofs.Fitting.{always, in_has_state, off_is_out, on_is_in, out_has_wish, strangers_are_out, waiting_has_donor}

pub returns : Rattle.sim_session_laws.proofs.standing.clients_stand_where_the_server_sees_them.Goals.returns
returns c =
    record {
      off = always OffIsOut off_is_out;
      on = always OnIsIn on_is_in;
      wishes = always OutHasWish out_has_wish;
      waits = always WaitingHasDonor waiting_has_donor;
      loads = always InHasState in_has_state;
      strangers = always StrangersAreOut strangers_are_out;
    }
