use Rattle.sim_session_laws.proofs.Common.{DonesAreCounted, DonesAreNear, DonesAreTurns, DonesGoOn, StateHasDone}
use Rattle.sim_session_laws.proofs.Fitting.{always, dones_are_counted, dones_are_near, dones_are_turns, dones_go_on, state_has_done}

pub returns : Rattle.sim_session_laws.proofs.turn_numbers.dones_are_accepted.Goals.returns
returns c =
    record {
      turns = always DonesAreTurns dones_are_turns;
      counted = always DonesAreCounted dones_are_counted;
      go_on = always DonesGoOn dones_go_on;
      near = always DonesAreNear dones_are_near;
      loads = always StateHasDone state_has_done;
    }
