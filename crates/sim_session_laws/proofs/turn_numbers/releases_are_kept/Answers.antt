use Rattle.sim_session_laws.proofs.Common.{CarriedAreReleased, ReleasedAreTurns, ReleasesAreReleased, StampsAreTurns, TurnsAreReleased}
use Rattle.sim_session_laws.proofs.Fitting.{always, carried_are_released, released_are_final, released_are_turns, released_only_rise, releases_are_released}
use Rattle.sim_session_laws.proofs.Fitting.{stamps_are_turns, turns_are_released}

pub returns : Rattle.sim_session_laws.proofs.turn_numbers.releases_are_kept.Goals.returns
returns c =
    record {
      turns = always ReleasedAreTurns released_are_turns;
      messages = always ReleasesAreReleased releases_are_released;
      clients = always TurnsAreReleased turns_are_released;
      carried = always CarriedAreReleased carried_are_released;
      commands = released_are_final;
      rise = released_only_rise;
      stamps = always StampsAreTurns stamps_are_turns;
    }
