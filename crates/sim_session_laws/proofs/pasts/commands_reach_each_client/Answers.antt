use Rattle.sim_session_laws.proofs.Common.{BehindStateAreKept, ComingAreAboveRelease, KeptAreOfPlayers, KeptAreTurns, KnownAndComingAreKept, NoneBehindRelease}
use Rattle.sim_session_laws.proofs.Fitting.{always, behind_state_are_kept, coming_are_above_release, kept_are_of_players, kept_are_turns}
use Rattle.sim_session_laws.proofs.Fitting.{known_and_coming_are_kept, none_behind_release}

pub returns : Rattle.sim_session_laws.proofs.pasts.commands_reach_each_client.Goals.returns
returns c =
    record {
      coming = always KnownAndComingAreKept known_and_coming_are_kept;
      above = always ComingAreAboveRelease coming_are_above_release;
      behind = always NoneBehindRelease none_behind_release;
      loads = always BehindStateAreKept behind_state_are_kept;
      players = always KeptAreOfPlayers kept_are_of_players;
      turns = always KeptAreTurns kept_are_turns;
    }
