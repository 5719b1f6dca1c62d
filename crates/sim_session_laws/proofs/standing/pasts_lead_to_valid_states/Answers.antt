use Rattle.sim_session_laws.proofs.Fitting.{always, heard_bytes_spell_a_state, known_are_of_players, no_state_is_ever_refused, pasts_are_always_valid}
use Rattle.sim_session_laws.proofs.{Common.KnownAreOfPlayers, Common.StatesHaveTurns, Fitting.states_have_turns}

pub returns : Rattle.sim_session_laws.proofs.standing.pasts_lead_to_valid_states.Goals.returns
returns c =
    record {
      valid = pasts_are_always_valid;
      turns = always StatesHaveTurns states_have_turns;
      heard = no_state_is_ever_refused;
      bytes = heard_bytes_spell_a_state;
      known = always KnownAreOfPlayers known_are_of_players;
    }
