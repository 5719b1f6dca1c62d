-- The first state is valid, and no command is known.
use Rattle.sim_client.proofs.Standing.{none_by_players}

pub returns-clause-sound : Rattle.sim_held.proofs.beginning.first_stage.Goals.returns-clause-sound
returns-clause-sound c =
    record { valid = c.in_ok-state.ensures.valid; known = none_by_players c.args.setup.now c.begin-seat.result.known c.begin-seat.ensures.known }
