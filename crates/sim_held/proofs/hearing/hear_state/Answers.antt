-- The state that was loaded is valid, and no command is known.
use Rattle.sim_client.proofs.Standing.{none_by_players}

pub returns-in-Ok-clause-sound : Rattle.sim_held.proofs.hearing.hear_state.Goals.returns-in-Ok-clause-sound
returns-in-Ok-clause-sound c =
    record { valid = c.in-Ok.ensures.ok.valid; known = none_by_players c.args.setup.now c.begin-seat.result.known c.begin-seat.ensures.known }
