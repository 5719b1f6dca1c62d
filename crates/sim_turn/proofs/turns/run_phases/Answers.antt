-- The phases are no turn.
use Rattle.{sim_laws.proofs.Turning.gone_keeps_turn, sim_turn.proofs.Counting.still_below}
use Rattle.sim_turn.proofs.Common.{◌≡◌, aimed, ap, hit, moved, setup_in, State, state_in, ◌∙◌}

pub apply-requires-clause-fits : Rattle.sim_turn.proofs.turns.run_phases.Goals.apply-requires-clause-fits
apply-requires-clause-fits g c =
    let setup = setup_in c.args.board.now in
    let state = state_in c.args.board.now in
    let acted : (state_in c.act.new.board).turn ≡ state.turn = ap (λ (s : State). s.turn) c.in_ok-act.ensures.state ∙
    gone_keeps_turn (hit setup (moved setup (aimed setup state))) in
    still_below setup (setup_in c.act.new.board) state (state_in c.act.new.board) c.in_ok-act.ensures.setup acted c.requires.below
