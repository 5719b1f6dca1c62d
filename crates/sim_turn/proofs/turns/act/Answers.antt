-- Where nobody can act, the phases leave the state as it is.
use Rattle.sim_turn.proofs.Common.{◌≡◌, true, ap, is_resting, list_all, setup_in, State, state_in, sym, ◌∙◌}
use Rattle.{sim_board.proofs.Keeping.kept_fed, sim_turn.proofs.Common.refl, sim_turn.proofs.Resting.nobody_acts}

pub returns-then-all_rest : Rattle.sim_turn.proofs.turns.act.Goals.returns-then-all_rest
returns-then-all_rest g c =
    let state = state_in c.args.board.now in
    let rows : c.as_slice.result.now ≡ state.rows = c.as_slice.ensures ∙ ap (λ (s : State). s.rows) c.scene.ensures.state in
    let rest : list_all is_resting state.rows ≡ true = ap (list_all is_resting) (sym rows) ∙ sym c.all_rest.ensures ∙ c.if-all_rest.true in
    record {
      state = nobody_acts (setup_in c.args.board.now) state rest c.requires.standing.valid;
      whole = c.requires;
      kept = kept_fed _ _ _ c.requires.standing.fed;
      setup = refl;
    }
