-- The state on the board is that of the client, before and behind.
use Rattle.sim_held.proofs.Common.{subst, sym, ◌∙◌}
use Rattle.{sim_base.specs.Limits.IsValid, sim_board.specs.Boards.setup_in, sim_client.specs.StageWords.AreByPlayers, sim_held.proofs.Common.refl}

pub play_turns-requires : Rattle.sim_held.proofs.boards.play_on.Goals.play_turns-requires
play_turns-requires g c =
    let here = sym c.in_ok-adopt.ensures.setup in
    let state = sym (c.in_ok-adopt.ensures.state ∙ c.replace-state.ensures.value) in
    record {
      same = refl;
      whole = c.in_ok-adopt.ensures.whole;
      valid = subst (λ s. IsValid s c.adopt.new.self.state) here (subst (IsValid (setup_in c.args.board)) state c.requires.can.seated.valid);
      known = subst (λ s. AreByPlayers s c.args.playing.now.seat.known) here c.requires.can.seated.known;
    }

pub returns-clause-seated : Rattle.sim_held.proofs.boards.play_on.Goals.returns-clause-seated
returns-clause-seated g c =
    let here = c.in_ok-adopt.ensures.setup in
    let on = c.in_ok-played.ensures.playing in
    record {
      valid = subst (λ s. IsValid s c.finish-new.result.0) here (subst (IsValid (setup_in c.adopt.new.self)) (sym c.finish-new.ensures.state) on.valid);
      known = subst (λ s. AreByPlayers s c.play_turns.new.playing.seat.known) here on.known;
    }
