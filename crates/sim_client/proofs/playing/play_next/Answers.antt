-- The commands of the turn are known no more.
use Rattle.sim_client.proofs.{Common.{All-nil, IsOrderOf, IsValid, Setup, subst, [], ◌+◌, ◌∙◌}, Knowing.players_put}

pub returns-clause-playing : Rattle.sim_client.proofs.playing.play_next.Goals.returns-clause-playing
returns-clause-playing g c =
    let setup = c.args.setup.now in
    let before = c.requires.playing in
    let turned = c.in_ok-turn.ensures in
    record {
      same = turned.setup ∙ before.same;
      whole = turned.whole;
      valid = subst (λ (s : Setup). IsValid s c.turn.new.board.state) before.same turned.valid;
      known = players_put setup c.args.seat.now.known c.take-commands.new.self (c.scene.result.state.now.turn + 1) [] c.take-commands.ensures.others
          before.known (All-nil (IsOrderOf setup));
    }
