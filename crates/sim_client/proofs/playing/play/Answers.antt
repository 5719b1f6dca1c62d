-- What is told of a turn leaves what is known.
use Rattle.sim_client.proofs.Common.{AreByPlayers, refl, rules, subst, sym}

pub returns : Rattle.sim_client.proofs.playing.play.Goals.returns
returns g c =
    let turned = c.in_ok-play_next.ensures.playing in
    record {
      answers = search rules;
      playing = record {
        same = turned.same;
        whole = turned.whole;
        valid = turned.valid;
        known = subst (AreByPlayers c.args.setup.now) (sym c.in_ok-up.ensures.known) turned.known;
      };
      idle = λ none. refl;
      kept = c.play_next.ensures.kept;
    }
