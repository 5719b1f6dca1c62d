use Rattle.sim_plain_session.proofs.PlayerLemmas.{beginning_stands, bending_stands, learning_stands, playing_stands, same_mark, same_turn}

pub returns : Rattle.sim_plain_session.proofs.players.players_stand_for_clients.Goals.returns
returns c =
    record {
      same = same_turn;
      mark = same_mark;
      begins = beginning_stands;
      plays = playing_stands;
      bends = bending_stands;
      learns = learning_stands;
    }
