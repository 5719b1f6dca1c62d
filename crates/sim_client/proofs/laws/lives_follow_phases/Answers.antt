use Rattle.sim_client.proofs.Following.{bending_follows, hearing_follows, joining_follows, ordering_follows, playing_follows, starting_follows}

pub returns : Rattle.sim_client.proofs.laws.lives_follow_phases.Goals.returns
returns c =
    record {
      starts = starting_follows;
      joins = joining_follows;
      orders = ordering_follows;
      plays = playing_follows;
      bends = bending_follows;
      hears = hearing_follows;
    }
