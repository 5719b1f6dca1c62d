-- States that bytes stand for are valid, so their rows ascend, and have short ways.
use Rattle.sim_codec.proofs.ShortWays.{short_ways}

pub difference-requires : Rattle.sim_embed.proofs.looking.compare.Goals.difference-requires
difference-requires c =
    let setup = c.in_ok-setup.setup in
    let left = c.in_ok-left.ensures.is.valid in
    let right = c.in_ok-right.ensures.is.valid in
    record {
      left_ascending = left.ascending;
      left_short = short_ways 1 setup _ left;
      right_ascending = right.ascending;
      right_short = short_ways 1 setup _ right;
    }
