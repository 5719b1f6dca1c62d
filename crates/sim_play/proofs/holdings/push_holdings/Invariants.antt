-- There is a line for each player so far.
use Rattle.sim_play.{proofs.Common.{flat_map, range_with_len, string_bytes, ◌++◌, ◌-◌, ◌≡◌, ◌≤◌}, specs.Realms.player_line}

abbrev pub invariant-loop-player : Rattle.sim_play.proofs.holdings.push_holdings.Given.invariant-loop-player
invariant-loop-player l =
    record {
      begun : 1 ≤ l.player;
      text : string_bytes l.out ≡ string_bytes l.initial.out ++ flat_map (player_line l.holders l.rooted) (range_with_len 1 (l.player - 1));
    }
