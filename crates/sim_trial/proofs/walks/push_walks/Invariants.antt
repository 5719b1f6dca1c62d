-- The text has the commands so far.
use Rattle.sim_trial.proofs.{Common.◌≡◌, Common.◌++◌, Common.map, Common.string_bytes, Common.joined_after, Common.range_with_len, OwnedSoldiers.group_walk}

abbrev pub invariant-loop-group : Rattle.sim_trial.proofs.walks.push_walks.Given.invariant-loop-group
invariant-loop-group l =
    string_bytes l.text ≡ string_bytes l.initial.text ++ joined_after l.begun (map (group_walk l.player l.owned) (range_with_len 0 l.group))
