-- The text has the ids so far.
use Rattle.sim_trial.proofs.Common.{◌≡◌, ◌-◌, false, ◌++◌, map, string_bytes, decimal, id_at, joined_after, range_with_len}

abbrev pub invariant-loop-place : Rattle.sim_trial.proofs.walks.push_ids.Given.invariant-loop-place
invariant-loop-place l =
    string_bytes l.text ≡ string_bytes l.initial.text ++ joined_after false
    (map (λ place. decimal (id_at l.player place)) (range_with_len l.from (l.place - l.from)))
