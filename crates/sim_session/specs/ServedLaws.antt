-- What the notices among all that is said are.
use Rattle.sim_plain.specs.{Messages.Arrival, Messages.sender, Server.notice_in, Server.notices, Server.posts, Server.server_after, declared.rules.Rules.Rules}
use Rattle.std.specs.Prelude.{[], filter_map, List, ℕ, ◌++◌, ◌∷◌, ◌≡◌}

-- the notices that each client from whom something arrives is told at that arrival; the newest arrival is the first in the list
abbrev pub told_to_senders : Rules → ℕ → List (Arrival (List ℕ)) → List (ℕ × ℕ)
told_to_senders rules active [] = []
told_to_senders rules active (a ∷ h) = told_to_senders rules active h ++ filter_map notice_in (posts rules (server_after rules active h) a (sender a))

-- they are those of the whole list: one for each accepted report that differs from the first one of its turn
abbrev pub NoticesAreSaid : Type 0
NoticesAreSaid = (rules : Rules) (active : ℕ) (h : List (Arrival (List ℕ))) → told_to_senders rules active h ≡ notices rules active h
