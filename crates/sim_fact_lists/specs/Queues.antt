-- A list of ids whose first leaves without moving the others.
use Rattle.std.specs.Prelude.{◌≡◌, ℕ, ◌<◌, ◌≤◌, List, length, drop, OnOk, Result, vec_len, vec_capacity}
use Rattle.sim_fact_lists.specs.declared.queue.Queue.{Queue}

-- the ids of a queue: those that left at the front are no more among them
abbrev pub queued : Queue → List ℕ
queued queue = drop queue.left queue.ids.items

-- there is room for one id more
abbrev pub HasPlace : Queue → Type 0
HasPlace queue = vec_len queue.ids < vec_capacity queue.ids

-- Room for one id more was made, if there was memory. However it ends, the ids are the same, and no more of those that left are kept than
-- there are others.
pub record MakesRoom {A E : Type 0} (outcome : Result A E) (old new : Queue) : Type 0 where
  pub ids : queued new ≡ queued old
  pub few : new.left ≤ length (queued new)
  pub room : OnOk outcome (HasPlace new)
