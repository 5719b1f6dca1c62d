use Rattle.sim_range.proofs.Common.{◌≡◌, ℕ, length, take, HaveRooms, ids_at, Sight}

abbrev pub invariant-loop-watcher : Rattle.sim_range.proofs.sights.make_rooms.Given.invariant-loop-watcher
invariant-loop-watcher l = record {
  along : length l.sights.items ≡ length l.initial.sights.items;
  same : (k : ℕ) (d : Sight) → ids_at l.sights.items k d ≡ ids_at l.initial.sights.items k d;
  room : HaveRooms l.held.facts.now (take l.watcher-index l.watchers) l.sights.items;
}
