use Rattle.sim_range.proofs.Common.{with_only}
use Rattle.sim_range.proofs.Common.{◌≡◌, ℕ, ◌<◌, true, false, length, get_or, take, if◌then◌else◌, vec_len, vec_capacity, Fact, ids_at, is_among, Sight, sight}

abbrev pub invariant-loop-watcher : Rattle.sim_range.proofs.sights.turn_all.Given.invariant-loop-watcher
invariant-loop-watcher l = record {
  along : length l.sights.items ≡ length l.initial.sights.items;
  seen : (i : ℕ) (f : Fact) (d : Sight) → i < length l.held.facts.now →
      ids_at l.sights.items i d ≡ (if is_among (take l.watcher-index l.watchers) (get_or l.held.facts.now i f).id then sight l.held.land.now (with_only l.id
      l.after l.held.facts.now)
      (get_or l.held.facts.now i f) else sight l.held.land.now l.held.facts.now (get_or l.held.facts.now i f));
  room : (i : ℕ) (f : Fact) (d : Sight) → i < length l.held.facts.now → is_among l.watchers (get_or l.held.facts.now i f).id ≡ true → is_among (take
      l.watcher-index l.watchers)
      (get_or l.held.facts.now i f).id ≡ false → vec_len (get_or l.sights.items i d).ids < vec_capacity (get_or l.sights.items i d).ids;
  more : vec_len l.initial.sights < vec_capacity l.initial.sights → vec_len l.sights < vec_capacity l.sights;
}
