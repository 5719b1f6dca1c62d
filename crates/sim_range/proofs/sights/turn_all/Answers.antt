-- One sight more is changed, or nobody has that id.
use Rattle.sim_range.proofs.Common.{ap, arith, Fact, fact_with, get_or, ids_at, ids_of, is_seen, length, List, refl, Sight, sight, subst, sym, take_all}
use Rattle.sim_range.proofs.{Common.{vec_capacity, vec_items, vec_len, ◌<◌, ◌∙◌}, sights.turn_all.Goals.{in-Ok, in_default}}
use Rattle.sim_range.proofs.Watching.{all_turned, long_as, next_room, next_seen, read_map, ready_room, ready_up, same_room, same_seen}
use Rattle.sim_range.proofs.sights.turn_all.Goals as goal

pub loop-watcher-init : goal.loop-watcher-init
loop-watcher-init c = record {
  along = refl;
  seen = λ i f d lt. read_map ids_of (sight c.args.held.now.land.now c.args.held.now.facts.now) c.args.sights.now.items c.args.held.now.facts.now i d f
      c.requires.sights lt;
  room = λ i f d lt among none. c.requires.room i f d lt among;
  more = λ room. room;
}

pub turn_at-requires-clause-ascending : goal.turn_at-requires-clause-ascending
turn_at-requires-clause-ascending c =
    ready_up c.args.held.now.land.now c.args.id c.args.after.now c.args.held.now.facts.now c.args.held.now.holds.held.ascending c.requires.named
    c.args.watchers.now
    c.loop-watcher.watcher-index (grind arith) c.loop-watcher.sights.items c.loop-watcher.invariant.seen c.loop-watcher.invariant.room
    c.in-Ok.at c.in-Ok.ensures c.index-held-at.result c.index-held-at.is

pub turn_at-requires-clause-room : goal.turn_at-requires-clause-room
turn_at-requires-clause-room c =
    ready_room c.args.held.now.land.now c.args.id c.args.after.now c.args.held.now.facts.now c.args.held.now.holds.held.ascending c.requires.named
    c.args.watchers.now
    c.loop-watcher.watcher-index (grind arith) c.loop-watcher.sights.items c.loop-watcher.invariant.seen c.loop-watcher.invariant.room
    c.in-Ok.at c.in-Ok.ensures c.index-held-at.result c.index-held-at.is c.is_seen.result
    (c.is_seen.ensures ∙ ap (λ (f : Fact). is_seen c.args.held.now.land.now f c.args.after.now) (sym c.index-held-at.is))

pub loop-watcher-preserved : goal.loop-watcher-preserved
loop-watcher-preserved c =
    let land = c.args.held.now.land.now in
    let facts = c.args.held.now.facts.now in
    let watchers = c.args.watchers.now in
    let j = c.loop-watcher.watcher-index in
    let old = c.loop-watcher.sights.items in
    let kept = c.loop-watcher.invariant in
    elim c.match-place_of.branch [
      | in-Ok w ↦
          (let is = ap vec_items w.sights-is in
          let new = w.turn_at.new.sights.items in
          record {
            along = ap (λ (ss : List Sight). length ss) is ∙ w.turn_at.ensures.elsewhere.along ∙ kept.along;
            seen = λ i f d lt. ap (λ (ss : List Sight). ids_at ss i d) is
                ∙ next_seen land c.args.id c.args.after.now facts c.args.held.now.holds.held.ascending c.requires.named watchers j (grind arith) old kept.seen
                kept.room w.in-Ok.at w.in-Ok.ensures w.index-held-at.result w.index-held-at.is new w.turn_at.ensures.elsewhere.others w.is_seen.result
                (w.is_seen.ensures ∙ ap (λ (g : Fact). is_seen land g c.args.after.now) (sym w.index-held-at.is)) w.turn_at.ensures.there i f d lt;
            room = λ i f d lt among none. subst (λ (ss : List Sight). vec_len (get_or ss i d).ids < vec_capacity (get_or ss i d).ids) (sym is)
                (next_room land c.args.id c.args.after.now facts c.args.held.now.holds.held.ascending c.requires.named watchers j (grind arith) old kept.seen
                kept.room w.in-Ok.at w.in-Ok.ensures w.index-held-at.result w.index-held-at.is new w.turn_at.ensures.elsewhere.others i f d lt among
                none);
            more = λ room. subst (λ (v : _). vec_len v < vec_capacity v) (sym w.sights-is) (w.turn_at.ensures.room (kept.more room));
          })
      | in_default w ↦
          (let is = ap vec_items w.sights-is in
          record {
            along = ap (λ (ss : List Sight). length ss) is ∙ kept.along;
            seen = λ i f d lt. ap (λ (ss : List Sight). ids_at ss i d) is
                ∙ same_seen land c.args.id c.args.after.now facts c.args.held.now.holds.held.ascending c.requires.named watchers j (grind arith) old kept.seen
                kept.room w.in_default.field-0 w.in_default.ensures i f d lt;
            room = λ i f d lt among none. subst (λ (ss : List Sight). vec_len (get_or ss i d).ids < vec_capacity (get_or ss i d).ids) (sym is)
                (same_room land c.args.id c.args.after.now facts c.args.held.now.holds.held.ascending c.requires.named watchers j (grind arith) old kept.seen
                kept.room w.in_default.field-0 w.in_default.ensures i f d lt among none);
            more = λ room. subst (λ (v : _). vec_len v < vec_capacity v) (sym w.sights-is) (kept.more room);
          })
    ]

pub returns-clause-changed : goal.returns-clause-changed
returns-clause-changed c =
    all_turned c.args.held.now.land.now c.args.id c.args.after.now c.args.held.now.facts.now c.args.held.now.holds.held.ascending c.requires.named
    (fact_with c.args.held.now.facts.now c.args.id) c.args.watchers.now _ c.loop-watcher.sights.items refl
    (take_all c.loop-watcher.watcher-index c.args.watchers.now (grind arith)) (c.loop-watcher.invariant.along ∙
    long_as ids_of (sight c.args.held.now.land.now c.args.held.now.facts.now) c.args.sights.now.items c.args.held.now.facts.now c.requires.sights)
    c.loop-watcher.invariant.seen
