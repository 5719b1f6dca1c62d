-- There is room in one sight more, or nobody has that id.
use Rattle.sim_range.proofs.{Watching.more_rooms, Watching.same_rooms, sights.make_rooms.Goals.in-Ok+in_ok-make_room_at, sights.make_rooms.Goals.in_default}
use Rattle.sim_range.proofs.Common.{ℕ, ◌+◌, List, length, take, vec_items, ap, arith, HaveRooms, ids_at, Sight, subst, sym, take_all, ◌∙◌}

pub loop-watcher-preserved : Rattle.sim_range.proofs.sights.make_rooms.Goals.loop-watcher-preserved
loop-watcher-preserved c =
    let facts = c.args.held.now.facts.now in
    let watchers = c.args.watchers.now in
    let j = c.loop-watcher.watcher-index in
    let kept = c.loop-watcher.invariant in
    elim c.match-place_of.branch [
      | in-Ok+in_ok-make_room_at w ↦
          (let is = ap vec_items w.sights-is in
          record {
            along = ap (λ (ss : List Sight). length ss) is ∙ w.in_ok-make_room_at.ensures.elsewhere.along ∙ kept.along;
            same = λ k d. ap (λ (ss : List Sight). ids_at ss k d) is ∙ w.in_ok-make_room_at.ensures.same k d ∙ kept.same k d;
            room = subst (HaveRooms facts (take (j + 1) watchers)) (sym is)
                (more_rooms facts watchers j (grind arith) c.loop-watcher.sights.items kept.room w.in-Ok.at
                w.make_room_at.new.sights.items c.args.held.now.holds.held.ascending
                w.in-Ok.ensures w.in_ok-make_room_at.ensures.there w.in_ok-make_room_at.ensures.elsewhere.others);
          })
      | in_default w ↦
          (let is = ap vec_items w.sights-is in
          record {
            along = ap (λ (ss : List Sight). length ss) is ∙ kept.along;
            same = λ k d. ap (λ (ss : List Sight). ids_at ss k d) is ∙ kept.same k d;
            room = subst (HaveRooms facts (take (j + 1) watchers)) (sym is) (same_rooms facts watchers j (grind arith) c.loop-watcher.sights.items kept.room
                w.in_default.field-0 w.in_default.ensures);
          })
    ]

pub returns-clause-room : Rattle.sim_range.proofs.sights.make_rooms.Goals.returns-clause-room
returns-clause-room c = subst (λ (ws : List ℕ). HaveRooms c.args.held.now.facts.now ws c.loop-watcher.sights.items)
    (take_all c.loop-watcher.watcher-index c.args.watchers.now (grind arith)) c.loop-watcher.invariant.room
