-- The group that stands there has the same ids as before, and a new one has none.
use Rattle.{sim_base.proofs.Lists.on_ok, sim_fact_lists.proofs.Common.{ap, Bool, cond, false, HasRoom, List, listed, refl, subst, sym, true, ℕ, ◌==◌, ◌∙◌, ◌≡◌}}
use Rattle.sim_fact_lists.proofs.Keyed.{added_ascend, added_listed, added_room, changed_ascend, changed_listed, room_there}
use Rattle.sim_fact_lists.proofs.groups.Groups.make_room.Goals as goal

either : (b : Bool) (ids : List ℕ) → cond b ids ids ≡ ids
either true ids = refl
either false ids = refl

pub invariant_of-self : goal.invariant_of-self
invariant_of-self c =
    let s = c.args.self.now in
    record {
      ascend = changed_ascend s.groups.items c.args.key c.in-Ok.at c.index_mut.result.now c.make_room.new.self (λ (ids : List ℕ). ids) s.ascend
          c.in-Ok.ensures c.index_mut.ensures.value c.make_room.ensures.key;
    }

pub invariant_of-self-in-Err : goal.invariant_of-self-in-Err
invariant_of-self-in-Err c =
    let s = c.args.self.now in
    record {
      ascend = added_ascend s.groups.items c.args.key c.in-Err.at c.make_room-in-Err.new.self c.in-Err.ensures (c.make_room-in-Err.ensures.key ∙
          c.new-group.ensures.key) c.insert.result c.insert.new.self.items s.ascend c.insert.ensures.items;
    }

pub returns-in-Ok-clause-same : goal.returns-in-Ok-clause-same
returns-in-Ok-clause-same c k =
    let s = c.args.self.now in
    changed_listed s.groups.items c.args.key c.in-Ok.at c.index_mut.result.now c.make_room.new.self (λ (ids : List ℕ). ids) s.ascend c.in-Ok.ensures
    c.index_mut.ensures.value c.make_room.ensures.key c.make_room.ensures.ids k
    ∙ either (c.args.key == k) (listed k s.groups.items)

pub returns-in-Ok-clause-room : goal.returns-in-Ok-clause-room
returns-in-Ok-clause-room c =
    let s = c.args.self.now in
    on_ok c.make_room.result _ _ (room_there s.groups.items c.args.key c.in-Ok.at c.index_mut.result.now c.make_room.new.self (λ (ids : List ℕ). ids) s.ascend
    c.in-Ok.ensures c.index_mut.ensures.value c.make_room.ensures.key)
    c.make_room.ensures.room

pub returns-in_ok-insert-in-Err-clause-same : goal.returns-in_ok-insert-in-Err-clause-same
returns-in_ok-insert-in-Err-clause-same c k =
    ap (listed k) c.in_ok-insert-in-Err.ensures.items
    ∙ added_listed c.args.self.now.groups.items c.args.key c.in-Err.at c.make_room-in-Err.new.self c.in-Err.ensures (c.make_room-in-Err.ensures.key ∙
    c.new-group.ensures.key) (c.make_room-in-Err.ensures.ids ∙ c.new-group.ensures.ids) k

pub returns-in_ok-insert-in-Err-clause-room : goal.returns-in_ok-insert-in-Err-clause-room
returns-in_ok-insert-in-Err-clause-room c =
    subst (HasRoom c.args.key) (sym c.in_ok-insert-in-Err.ensures.items)
    (added_room c.args.self.now.groups.items c.args.key c.in-Err.at c.make_room-in-Err.new.self c.in-Err.ensures (c.make_room-in-Err.ensures.key ∙
    c.new-group.ensures.key) c.in_ok-make_room-in-Err.ensures.room)
