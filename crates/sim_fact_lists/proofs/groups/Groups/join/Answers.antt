-- The group has room, so it stands there; it is changed, and no other.
use Rattle.sim_fact_lists.proofs.{Common.with_id, Keyed.changed_ascend, Keyed.changed_listed, Keyed.no_room, Keyed.room_before}
use Rattle.sim_fact_lists.proofs.groups.Groups.join.Goals as goal

pub join-requires : goal.join-requires
join-requires c =
    let s = c.args.self.now in
    room_before s.groups.items c.args.key c.in-Ok.at c.index_mut.result.now c.index_mut.result.now (with_id c.args.id) s.ascend c.in-Ok.ensures
    c.index_mut.ensures.value (λ i. c.index_mut.result.now.key) c.requires

pub invariant_of-self : goal.invariant_of-self
invariant_of-self c =
    let s = c.args.self.now in
    record {
      ascend = changed_ascend s.groups.items c.args.key c.in-Ok.at c.index_mut.result.now c.join.new.self (with_id c.args.id) s.ascend c.in-Ok.ensures
          c.index_mut.ensures.value c.join.ensures.key;
    }

pub returns-in-Ok : goal.returns-in-Ok
returns-in-Ok c =
    let s = c.args.self.now in
    changed_listed s.groups.items c.args.key c.in-Ok.at c.index_mut.result.now c.join.new.self (with_id c.args.id) s.ascend c.in-Ok.ensures
    c.index_mut.ensures.value c.join.ensures.key c.join.ensures.ids

pub returns-in_default : goal.returns-in_default
returns-in_default c = no_room c.args.self.now.groups.items c.args.key c.in_default.field-0 c.in_default.ensures c.requires
