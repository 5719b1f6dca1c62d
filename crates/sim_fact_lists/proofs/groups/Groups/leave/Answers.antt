-- The group that stands there is changed, and no other.
use Rattle.sim_fact_lists.proofs.{Common.without_id, Keyed.changed_ascend, Keyed.changed_listed, Keyed.changed_room, Keyed.nothing_left}
use Rattle.sim_fact_lists.proofs.groups.Groups.leave.Goals as goal

pub invariant_of-self : goal.invariant_of-self
invariant_of-self c =
    let s = c.args.self.now in
    record {
      ascend = changed_ascend s.groups.items c.args.key c.in-Ok.at c.index_mut.result.now c.leave.new.self (without_id c.args.id) s.ascend
          c.in-Ok.ensures c.index_mut.ensures.value c.leave.ensures.key;
    }

pub returns-in-Ok-clause-left : goal.returns-in-Ok-clause-left
returns-in-Ok-clause-left c =
    let s = c.args.self.now in
    changed_listed s.groups.items c.args.key c.in-Ok.at c.index_mut.result.now c.leave.new.self (without_id c.args.id) s.ascend c.in-Ok.ensures
    c.index_mut.ensures.value c.leave.ensures.key c.leave.ensures.ids

pub returns-in-Ok-clause-room : goal.returns-in-Ok-clause-room
returns-in-Ok-clause-room c =
    let s = c.args.self.now in
    changed_room s.groups.items c.args.key c.in-Ok.at c.index_mut.result.now c.leave.new.self (without_id c.args.id) s.ascend c.in-Ok.ensures
    c.index_mut.ensures.value c.leave.ensures.key c.leave.ensures.room

pub returns-in_default-clause-left : goal.returns-in_default-clause-left
returns-in_default-clause-left c = nothing_left c.args.self.now.groups.items c.args.key c.in_default.field-0 c.args.id c.in_default.ensures
