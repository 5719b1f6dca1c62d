-- The groups after the change are those of the facts after it.
use Rattle.{sim_fact_lists.{proofs.Keyed.gone_with_last, specs.Groups.group_with}, sim_watch.proofs.{Aiming.gone_groups, Common.{ap, sym, ◌∙◌}}}

pub invariant_of-self : Rattle.sim_watch.proofs.watch.Watch.gone.Goals.invariant_of-self
invariant_of-self c =
    let s = c.args.self.now in
    record {
      listed = λ k. c.forget.ensures.lists k ∙ gone_groups s.aimers.aimers.items s.aimers.ascend c.args.id c.leave-from.result
          c.leave-from.new.self.aimers.items s.groups.groups.items c.leave.new.groups.groups.items s.listed c.leave-from.ensures.aims.target
          c.leave-from.ensures.aims.facts c.leave.ensures.left k;
    }

pub returns-clause-group : Rattle.sim_watch.proofs.watch.Watch.gone.Goals.returns-clause-group
returns-clause-group c none =
    ap (group_with c.args.id) c.forget.ensures.groups ∙ gone_with_last c.leave.new.groups.groups.items c.args.id (sym (c.forget.ensures.lists c.args.id) ∙
    none)
