-- The id is taken out where it stands.
use Rattle.sim_fact_lists.proofs.{Common.{IdBelongs, IdStands, List, queued, subst, ℕ, ◌∙◌}, Ids.{absent_there, fewer_ascend, removed_there, rising}}
use Rattle.sim_fact_lists.proofs.group.Group.leave.Goals as goal

pub invariant_of-self : goal.invariant_of-self
invariant_of-self c =
    let xs = queued c.args.self.now.ids in
    let h = subst (λ (ids : List ℕ). IdStands ids c.args.id c.in-Ok.at) c.as_slice.ensures c.in-Ok.ensures in
    record {
      ascend = fewer_ascend xs (queued c.remove.new.self) c.args.id c.args.self.now.ascend
          (c.remove.ensures.ids ∙ removed_there xs c.args.id c.in-Ok.at (rising xs c.args.self.now.ascend) h.within h.same);
    }

pub returns-in-Ok-clause-ids : goal.returns-in-Ok-clause-ids
returns-in-Ok-clause-ids c =
    let xs = queued c.args.self.now.ids in
    let h = subst (λ (ids : List ℕ). IdStands ids c.args.id c.in-Ok.at) c.as_slice.ensures c.in-Ok.ensures in
    c.remove.ensures.ids ∙ removed_there xs c.args.id c.in-Ok.at (rising xs c.args.self.now.ascend) h.within h.same

pub returns-in_default-clause-ids : goal.returns-in_default-clause-ids
returns-in_default-clause-ids c =
    let xs = queued c.args.self.now.ids in
    let h = subst (λ (ids : List ℕ). IdBelongs ids c.args.id c.in_default.field-0) c.as_slice.ensures c.in_default.ensures in
    absent_there xs c.args.id c.in_default.field-0 h.before h.behind
