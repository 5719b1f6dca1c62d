-- There is room, so the id is put in its place, if it does not stand there.
use Rattle.sim_fact_lists.proofs.{Common.{IdBelongs, IdStands, List, queued, subst, ℕ, ◌∙◌}, Ids.{inserted_there, rising, still_ascend, there_again}}
use Rattle.sim_fact_lists.proofs.group.Group.join.Goals as goal

pub invariant_of-self : goal.invariant_of-self
invariant_of-self c =
    let xs = queued c.args.self.now.ids in
    let h = subst (λ (ids : List ℕ). IdBelongs ids c.args.id c.in-Err.at) c.as_slice.ensures c.in-Err.ensures in
    record {
      ascend = still_ascend xs (queued c.insert.new.self) c.args.id c.args.self.now.ascend
          (c.insert.ensures ∙ inserted_there xs c.args.id c.in-Err.at h.within h.before h.behind);
    }

pub returns-in-Err-clause-ids : goal.returns-in-Err-clause-ids
returns-in-Err-clause-ids c =
    let xs = queued c.args.self.now.ids in
    let h = subst (λ (ids : List ℕ). IdBelongs ids c.args.id c.in-Err.at) c.as_slice.ensures c.in-Err.ensures in
    c.insert.ensures ∙ inserted_there xs c.args.id c.in-Err.at h.within h.before h.behind

pub returns-in_default-clause-ids : goal.returns-in_default-clause-ids
returns-in_default-clause-ids c =
    let xs = queued c.args.self.now.ids in
    let h = subst (λ (ids : List ℕ). IdStands ids c.args.id c.in_default.field-0) c.as_slice.ensures c.in_default.ensures in
    there_again xs c.args.id c.in_default.field-0 (rising xs c.args.self.now.ascend) h.within h.same
