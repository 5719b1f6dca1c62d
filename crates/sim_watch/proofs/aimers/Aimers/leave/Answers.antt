-- The entity is taken out where it stands. One that does not stand in the list has no target.
use Rattle.sim_watch.proofs.Common.{List, Aimer, ap, Ascend, facts_in, subst, sym, told_in, ◌∙◌}
use Rattle.sim_watch.proofs.Listing.{facts_left, left_none, left_there, no_target, target_there}
use Rattle.sim_watch.proofs.aimers.Aimers.leave.Goals as goal

pub invariant_of-self : goal.invariant_of-self
invariant_of-self c =
    let s = c.args.self.now in
    record {
      ascend = subst (λ (aimers : List Aimer). Ascend (told_in aimers)) (sym c.remove.ensures.items)
          (left_there s.aimers.items c.args.id 0 c.in-Ok.at s.ascend c.in-Ok.ensures).ascend;
    }

pub returns-in-Ok-clause-aims : goal.returns-in-Ok-clause-aims
returns-in-Ok-clause-aims c =
    let s = c.args.self.now in
    record {
      target = target_there s.aimers.items c.args.id c.in-Ok.at c.index.result.now s.ascend c.in-Ok.ensures c.index.ensures;
      facts = ap facts_in c.remove.ensures.items ∙ facts_left s.aimers.items c.args.id 0 c.in-Ok.at s.ascend _
          (left_there s.aimers.items c.args.id 0 c.in-Ok.at s.ascend c.in-Ok.ensures);
    }

pub returns-in-Err-clause-aims : goal.returns-in-Err-clause-aims
returns-in-Err-clause-aims c =
    let s = c.args.self.now in
    record {
      target = no_target c.args.self.now.aimers.items c.args.id c.in-Err.field-0 c.args.self.now.ascend c.in-Err.ensures;
      facts = facts_left s.aimers.items c.args.id 0 c.in-Err.field-0 s.ascend s.aimers.items
          (left_none s.aimers.items c.args.id 0 c.in-Err.field-0 s.ascend c.in-Err.ensures);
    }

pub returns-in-Ok-clause-told : goal.returns-in-Ok-clause-told
returns-in-Ok-clause-told c =
    let s = c.args.self.now in
    ap told_in c.remove.ensures.items ∙ (left_there s.aimers.items c.args.id 0 c.in-Ok.at s.ascend c.in-Ok.ensures).told

pub returns-in-Err-clause-told : goal.returns-in-Err-clause-told
returns-in-Err-clause-told c =
    let s = c.args.self.now in
    (left_none s.aimers.items c.args.id 0 c.in-Err.field-0 s.ascend c.in-Err.ensures).told
