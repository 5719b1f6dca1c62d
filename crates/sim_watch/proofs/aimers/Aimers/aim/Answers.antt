-- What was told of the entity is replaced. There is room, so one that is new is put in.
use Rattle.sim_watch.proofs.Common.{List, Aimer, ap, Ascend, facts_in, subst, sym, told_in, ◌∙◌}
use Rattle.sim_watch.proofs.Listing.{aimed_new, aimed_there, facts_aimed, if_ok, no_target, target_there}
use Rattle.sim_watch.proofs.aimers.Aimers.aim.Goals as goal

pub invariant_of-self : goal.invariant_of-self
invariant_of-self c = let s = c.args.self.now in
    record { ascend = (aimed_there s.aimers.items c.args.id c.args.target c.in-Ok.at s.ascend c.in-Ok.ensures).ascend }

pub returns-in-Ok : goal.returns-in-Ok
returns-in-Ok c =
    let s = c.args.self.now in
    record {
      target = target_there s.aimers.items c.args.id c.in-Ok.at c.index.result.now s.ascend c.in-Ok.ensures c.index.ensures;
      facts = facts_aimed s.aimers.items c.args.id c.args.target c.in-Ok.at s.ascend _
          (aimed_there s.aimers.items c.args.id c.args.target c.in-Ok.at s.ascend c.in-Ok.ensures);
    }

pub invariant_of-self-in-Err : goal.invariant_of-self-in-Err
invariant_of-self-in-Err c =
    let s = c.args.self.now in
    let put = if_ok c.insert.result _ s.aimers.items c.insert.new.self.items (c.insert.ensures.succeeds c.requires) c.insert.ensures.items in
    record {
      ascend = subst (λ (aimers : List Aimer). Ascend (told_in aimers)) (sym put)
          (aimed_new s.aimers.items c.args.id c.args.target c.in-Err.at s.ascend c.in-Err.ensures).ascend;
    }

pub returns-in-Err : goal.returns-in-Err
returns-in-Err c =
    let s = c.args.self.now in
    record {
      target = no_target c.args.self.now.aimers.items c.args.id c.in-Err.at c.args.self.now.ascend c.in-Err.ensures;
      facts = ap facts_in (if_ok c.insert.result _ s.aimers.items c.insert.new.self.items (c.insert.ensures.succeeds c.requires) c.insert.ensures.items)
          ∙ facts_aimed s.aimers.items c.args.id c.args.target c.in-Err.at s.ascend _
          (aimed_new s.aimers.items c.args.id c.args.target c.in-Err.at s.ascend c.in-Err.ensures);
    }
