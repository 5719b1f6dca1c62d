-- What was told of the entity is replaced by what is told of one without a target. One that does not stand in the list has none.
use Rattle.sim_watch.proofs.Listing.{aimed_there, facts_aimed, facts_left, left_none, no_target, target_there}
use Rattle.sim_watch.proofs.aimers.Aimers.let_go.Goals as goal

pub invariant_of-self : goal.invariant_of-self
invariant_of-self c = let s = c.args.self.now in
    record { ascend = (aimed_there s.aimers.items c.args.id 0 c.in-Ok.at s.ascend c.in-Ok.ensures).ascend }

pub returns-in-Ok : goal.returns-in-Ok
returns-in-Ok c =
    let s = c.args.self.now in
    record {
      aims = record {
        target = target_there s.aimers.items c.args.id c.in-Ok.at c.index.result.now s.ascend c.in-Ok.ensures c.index.ensures;
        facts = facts_aimed s.aimers.items c.args.id 0 c.in-Ok.at s.ascend _ (aimed_there s.aimers.items c.args.id 0 c.in-Ok.at s.ascend c.in-Ok.ensures);
      };
    }

pub returns-in-Err : goal.returns-in-Err
returns-in-Err c =
    let s = c.args.self.now in
    record {
      aims = record {
        target = no_target c.args.self.now.aimers.items c.args.id c.in-Err.field-0 c.args.self.now.ascend c.in-Err.ensures;
        facts = facts_left s.aimers.items c.args.id 0 c.in-Err.field-0 s.ascend s.aimers.items
            (left_none s.aimers.items c.args.id 0 c.in-Err.field-0 s.ascend c.in-Err.ensures);
      };
    }
