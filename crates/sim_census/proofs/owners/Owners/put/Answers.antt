-- Each of the four edits leaves what is kept of the id, and nothing else.
use Rattle.{sim_census.{proofs.Owning.{no_owner, owner_gone, owner_new, owner_over, still_up, up_either}, specs.Owners.facts_in}, std.proofs.Common.{ap, ◌∙◌}}
use Rattle.sim_census.proofs.owners.Owners.put.Goals as goal

pub returns-in-Ok-Some-clause-ok : goal.returns-in-Ok-Some-clause-ok
returns-in-Ok-Some-clause-ok c =
    let s = c.args.self.now in
    owner_over s.owned.items c.args.id c.in-Ok-Some.at c.args.part.now c.requires _ _ s.ascend c.in-Ok-Some.ensures c.in-Ok-Some.is-1 c.owned_of.ensures

pub returns-in-Ok-None-clause-ok : goal.returns-in-Ok-None-clause-ok
returns-in-Ok-None-clause-ok c =
    let s = c.args.self.now in
    ap facts_in c.remove.ensures.items ∙ owner_gone s.owned.items c.args.id c.in-Ok-None.at c.args.part.now c.requires s.ascend c.in-Ok-None.ensures
    c.in-Ok-None.is-1

pub returns-in_ok-insert-in-Err-Some-clause-ok : goal.returns-in_ok-insert-in-Err-Some-clause-ok
returns-in_ok-insert-in-Err-Some-clause-ok c =
    let s = c.args.self.now in
    ap facts_in c.in_ok-insert-in-Err-Some.ensures.items ∙ owner_new s.owned.items c.args.id c.in-Err-Some.at c.args.part.now c.requires _ _
    c.in-Err-Some.ensures c.in-Err-Some.is-1 c.owned_of-in-Err-Some.ensures

pub returns-in-Err-None-clause-ok : goal.returns-in-Err-None-clause-ok
returns-in-Err-None-clause-ok c =
    no_owner c.args.self.now.owned.items c.args.id c.in-Err-None.field-0-0 c.args.part.now c.requires c.in-Err-None.ensures c.in-Err-None.is-1

pub invariant_of-self : goal.invariant_of-self
invariant_of-self c =
    let s = c.args.self.now in
    record {
      ascend = still_up s.owned.items _ c.args.id c.args.part.now c.requires s.ascend
          (owner_over s.owned.items c.args.id c.in-Ok-Some.at c.args.part.now c.requires _ _ s.ascend c.in-Ok-Some.ensures c.in-Ok-Some.is-1
          c.owned_of.ensures);
    }

pub invariant_of-self-in-Ok-None : goal.invariant_of-self-in-Ok-None
invariant_of-self-in-Ok-None c =
    let s = c.args.self.now in
    record {
      ascend = still_up s.owned.items c.remove.new.self.items c.args.id c.args.part.now c.requires s.ascend
          (ap facts_in c.remove.ensures.items ∙ owner_gone s.owned.items c.args.id c.in-Ok-None.at c.args.part.now c.requires s.ascend
          c.in-Ok-None.ensures c.in-Ok-None.is-1);
    }

pub invariant_of-self-in-Err-Some : goal.invariant_of-self-in-Err-Some
invariant_of-self-in-Err-Some c =
    let s = c.args.self.now in
    record {
      ascend = up_either _ _ s.owned.items c.insert.new.self.items c.insert.ensures.items
          (still_up s.owned.items _ c.args.id c.args.part.now c.requires s.ascend
          (owner_new s.owned.items c.args.id c.in-Err-Some.at c.args.part.now c.requires _ _ c.in-Err-Some.ensures c.in-Err-Some.is-1
          c.owned_of-in-Err-Some.ensures)) s.ascend;
    }
