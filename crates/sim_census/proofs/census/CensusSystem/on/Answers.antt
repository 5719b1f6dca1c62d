-- What is put in place of the id makes the list that the note makes. One fewer of the old owner, and one more of the new one, are the
-- numbers after it.
use Rattle.sim_census.proofs.census.CensusSystem.on.Goals as goal
use Rattle.{sim_base.proofs.Lists.on_ok, sim_census.proofs.{Counting.{few_left, is_counted, owner_known, part_found, recounted}, Owning.{meant, part_of_owner}}}
use Rattle.{sim_census.specs.Owners.{AreCounts, facts_in}, sim_fact_lists.proofs.Holding.{put_is, put_named, still_held}}
use Rattle.{sim_system.specs.declared.{fact.Fact.Fact, kind.Kind.TheVariants.Census}, std.proofs.Common.{ap, List, subst, sym, ◌∙◌}}

pub put-requires : goal.put-requires
put-requires c =
    let s = c.args.self.now in
    part_of_owner s.owners.owned.items c.args.note.now _ _ _ c.find-before.ensures c.part_after-after.ensures
    (put_named Census (facts_in s.owners.owned.items) c.args.note.now _ _ _ c.id_of-id.ensures c.find-before.ensures c.part_after-after.ensures)

pub leave-requires-clause-owner : goal.leave-requires-clause-owner
leave-requires-clause-owner c = owner_known _ _ _ _ _ c.requires c.args.self.now.held c.find-before.ensures

pub leave-requires-clause-counted : goal.leave-requires-clause-counted
leave-requires-clause-counted c = is_counted _ _ _ _ _ _ c.requires c.args.self.now.held c.args.self.now.counted c.find-before.ensures

pub join-requires-clause-owner : goal.join-requires-clause-owner
join-requires-clause-owner c =
    let s = c.args.self.now in
    let facts = facts_in s.owners.owned.items in
    let new = c.in_ok-put.ensures.ok ∙ put_is Census s.land facts c.args.note.now _ _ _ c.requires s.held c.id_of-id.ensures c.find-before.ensures
    c.part_after-after.ensures in
    owner_known s.land _ _ _ _ c.requires
    (still_held c.put.result Census s.land facts _ c.args.note.now c.requires s.held (on_ok c.put.result _ _ (λ e. new) c.put.ensures.ok) c.put.ensures.err)
    (part_found s.land facts _ c.args.note.now _ _ _ c.requires c.id_of-id.ensures c.find-before.ensures c.part_after-after.ensures new)

pub join-requires-clause-few : goal.join-requires-clause-few
join-requires-clause-few c =
    let s = c.args.self.now in
    few_left _ _ (facts_in s.owners.owned.items) s.counts _ _ c.requires s.held s.counted c.leave.ensures

pub invariant_of-self : goal.invariant_of-self
invariant_of-self c =
    let s = c.args.self.now in
    let facts = facts_in s.owners.owned.items in
    record {
      held = still_held c.put.result Census s.land facts _ c.args.note.now c.requires s.held
          (on_ok c.put.result _ _ (λ e. e ∙ put_is Census s.land facts c.args.note.now _ _ _ c.requires s.held c.id_of-id.ensures c.find-before.ensures
          c.part_after-after.ensures) c.put.ensures.ok) c.put.ensures.err;
      counted = subst (λ (kept : List Fact). AreCounts kept s.counts) (sym c.in_err-put.ensures.err) s.counted;
    }

pub invariant_of-self-2 : goal.invariant_of-self-2
invariant_of-self-2 c =
    let s = c.args.self.now in
    let facts = facts_in s.owners.owned.items in
    let new = c.in_ok-put.ensures.ok ∙ put_is Census s.land facts c.args.note.now _ _ _ c.requires s.held c.id_of-id.ensures c.find-before.ensures
    c.part_after-after.ensures in
    record {
      held = still_held c.put.result Census s.land facts _ c.args.note.now c.requires s.held (on_ok c.put.result _ _ (λ e. new) c.put.ensures.ok)
          c.put.ensures.err;
      counted = recounted s.land facts _ c.args.note.now _ _ _ s.counts _ _ c.requires s.held s.counted c.id_of-id.ensures c.find-before.ensures
          c.part_after-after.ensures new c.leave.ensures c.join.ensures;
    }

pub returns-clause-ok : goal.returns-clause-ok
returns-clause-ok c =
    let s = c.args.self.now in
    ap (λ (facts : List Fact). meant s.land facts s.rebuilds)
    (c.in_ok-put.ensures.ok ∙ put_is Census s.land (facts_in s.owners.owned.items) c.args.note.now _ _ _ c.requires s.held c.id_of-id.ensures
    c.find-before.ensures c.part_after-after.ensures)
