-- What is put in place of the id makes the list that the note makes.
use Rattle.{sim_base.proofs.Lists.on_ok, sim_fact_lists.proofs.{Common.◌∙◌, Holding.{put_is, put_named, still_held}}}
use Rattle.sim_fact_lists.proofs.kept.Kept.on.Goals as goal

pub put-requires-clause-named : goal.put-requires-clause-named
put-requires-clause-named c = put_named c.args.kind c.args.self.now.facts.items c.args.note.now _ _ _ c.id_of-id.ensures c.find.ensures
    c.part_after-part.ensures

pub invariant_of-self : goal.invariant_of-self
invariant_of-self c = record {
  held = still_held c.put.result _ _ _ _ _ c.requires c.args.self.now.held
      (on_ok c.put.result _ _ (λ e. e ∙ put_is c.args.kind c.args.self.now.land c.args.self.now.facts.items c.args.note.now _ _ _ c.requires
      c.args.self.now.held c.id_of-id.ensures c.find.ensures c.part_after-part.ensures) c.put.ensures.ok)
      c.put.ensures.err;
}

pub returns-clause-facts : goal.returns-clause-facts
returns-clause-facts c =
    on_ok c.put.result _ _ (λ e. e ∙ put_is c.args.kind c.args.self.now.land c.args.self.now.facts.items c.args.note.now _ _ _ c.requires c.args.self.now.held
    c.id_of-id.ensures c.find.ensures c.part_after-part.ensures) c.put.ensures.ok
