-- What may be mended is, and after the undoing the same cells are open.
use Rattle.sim_ground.proofs.{Common.{AreLabels, field_of_grid, label_in, part_covers, subst, sym}, Mendable.{are_turned, labels_undone, own_labels}}
use Rattle.sim_search.specs.declared.labels.Labels.{Labels}

pub are_mended-requires : Rattle.sim_ground.proofs.opened.Opened.turn.Goals.are_mended-requires
are_mended-requires c = record {
  labels = own_labels c.args.self.now.cover.grid c.turn.new.self.grid (label_in c.args.self.now.labels) c.turn.ensures.size c.args.self.now.labelled;
  turned = are_turned c.args.self.now.cover.grid c.turn.new.self.grid c.args.self.now.cover.layers.items c.turn.new.self.layers.items
      (part_covers c.args.before.now) (part_covers c.args.after.now) (label_in c.args.self.now.labels) c.args.self.now.cover.agree c.turn.new.self.agree
      c.turn.ensures.size c.turn.ensures.layers c.args.self.now.labelled;
}

pub invariant_of-self-in-Err : Rattle.sim_ground.proofs.opened.Opened.turn.Goals.invariant_of-self-in-Err
invariant_of-self-in-Err c = record {
  labelled = subst (λ (labels : Labels). ∥ AreLabels (field_of_grid c.turn-in-Err.new.self.grid) (label_in labels) ∥₁)
      (sym (c.are_mended.ensures.same c.if-are_mended.false))
      (labels_undone c.args.self.now.cover.grid c.turn.new.self.grid c.turn-in-Err.new.self.grid c.args.self.now.cover.layers.items
      c.turn.new.self.layers.items c.turn-in-Err.new.self.layers.items _ _ _ c.args.self.now.cover.agree c.turn-in-Err.new.self.agree c.turn.ensures.size
      c.turn-in-Err.ensures.size
      c.turn.ensures.layers c.turn-in-Err.ensures.layers c.args.self.now.labelled);
}
