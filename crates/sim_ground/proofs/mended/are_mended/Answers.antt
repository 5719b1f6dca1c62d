-- A rectangle that came covers what is kept of the entity, and one that went what was kept of it.
use Rattle.sim_ground.proofs.Common.{Bool, not, ◌&&◌, ap, is_open_at, is_some, label_in, Option, rect_covers, Rect, ◌∙◌}

pub closed-requires : Rattle.sim_ground.proofs.mended.are_mended.Goals.closed-requires
closed-requires c = record {
  labels = c.requires.labels;
  closes = λ e on.
      c.requires.turned.came (λ f. c.rect_of.ensures f ∙ ap (λ (r : Option Rect). rect_covers r f) c.in-None-Some.is-0) e on
      ∙ ap (λ (b : Bool). is_some (label_in c.args.labels.now e) && not b)
      (c.rect_of-2.ensures e ∙ ap (λ (r : Option Rect). rect_covers r e) c.in-None-Some.is-1);
}

pub opened-requires : Rattle.sim_ground.proofs.mended.are_mended.Goals.opened-requires
opened-requires c = record {
  labels = c.requires.labels;
  opens = λ e on.
      c.requires.turned.went (λ f. c.rect_of-2.ensures f ∙ ap (λ (r : Option Rect). rect_covers r f) c.in-Some-None.is-1) e on
      ∙ ap (λ (b : Bool). is_open_at c.args.grid.now e && not b)
      (c.rect_of.ensures e ∙ ap (λ (r : Option Rect). rect_covers r e) c.in-Some-None.is-0);
}
