-- Rectangles on the land without a cell in common are those whose cells are open.
use Rattle.sim_ground.proofs.{Common.{ap, Bool, Fact, list_any, not, overlap, overlaps_any, sym, ◌&&◌, ◌∙◌}, Freeing.free_is}

pub returns-then-is_inside : Rattle.sim_ground.proofs.free.is_free.Goals.returns-then-is_inside
returns-then-is_inside c =
    let apart : Bool = not (list_any (overlap c.args.rect.now) c.args.land.now.closed)
    && not (list_any (λ (fact : Fact). overlaps_any c.args.rect.now fact.rect) c.args.facts.now) in
    c.is_apart.ensures ∙ ap (λ (b : Bool). b && apart) (sym c.if-is_inside.true ∙ c.is_inside.ensures) ∙ free_is c.args.land.now c.args.facts.now
    c.args.rect.now
