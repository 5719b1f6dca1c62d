-- The labels of all other cells are still right.
use Rattle.sim_search.proofs.Common.{Cell, field_of_grid, is_open_at, is_some, List, subst, sym, true≢false}
use Rattle.sim_search.{proofs.Regions.closed-labels, specs.Floods.AreOpen, specs.Floods.AreOthersKept, specs.Floods.label_in}

pub are_others_kept-requires : Rattle.sim_search.proofs.mend.mend_closed.Goals.are_others_kept-requires
are_others_kept-requires c = subst (AreOpen (field_of_grid c.args.grid.now)) (sym c.as_slice.ensures.value) c.in-Ok.ensures.are_open

pub returns : Rattle.sim_search.proofs.mend.mend_closed.Goals.returns
returns c =
    let size = c.args.grid.now.size in
    let label = label_in c.args.labels.now in
    let kept = subst (λ (xs : List Cell). AreOthersKept (field_of_grid c.args.grid.now) label c.args.cells.now xs) c.as_slice.ensures.value
    (c.are_others_kept.ensures c.if-not-are_others_kept.false) in
    record {
      mended = λ _.
          closed-labels size (λ (e : Cell). is_some (label e)) (is_open_at c.args.grid.now) c.args.cells.now c.requires.closed c.in-Ok.rim.items c.in-Ok.ensures
          kept.joined label (label_in c.forget.new.self) c.requires.labels kept.first c.forget.ensures.here c.forget.ensures.elsewhere;
      same = λ e. absurd (true≢false e);
    }
