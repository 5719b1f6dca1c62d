use Rattle.sim_search.proofs.{Common.{ap, Err, field_of_grid, IfOk-from_err, Ok, OnOk, place_of, Result, Size, ◌∙◌}, Floods.{seed-done, seed-floods}}
use Rattle.sim_search.proofs.labels.flood_from.Goals as goal

both_ok : {T E : Type 0} {P Q R : Type 0} (r : Result T E) → (P → Q → R) → OnOk r P → OnOk r Q → OnOk r R
both_ok (Ok x) f p q = f p q
both_ok (Err e) f p q = tt

pub fill-requires : goal.fill-requires
fill-requires c =
    let size = c.args.grid.now.size in
    let is = c.place-label.ensures.place ∙ ap (λ (s : Size). place_of s c.args.cell) c.requires.flooded.size_is in
    seed-floods (field_of_grid c.args.grid.now) c.args.flood.now c.mark.new.flood c.args.cell c.place-label.result is c.requires.flooded c.requires.cell_on
    c.in_ok-mark.ensures

pub returns : goal.returns
returns c =
    let field = field_of_grid c.args.grid.now in
    both_ok c.fill.result (λ floods fills. seed-done field c.args.flood.now c.mark.new.flood c.fill.new.flood c.args.cell c.place-label.result
    c.requires.flooded c.requires.cell_on c.in_ok-mark.ensures floods fills) c.fill.ensures.floods c.fill.ensures.fills

pub returns-in_err-mark : goal.returns-in_err-mark
returns-in_err-mark c = IfOk-from_err _ _ c.from_residual.ensures.0
