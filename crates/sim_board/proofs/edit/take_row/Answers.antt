-- The row at the place that was found is the only one with its id.
use Rattle.sim_board.proofs.{Common.◌∙◌, Letting.none_taken, Letting.taken}

pub returns-in-Some : Rattle.sim_board.proofs.edit.take_row.Goals.returns-in-Some
returns-in-Some c = c.remove.ensures.items ∙ taken c.args.rows.now.items c.as_slice.result.now c.args.id c.as_slice.ensures.value c.requires c.in-Some.place
    c.remove.result c.in-Some.ensures.0 c.in-Some.ensures.1

pub returns-in_default : Rattle.sim_board.proofs.edit.take_row.Goals.returns-in_default
returns-in_default c = none_taken c.args.rows.now.items c.as_slice.result.now c.args.id c.as_slice.ensures.value c.requires c.in_default.ensures
