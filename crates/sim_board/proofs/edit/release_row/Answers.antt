use Rattle.sim_board.proofs.{Common.set, Common.ap, Common.released, Common.◌∙◌, Setting.none_found, Setting.set_found}

pub returns : Rattle.sim_board.proofs.edit.release_row.Goals.returns
returns c =
    ap (set c.args.rows.now.items c.in-Some.place) c.release.ensures
    ∙ set_found c.args.rows.now.items c.as_slice.result.now c.args.id released c.as_slice.ensures.value c.in-Some.place c.index_mut.result.now c.requires
    c.in-Some.ensures.0 c.in-Some.ensures.1 c.index_mut.ensures.value

pub returns-in_default : Rattle.sim_board.proofs.edit.release_row.Goals.returns-in_default
returns-in_default c = none_found c.args.rows.now.items c.as_slice.result.now c.args.id released c.as_slice.ensures.value c.in_default.ensures
