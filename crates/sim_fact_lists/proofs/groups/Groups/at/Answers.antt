-- The ids of the group that stands there, if one does.
use Rattle.sim_fact_lists.proofs.{Common.ap, Common.Group, Common.queued, Common.◌∙◌, Keyed.listed_there, Keyed.none_listed}

pub returns-in-Ok : Rattle.sim_fact_lists.proofs.groups.Groups.at.Goals.returns-in-Ok
returns-in-Ok c =
    let s = c.args.self.now in
    c.as_slice.ensures ∙ ap (λ (g : Group). queued g.ids) c.index.ensures ∙ listed_there s.groups.items c.args.key c.in-Ok.at c.index.result.now s.ascend
    c.in-Ok.ensures

pub returns-in-Err : Rattle.sim_fact_lists.proofs.groups.Groups.at.Goals.returns-in-Err
returns-in-Err c = none_listed c.args.self.now.groups.items c.args.key c.in-Err.field-0 c.in-Err.ensures
