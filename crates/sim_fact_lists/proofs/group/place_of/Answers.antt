-- One that is above the last belongs behind it, and else the search answers.
use Rattle.sim_fact_lists.proofs.{Common.refl, Ids.belongs_last, Ids.searched_for}

pub returns-in-len1-up-2 : Rattle.sim_fact_lists.proofs.group.place_of.Goals.returns-in-len1-up-2
returns-in-len1-up-2 c = belongs_last c.args.ids.now c.args.id _ c.requires c.in-len1-up.len_at_least refl c.if-last-id.true

pub returns-in_default : Rattle.sim_fact_lists.proofs.group.place_of.Goals.returns-in_default
returns-in_default c = searched_for c.args.ids.now c.args.id c.binary_search.result c.requires c.binary_search.ensures.position
