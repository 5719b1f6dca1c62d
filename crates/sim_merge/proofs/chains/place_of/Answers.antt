use Rattle.sim_merge.proofs.{Common.◌∙◌, TextLemmas.position-texts_of}

pub returns : Rattle.sim_merge.proofs.chains.place_of.Goals.returns
returns c = c.get_index_of.ensures.index ∙ position-texts_of c.args.name.now c.args.names.now.keys
