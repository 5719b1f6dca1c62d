-- Those are the first of all that the section has.
use Rattle.sim_codec.proofs.{Common.ap, Common.arith, Common.take, Common.◌∙◌, TakenRows.chunks_among}

pub returns : Rattle.sim_codec.proofs.entities.entities_in.Goals.returns
returns c = ap (take c.args.count) c.as_chunks.ensures.front ∙ chunks_among 6 c.args.count _ c.args.section.now (omega (arith, c.requires))
