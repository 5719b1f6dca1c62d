use Rattle.sim_merge.proofs.Common.{ap, get_or, get_or_default, inherited, node_of, origins_of, roots_in, there}
use Rattle.sim_merge.proofs.KeepingLemmas.{IsTreeOf-same, is_layable-at, roots_in-at}

pub overlay-requires-clause-upper : Rattle.sim_merge.proofs.family.Family.over.Goals.overlay-requires-clause-upper
overlay-requires-clause-upper c =
    let sources = c.args.self.now.sources.now in
    let source = get_or sources c.args.number c.index-self-number.result in
    is_layable-at (roots_in (origins_of sources)) c.args.number (node_of source.tree) c.args.self.now.layable
    (roots_in-at sources c.args.number source c.requires.number (get_or_default sources c.args.number c.index-self-number.result source c.requires.number))

pub returns : Rattle.sim_merge.proofs.family.Family.over.Goals.returns
returns c =
    let sources = c.args.self.now.sources.now in
    let source = get_or sources c.args.number c.index-self-number.result in
    IsTreeOf-same c.overlay.result _ _
    (ap (inherited (there (node_of c.args.lower.now)))
    (roots_in-at sources c.args.number source c.requires.number (get_or_default sources c.args.number c.index-self-number.result source c.requires.number)))
    c.overlay.ensures.laid
