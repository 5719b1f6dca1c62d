use Rattle.std.{proofs.Common.◌≡◌, specs.List.list_any}
use Rattle.{sim_json.specs.Keys.texts_of, sim_traits.specs.Values.text_at, sim_tree.specs.Trees.node_of, std.proofs.Common.is_none, std.proofs.Common.length}

abbrev pub invariant-loop-rest : Rattle.sim_traits.proofs.fields.lacks_needed.Given.invariant-loop-rest
invariant-loop-rest l = list_any (λ name. is_none (text_at name (node_of l.part))) (texts_of l.rest) ≡ list_any
    (λ name. is_none (text_at name (node_of l.part))) (texts_of l.names)

abbrev pub decreases-loop-rest : Rattle.sim_traits.proofs.fields.lacks_needed.Given.decreases-loop-rest
decreases-loop-rest l = length l.rest
