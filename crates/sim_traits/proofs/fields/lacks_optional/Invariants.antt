use Rattle.std.{proofs.Common.length, proofs.Common.◌≡◌, specs.List.list_any}
use Rattle.{sim_json.specs.Keys.texts_of, sim_traits.specs.Values.text_or, sim_tree.specs.Trees.node_of, std.proofs.Common.[], std.proofs.Common.is_none}

abbrev pub invariant-loop-rest : Rattle.sim_traits.proofs.fields.lacks_optional.Given.invariant-loop-rest
invariant-loop-rest l = list_any (λ name. is_none (text_or [] name (node_of l.part))) (texts_of l.rest) ≡ list_any
    (λ name. is_none (text_or [] name (node_of l.part))) (texts_of l.names)

abbrev pub decreases-loop-rest : Rattle.sim_traits.proofs.fields.lacks_optional.Given.decreases-loop-rest
decreases-loop-rest l = length l.rest
