use Rattle.{sim_traits.proofs.Counted.Counted, sim_tree.specs.Tokens.is_word, std.{proofs.Common.{filter, List, map, ℕ}, specs.Borrow.Bor}}

abbrev pub invariant-loop-part : Rattle.sim_traits.proofs.units.units_in.Given.invariant-loop-part
invariant-loop-part l = Counted l.names.names (filter is_word (map (λ (part : Bor (List ℕ)). part.now) l.yielded)) l.numbers
