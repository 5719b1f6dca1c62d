use Rattle.sim_tree.proofs.Common.{◌≡◌, mark_in, members_view}

abbrev pub invariant-loop-key : Rattle.sim_tree.proofs.nodes.mark_in.Given.invariant-loop-key
invariant-loop-key l = mark_in (members_view l.fn.members.entries) ≡ mark_in (members_view l.key-iterator)
