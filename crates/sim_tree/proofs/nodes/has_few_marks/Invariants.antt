use Rattle.sim_tree.proofs.Common.{◌≡◌, ◌+◌, if◌then◌else◌, marks_in, members_view}

abbrev pub invariant-loop-key : Rattle.sim_tree.proofs.nodes.has_few_marks.Given.invariant-loop-key
invariant-loop-key l = marks_in (members_view l.fn.members.entries) ≡ marks_in (members_view l.key-iterator) + (if l.seen then 1 else 0)
