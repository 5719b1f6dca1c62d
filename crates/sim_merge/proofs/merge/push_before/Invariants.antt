use Rattle.sim_merge.proofs.Common.{◌≡◌, true, drop, are_sound, before, behind, child_named, followed_by, nodes_of}

abbrev pub invariant-loop-i : Rattle.sim_merge.proofs.merge.push_before.Given.invariant-loop-i
invariant-loop-i l = record {
  passed : followed_by (nodes_of l.out.items) (before l.name (nodes_of (drop l.i l.children))) ≡ followed_by (nodes_of l.initial.out.items)
      (before l.name (nodes_of l.children));
  named : child_named l.name (nodes_of (drop l.i l.children)) ≡ child_named l.name (nodes_of l.children);
  behind : behind l.name (nodes_of (drop l.i l.children)) ≡ behind l.name (nodes_of l.children);
  sound : are_sound (nodes_of (drop l.i l.children)) ≡ true;
}
