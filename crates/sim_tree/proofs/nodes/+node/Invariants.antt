use Rattle.sim_tree.proofs.Ascends.{all_sound, ascends, keys_in, name_of}
use Rattle.sim_tree.proofs.Common.{◌≡◌, true, false, ◌++◌, map, are_members, begin_well, members_view, named_in, named_of}

abbrev pub invariant-read_children-loop-key : Rattle.sim_tree.proofs.nodes.+node.Given.invariant-read_children-loop-key
invariant-read_children-loop-key l = record {
  fit : are_members (members_view l.fn.members.entries) ≡ are_members (members_view l.key-iterator);
  early : begin_well (members_view l.fn.members.entries) ≡ false → begin_well (members_view l.key-iterator) ≡ false;
  order : ascends (map name_of (map named_of l.found.items) ++ keys_in l.key-iterator) ≡ true;
  below : all_sound (map named_of l.found.items) ≡ true;
  made : named_in (members_view l.fn.members.entries) ≡ map named_of l.found.items ++ named_in (members_view l.key-iterator);
}
