use Rattle.sim_tree.proofs.Ascends.{all_sound, ascends, keys_in, name_of}
use Rattle.sim_tree.proofs.Common.{◌≡◌, true, false, ◌++◌, map, are_root_members, begin_root, members_view, named_in, named_of}

abbrev pub invariant-loop-key : Rattle.sim_tree.proofs.source.root_children.Given.invariant-loop-key
invariant-loop-key l = record {
  fit : are_root_members (members_view l.fn.members.entries) ≡ are_root_members (members_view l.key-iterator);
  early : begin_root (members_view l.fn.members.entries) ≡ false → begin_root (members_view l.key-iterator) ≡ false;
  order : ascends (map name_of (map named_of l.found.items) ++ keys_in l.key-iterator) ≡ true;
  below : all_sound (map named_of l.found.items) ≡ true;
  made : named_in (members_view l.fn.members.entries) ≡ map named_of l.found.items ++ named_in (members_view l.key-iterator);
}
