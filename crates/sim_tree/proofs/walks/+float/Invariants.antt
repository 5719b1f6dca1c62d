use Rattle.sim_tree.proofs.Common.{◌≡◌, drop, items_float, items_view, members_float, members_view}

abbrev pub invariant-items_float-loop-item : Rattle.sim_tree.proofs.walks.+float.Given.invariant-items_float-loop-item
invariant-items_float-loop-item l = items_float (items_view (drop l.item-index l.item-items)) ≡ items_float (items_view l.item-items)

abbrev pub invariant-members_float-loop-member : Rattle.sim_tree.proofs.walks.+float.Given.invariant-members_float-loop-member
invariant-members_float-loop-member l = members_float (members_view l.fn.members.entries) ≡ members_float (members_view l.member-iterator)
