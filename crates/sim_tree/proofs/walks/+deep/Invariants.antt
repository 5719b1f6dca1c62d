use Rattle.sim_tree.proofs.Common.{◌≡◌, drop, nat_lt, items_height, items_view, members_height, members_view}

abbrev pub invariant-items_beyond-loop-item : Rattle.sim_tree.proofs.walks.+deep.Given.invariant-items_beyond-loop-item
invariant-items_beyond-loop-item l = nat_lt l.levels (items_height (items_view (drop l.item-index l.item-items))) ≡ nat_lt l.levels
    (items_height (items_view l.item-items))

abbrev pub invariant-members_beyond-loop-member : Rattle.sim_tree.proofs.walks.+deep.Given.invariant-members_beyond-loop-member
invariant-members_beyond-loop-member l = nat_lt l.levels (members_height (members_view l.fn.members.entries)) ≡ nat_lt l.levels
    (members_height (members_view l.member-iterator))
