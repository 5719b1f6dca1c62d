use Rattle.sim_tree.proofs.nodes.+node.Goals as goal
use Rattle.sim_tree.proofs.Ascends.{all_sound-push, ascends, ascends-more, ascends_skip, keys_in, kind_ok, name_of, named-more, sorted_ascends, sound_children}
use Rattle.sim_tree.proofs.Common.{[], ap, append-nil, is_child_key, is_node, List, map, members_view, named_in, named_of, node_in, node_of, rules}
use Rattle.sim_tree.proofs.Common.{string_bytes, subst, true, view, ℕ, ◌++◌, ◌∙◌, ◌≡◌}

pub read_children-loop-key-init : goal.read_children-loop-key-init
read_children-loop-key-init t c =
    let entries = c.args.members.now.entries in
    let sorted = sorted_ascends entries c.iter-key-items.ensures.ordered in
    let none : map named_of c.new-found.result.items ≡ [] = ap (map named_of) c.new-found.ensures.items in
    let same : c.into_iter-key-iterator.result ≡ entries = search rules in
    record { fit = search rules; early = search rules; order = rw (none, same) sorted; below = rw none; made = search rules }

pub read_children-loop-key-preserved-in-Continue-branch-2 : goal.read_children-loop-key-preserved-in-Continue-branch-2
read_children-loop-key-preserved-in-Continue-branch-2 t c =
    let l = c.loop-key in
    let here = subst (λ es. ascends (map name_of (map named_of l.found.items) ++ keys_in es) ≡ true) c.in-Some.ensures.steps l.invariant.order in
    let key = string_bytes c.in-Some.key.now in
    let d = view c.in-Some.value.now in
    let old = map named_of l.found.items in
    let new = map named_of c.push_child.new.children.items in
    let named : c.lent.result ≡ key = search rules in
    let child : is_child_key key ≡ true = search rules in
    let read = kind_ok (is_node d) (node_in d) (node_of c.in_ok-tree.tree) c.in_ok-tree.ensures.tree in
    let added = c.in_ok-push_child.ensures in
    let more = named-more old new c.lent.result key (node_of c.in_ok-tree.tree) d (members_view c.next.new.self) child added named read.1 in
    record {
      fit = search rules;
      early = search rules;
      order = ascends-more old new (c.lent.result, node_of c.in_ok-tree.tree) key (keys_in c.next.new.self) added named here;
      below = rw added (all_sound-push old (c.lent.result, node_of c.in_ok-tree.tree) l.invariant.below c.in_ok-tree.ensures.sound);
      made = l.invariant.made ∙ ap (λ es. old ++ named_in (members_view es)) c.in-Some.ensures.steps ∙ more;
    }

pub read_children-loop-key-preserved : goal.read_children-loop-key-preserved
read_children-loop-key-preserved t c =
    let l = c.loop-key in
    let here = subst (λ es. ascends (map name_of (map named_of l.found.items) ++ keys_in es) ≡ true) c.in-Some.ensures.steps l.invariant.order in
    record {
      fit = search rules;
      early = search rules;
      order = ascends_skip (map name_of (map named_of l.found.items)) (string_bytes c.in-Some.key.now) (keys_in c.next.new.self) here;
      below = l.invariant.below;
      made = search rules;
    }

pub read_children-returns-clause-sound : goal.read_children-returns-clause-sound
read_children-returns-clause-sound t c =
    let ps = map named_of c.loop-key.found.items in
    let none : keys_in c.loop-key.key-iterator ≡ [] = search rules in
    let order : ascends (map name_of ps ++ []) ≡ true = rw (← none) c.loop-key.invariant.order in
    sound_children ps (subst (λ (names : List (List ℕ)). ascends names ≡ true) (append-nil (map name_of ps)) order) c.loop-key.invariant.below
