use Rattle.sim_merge.proofs.ChildrenLemmas.{behind-first, behind-other}
use Rattle.sim_merge.proofs.Common.{ap, arith, drop, length, length-drop, nodes_of, sym, take, take_all, ◌-◌, ◌∙◌, ◌≡◌}

pub returns-then-is_named-clause-rest : Rattle.sim_merge.proofs.merge.behind.Goals.returns-then-is_named-clause-rest
returns-then-is_named-clause-rest c =
    let xs = c.args.children.now in
    let all : take (length xs - 1) (drop 1 xs) ≡ drop 1 xs = take_all (length xs - 1) (drop 1 xs) (omega (arith, length-drop 1 xs)) in
    ap nodes_of all ∙ sym (behind-first xs c.child-item.result c.args.name.now c.in-len1-up.len_at_least c.child-item.is c.requires.sound
    (sym c.is_named.ensures ∙ c.if-is_named.true))

pub returns-else-is_named-clause-rest : Rattle.sim_merge.proofs.merge.behind.Goals.returns-else-is_named-clause-rest
returns-else-is_named-clause-rest c =
    sym (behind-other c.args.children.now c.child-item.result c.args.name.now c.in-len1-up.len_at_least c.child-item.is c.requires.sound c.requires.none_before
    (sym c.is_named.ensures ∙ c.if-is_named.false))
