use Rattle.sim_tree.proofs.Common.{ap, arith, child_named, drop, drop_more, length, List, node_of, None, rules, Some, sym, under, value_at, ℕ, ◌-◌, ◌∙◌, ◌∷◌}
use Rattle.{sim_tree.proofs.{Common.◌≡◌, Steps.{at_child_of, at_no_child}}, std.proofs.{Common.take, lemmas.List.{length-drop, take_all}}}

pub returns-in_err-child-in-len1-up : Rattle.sim_tree.proofs.tree.Tree.+at.Goals.returns-in_err-child-in-len1-up
returns-in_err-child-in-len1-up t c =
    let path = c.args.path.now in
    let n = node_of c.args.self.now in
    let name = c.name-item.result in
    let next : path ≡ name ∷ drop 1 path = drop_more path 0 name c.in-len1-up.len_at_least ∙
    ap (λ (x : List ℕ). x ∷ drop 1 path) (sym c.name-item.is) in
    let lost : None ≡ child_named name (under n) = search rules in
    let gone : value_at n path ≡ None = ap (value_at n) next ∙ at_no_child n name (drop 1 path) lost in
    rw gone (search rules)

pub returns-in_ok-child-in-len1-up : Rattle.sim_tree.proofs.tree.Tree.+at.Goals.returns-in_ok-child-in-len1-up
returns-in_ok-child-in-len1-up t c =
    let path = c.args.path.now in
    let n = node_of c.args.self.now in
    let m = node_of c.in_ok-child-in-len1-up.field-0.now in
    let name = c.name-item.result in
    let next : path ≡ name ∷ drop 1 path = drop_more path 0 name c.in-len1-up.len_at_least ∙
    ap (λ (x : List ℕ). x ∷ drop 1 path) (sym c.name-item.is) in
    let found : Some m ≡ child_named name (under n) = search rules in
    let all : take (length path - 1) (drop 1 path) ≡ drop 1 path = take_all (length path - 1) (drop 1 path) (omega (arith, length-drop 1 path)) in
    c.at.ensures ∙ ap (value_at m) all ∙ sym (at_child_of n m name (drop 1 path) found) ∙ ap (value_at n) (sym next)
