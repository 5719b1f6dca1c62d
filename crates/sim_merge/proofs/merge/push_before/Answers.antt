use Rattle.sim_merge.proofs.merge.push_before.Goals as goal
use Rattle.sim_merge.proofs.ChildrenLemmas.{are_sound-drop, before-at, before-at-stop, behind-at, child_named-at, followed_by-assoc, past}
use Rattle.sim_merge.proofs.Common.{[], ap, arith, before, behind, Child, child, child_named, drop, drop_all, followed_by, IsPast, length, length-drop, List}
use Rattle.sim_merge.proofs.Common.{named_of, no_children, nodes_of, refl, subst, sym, take, take_all, ◌+◌, ◌-◌, ◌∙◌, ◌≡◌}

pub loop-i-preserved : goal.loop-i-preserved
loop-i-preserved c =
    let xs = c.args.children.now in
    let x = c.index-children-i.result in
    let i = c.loop-i.i in
    let name = c.args.name.now in
    let out = nodes_of c.loop-i.out.items in
    let rest = nodes_of (drop (i + 1) xs) in
    let here = sym c.precedes.ensures ∙ c.if-not-precedes.false in
    record {
      passed = ap (λ cs. followed_by cs (before name rest)) c.in_ok-push_copy.ensures
          ∙ followed_by-assoc out (child (named_of x).0 (named_of x).1 no_children) (before name rest)
          ∙ ap (followed_by out) (sym (before-at xs i x name c.loop-i-test.true c.index-children-i.is here))
          ∙ c.loop-i.invariant.passed;
      named = sym (child_named-at xs i x name c.loop-i-test.true c.index-children-i.is here) ∙ c.loop-i.invariant.named;
      behind = sym (behind-at xs i x name c.loop-i-test.true c.index-children-i.is here) ∙ c.loop-i.invariant.behind;
      sound = are_sound-drop xs i x c.loop-i-test.true c.index-children-i.is c.loop-i.invariant.sound;
    }

pub returns : goal.returns
returns c =
    let xs = c.args.children.now in
    let none : drop c.loop-i.i xs ≡ [] = drop_all c.loop-i.i xs c.loop-i-test.false in
    let rest = nodes_of (drop c.loop-i.i xs) in
    let gone : rest ≡ no_children = ap nodes_of none in
    past c.args.name.now (nodes_of c.args.out.now.items) (nodes_of c.loop-i.out.items) (nodes_of xs) no_children
    (ap (λ cs. followed_by (nodes_of c.loop-i.out.items) (before c.args.name.now cs)) (sym gone) ∙ c.loop-i.invariant.passed) refl
    (ap (child_named c.args.name.now) (sym gone) ∙ c.loop-i.invariant.named) (ap (behind c.args.name.now) (sym gone) ∙ c.loop-i.invariant.behind) refl

pub returns-then-not-precedes : goal.returns-then-not-precedes
returns-then-not-precedes c =
    let xs = c.args.children.now in
    let x = c.index-children-i.result in
    let i = c.loop-i.i in
    let name = c.args.name.now in
    let old = nodes_of c.args.out.now.items in
    let out = nodes_of c.loop-i.out.items in
    let all : take (length xs - i) (drop i xs) ≡ drop i xs = take_all (length xs - i) (drop i xs) (omega (arith, length-drop i xs)) in
    let stop = before-at-stop xs i x name c.loop-i-test.true c.index-children-i.is c.loop-i.invariant.sound (sym c.precedes.ensures ∙ c.if-not-precedes.true) in
    let P : List Child → Type 0 = λ ys. IsPast name old out (nodes_of xs) (nodes_of ys) in
    subst P (sym all) (past name old out (nodes_of xs) (nodes_of (drop i xs)) c.loop-i.invariant.passed stop c.loop-i.invariant.named c.loop-i.invariant.behind
    c.loop-i.invariant.sound)
