use Rattle.sim_merge.proofs.family.Family.+keep.Goals as goal
use Rattle.sim_merge.proofs.Common.{ap, arith, chain_root, get_or, IfBadOp, inherited, is_resolved, length, members, node_of, None, origins_of, refused}
use Rattle.sim_merge.proofs.KeepingLemmas.{chain_root-first, chain_root-parent, chain_root-refused, members-parent}
use Rattle.sim_merge.proofs.{ChildrenLemmas.IfBadOp-weaker, Common.roots_in, Common.rules, Common.slice_get, Common.suc, Common.sym, Common.there, Common.◌∙◌}
use Rattle.sim_merge.proofs.{Common.◌≡◌, FitLemmas.chain_root-resolved, FitLemmas.there-resolved, KeepingLemmas.IsKept-set, KeepingLemmas.KeepsAll-set}

pub keep-requires : goal.keep-requires
keep-requires t c =
    let parents = c.args.self.now.parents.now in
    let number = c.args.number in
    let parent = c.in-Some.parent in
    let shorter : length (members parents number) ≡ suc (length (members parents parent)) =
    ap length (members-parent parents number parent (c.args.self.now.forest.ended number c.requires.number) c.in-Some.is) in (
      omega (arith, shorter, c.decreases),
      (c.args.self.now.forest.within.within number parent c.in-Some.is, c.requires.kept),
    )

pub over-requires-clause-lower : goal.over-requires-clause-lower
over-requires-clause-lower t c = ap is_resolved c.bare.ensures

pub over-requires-in-Some-clause-lower : goal.over-requires-in-Some-clause-lower
over-requires-in-Some-clause-lower t c =
    let roots = roots_in (origins_of c.args.self.now.sources.now) in
    let chain = members c.args.self.now.parents.now c.in-Some.parent in
    let kept = ap (λ trees. get_or trees c.in-Some.parent None) (sym c.as_slice-in-Some.ensures.value) ∙ c.tree_at.ensures in
    there-resolved (chain_root roots chain) (node_of c.tree_at.result.now)
    (c.in_ok-keep-in-Some.ensures.kept.trees c.in-Some.parent c.tree_at.result.now kept) (chain_root-resolved roots chain c.args.self.now.layable)

-- ---- a template without a parent

pub returns-in_err-tree-in-None-clause-refused : goal.returns-in_err-tree-in-None-clause-refused
returns-in_err-tree-in-None-clause-refused t c =
    let parents = c.args.self.now.parents.now in
    let number = c.args.number in
    let roots = roots_in (origins_of c.args.self.now.sources.now) in
    let fault = c.in_err-tree-in-None.field-0.0 in
    let told : IfBadOp fault (chain_root roots (members parents number) ≡ refused) =
    IfBadOp-weaker fault _ _
    (λ e. chain_root-first parents roots number c.in-None.is ∙ ap (λ n. inherited (there n) (slice_get roots number)) (sym c.bare.ensures) ∙ e)
    c.in_err-tree-in-None.ensures in
    search rules

pub returns-in_ok-tree-in-None-clause-kept : goal.returns-in_ok-tree-in-None-clause-kept
returns-in_ok-tree-in-None-clause-kept t c =
    let parents = c.args.self.now.parents.now in
    let number = c.args.number in
    let roots = roots_in (origins_of c.args.self.now.sources.now) in
    IsKept-set parents roots c.args.kept.now.items number c.in_ok-tree-in-None.tree (omega (arith, c.requires.number, c.requires.kept.same)) c.requires.kept
    (chain_root-first parents roots number c.in-None.is ∙ ap (λ n. inherited (there n) (slice_get roots number)) (sym c.bare.ensures)
    ∙ c.in_ok-tree-in-None.ensures)

pub returns-in_ok-tree-in-None-clause-stays : goal.returns-in_ok-tree-in-None-clause-stays
returns-in_ok-tree-in-None-clause-stays t c =
    KeepsAll-set c.args.kept.now.items c.args.kept.now.items c.args.number c.in_ok-tree-in-None.tree
    (omega (arith, c.requires.number, c.requires.kept.same)) (record { stays = λ other has. has })

-- ---- a template with a parent

pub returns-in_err-keep-in-Some-clause-refused : goal.returns-in_err-keep-in-Some-clause-refused
returns-in_err-keep-in-Some-clause-refused t c =
    let parents = c.args.self.now.parents.now in
    let number = c.args.number in
    let parent = c.in-Some.parent in
    let roots = roots_in (origins_of c.args.self.now.sources.now) in
    let fault = c.in_err-keep-in-Some.field-0.0 in
    let told : IfBadOp fault (chain_root roots (members parents number) ≡ refused) =
    IfBadOp-weaker fault _ _ (chain_root-refused parents roots number parent (c.args.self.now.forest.ended number c.requires.number) c.in-Some.is)
    c.in_err-keep-in-Some.ensures.refused in
    search rules

pub returns-in_err-tree-in-Some-clause-refused : goal.returns-in_err-tree-in-Some-clause-refused
returns-in_err-tree-in-Some-clause-refused t c =
    let parents = c.args.self.now.parents.now in
    let number = c.args.number in
    let parent = c.in-Some.parent in
    let roots = roots_in (origins_of c.args.self.now.sources.now) in
    let fault = c.in_err-tree-in-Some.field-0.0 in
    let kept = ap (λ trees. get_or trees parent None) (sym c.as_slice-in-Some.ensures.value) ∙ c.tree_at.ensures in
    let told : IfBadOp fault (chain_root roots (members parents number) ≡ refused) =
    IfBadOp-weaker fault _ _
    (λ e. chain_root-parent parents roots number parent (node_of c.tree_at.result.now) (c.args.self.now.forest.ended number c.requires.number) c.in-Some.is
    (c.in_ok-keep-in-Some.ensures.kept.trees parent c.tree_at.result.now kept) ∙ e)
    c.in_err-tree-in-Some.ensures in
    search rules

pub returns-in_ok-tree-in-Some-clause-kept : goal.returns-in_ok-tree-in-Some-clause-kept
returns-in_ok-tree-in-Some-clause-kept t c =
    let parents = c.args.self.now.parents.now in
    let number = c.args.number in
    let parent = c.in-Some.parent in
    let roots = roots_in (origins_of c.args.self.now.sources.now) in
    let is = c.in_ok-keep-in-Some.ensures.kept in
    let kept = ap (λ trees. get_or trees parent None) (sym c.as_slice-in-Some.ensures.value) ∙ c.tree_at.ensures in
    IsKept-set parents roots c.keep.new.kept.items number c.in_ok-tree-in-Some.tree (omega (arith, c.requires.number, is.same)) is
    (chain_root-parent parents roots number parent (node_of c.tree_at.result.now) (c.args.self.now.forest.ended number c.requires.number) c.in-Some.is
    (is.trees parent c.tree_at.result.now kept) ∙ c.in_ok-tree-in-Some.ensures)

pub returns-in_ok-tree-in-Some-clause-stays : goal.returns-in_ok-tree-in-Some-clause-stays
returns-in_ok-tree-in-Some-clause-stays t c =
    KeepsAll-set c.args.kept.now.items c.keep.new.kept.items c.args.number c.in_ok-tree-in-Some.tree
    (omega (arith, c.requires.number, c.in_ok-keep-in-Some.ensures.kept.same)) c.in_ok-keep-in-Some.ensures.stays
