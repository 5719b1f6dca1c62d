use Rattle.sim_traits.proofs.units.units_in.Goals as goal
use Rattle.sim_traits.{proofs.Counted.{counted_part, numbers_of_counted, numbers_within, refused_part}, specs.Values.{is_admitted, numbers_in}}
use Rattle.{sim_tree.specs.Tokens.is_word, std.proofs.Common.{ap, false, filter, length, List, lit<, map, Ok, sym, true, ℕ, [], ◌∙◌, ◌∷◌, ◌≡◌}}
use Rattle.std.proofs.lemmas.Iterator.{Consumers.{YieldsList-at, YieldsList-end, YieldsList-so_far, YieldsList-turn}, Splits.YieldsList-from_str_split}
use Rattle.std.{proofs.lemmas.List.map-append, specs.Borrow.Bor}

-- the part is refused, so the whole text is
pub returns-then-not-branch-clause-value : goal.returns-then-not-branch-clause-value
returns-then-not-branch-clause-value c =
    let split = c.split-part-items.ensures in
    let parts = YieldsList-at c.into_iter-part-iterator.ensures.into_iter_gives
    (YieldsList-from_str_split 32 c.args.text.now (lit< tt) split.text split.has_more split.pattern) in
    let so_far = YieldsList-so_far parts c.loop-part.yielded _ c.loop-part.yielded_by in
    let turn = YieldsList-turn parts c.loop-part.yielded _ c.loop-part.yielded_by _ _ c.in-Some.part c.in-Some.is c.next.ensures.steps in
    let out : is_admitted c.args.names.now.names (length c.loop-part.numbers) c.in-Some.part.now ≡ false = sym c.in_ok-admit.ensures.admitted ∙
    c.if-not-branch.true in
    sym
    (refused_part c.args.names.now.names _ c.loop-part.numbers c.in-Some.part.now (length c.loop-part.yielded) (rw so_far at c.loop-part.invariant) turn.0
    turn.1 out)

-- one part more is counted
pub loop-part-preserved : goal.loop-part-preserved
loop-part-preserved c =
    let admitted : is_admitted c.args.names.now.names (length c.loop-part.numbers) c.in-Some.part.now ≡ true = sym c.in_ok-admit.ensures.admitted ∙
    c.if-not-branch.false in
    let now : Bor (List ℕ) → List ℕ = λ part. part.now in
    rw (map-append now c.loop-part.yielded (c.in-Some.part ∷ []), c.in_ok-admit.ensures.numbers (ap Ok c.if-not-branch.false))
    (counted_part c.args.names.now.names (map now c.loop-part.yielded) c.loop-part.numbers c.in-Some.part.now c.loop-part.invariant admitted)

-- all parts are counted
pub returns-clause-value : goal.returns-clause-value
returns-clause-value c =
    let split = c.split-part-items.ensures in
    let parts = YieldsList-at c.into_iter-part-iterator.ensures.into_iter_gives
    (YieldsList-from_str_split 32 c.args.text.now (lit< tt) split.text split.has_more split.pattern) in
    let all = YieldsList-end parts c.loop-part.yielded _ c.loop-part.yielded_by _ _ c.in-None.is c.next.ensures.steps in
    sym (ap (λ (texts : List (List ℕ)). numbers_in c.args.names.now.names (filter is_word texts)) (sym all.0) ∙ numbers_of_counted _ _ c.loop-part.numbers
    c.loop-part.invariant)

pub returns-clause-within : goal.returns-clause-within
returns-clause-within c = numbers_within _ _ c.loop-part.numbers c.loop-part.invariant
