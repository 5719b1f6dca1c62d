-- The bytes up to the first line feed go into the line.
use Rattle.std.proofs.Common.{◌≡◌, ℕ, ◌-◌, ◌<◌, ◌≤◌, List, ◌++◌, length, get_or, take, drop, refl, ap, arith, subst, sym, ◌∙◌}
use Rattle.sim_talk.proofs.Reading.{poured_much, poured_open, poured_whole, slice_from}
use Rattle.sim_talk.proofs.ahead.Ahead.pour.Goals as goal

pub returns-then-count-most-clause-ok : goal.returns-then-count-most-clause-ok
returns-then-count-most-clause-ok c =
    let bytes = c.args.self.now.bytes.items in
    let at = c.args.self.now.at in
    let count = c.feed_in-count.result in
    let left : take (length c.deref.result.now - at) (drop at c.deref.result.now) ≡ drop at bytes =
    slice_from c.deref.result.now bytes at c.deref.ensures.value in
    let many : c.args.most - length c.args.line.now.items < count = omega (arith, c.if-count-most.true, c.len.ensures) in
    poured_much c.args.most at count bytes c.args.line.now.items (subst (λ (l : List ℕ). count ≤ length l) left c.feed_in-count.ensures.within)
    (λ k lt is. c.feed_in-count.ensures.before k lt (ap (λ (l : List ℕ). get_or l k 0) left ∙ is)) many

pub returns-then-ends-clause-ok : goal.returns-then-ends-clause-ok
returns-then-ends-clause-ok c =
    let bytes = c.args.self.now.bytes.items in
    let at = c.args.self.now.at in
    let line = c.args.line.now.items in
    let count = c.feed_in-count.result in
    let left : take (length c.deref.result.now - at) (drop at c.deref.result.now) ≡ drop at bytes =
    slice_from c.deref.result.now bytes at c.deref.ensures.value in
    let few : count ≤ c.args.most - length line = omega (arith, c.if-count-most.false, c.len.ensures) in
    let added : c.extend_from_slice.new.self.items ≡ line ++ take count (drop at bytes) =
    c.in_ok-extend_from_slice.ensures.items ∙ ap (λ (l : List ℕ). line ++ take count l) left in
    poured_whole c.args.most at count _ bytes line _ (subst (λ (l : List ℕ). count < length l) left c.if-ends.true)
    (λ k lt is. c.feed_in-count.ensures.before k lt (ap (λ (l : List ℕ). get_or l k 0) left ∙ is))
    (ap (λ (l : List ℕ). get_or l count 0) (sym left) ∙ c.feed_in-count.ensures.found c.if-ends.true) few c.requires added refl

pub returns-clause-ok : goal.returns-clause-ok
returns-clause-ok c =
    let bytes = c.args.self.now.bytes.items in
    let at = c.args.self.now.at in
    let line = c.args.line.now.items in
    let count = c.feed_in-count.result in
    let left : take (length c.deref.result.now - at) (drop at c.deref.result.now) ≡ drop at bytes =
    slice_from c.deref.result.now bytes at c.deref.ensures.value in
    let few : count ≤ c.args.most - length line = omega (arith, c.if-count-most.false, c.len.ensures) in
    let within : count ≤ length (drop at bytes) = subst (λ (l : List ℕ). count ≤ length l) left c.feed_in-count.ensures.within in
    let beyond : length (drop at bytes) ≤ count = subst (λ (l : List ℕ). length l ≤ count) left c.if-ends.false in
    let all : count ≡ length (drop at bytes) = omega arith in
    let added : c.extend_from_slice.new.self.items ≡ line ++ take count (drop at bytes) =
    c.in_ok-extend_from_slice.ensures.items ∙ ap (λ (l : List ℕ). line ++ take count l) left in
    poured_open c.args.most at count _ bytes line _ all (λ k lt is. c.feed_in-count.ensures.before k lt (ap (λ (l : List ℕ). get_or l k 0) left ∙ is)) few
    c.requires added refl
