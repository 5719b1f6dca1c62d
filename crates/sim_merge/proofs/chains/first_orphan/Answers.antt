use Rattle.sim_merge.proofs.chains.first_orphan.Goals as goal
use Rattle.sim_merge.proofs.Common.{ap, arith, bare, below_more, false, get_or, get_or-map, is_orphan, length, length-map, map, None, Origin, origin_of}
use Rattle.sim_merge.proofs.{Common.{origins_of, string_bytes, sym, [], ◌<◌, ◌∙◌, ◌≡◌}, KeepingLemmas.{position-at, position-none}}

pub returns-then-is_orphan : goal.returns-then-is_orphan
returns-then-is_orphan c =
    let names = map string_bytes c.args.names.now.keys in
    let sources = c.args.sources.now in
    let number = c.loop-number.number in
    let source = c.index-sources-number.result in
    let within : number < length (origins_of sources) = omega (arith, length-map sources origin_of, c.loop-number-test.true) in
    let here = get_or-map origin_of sources number source (origin_of source) c.loop-number-test.true ∙ ap origin_of (sym c.index-sources-number.is) in
    sym (position-at (is_orphan names) (origins_of sources) number (origin_of source) within
    (ap (is_orphan names) here ∙ sym c.is_orphan.ensures ∙ c.if-is_orphan.true) (λ k h. c.loop-number.invariant k (origin_of source) h))

pub loop-number-preserved : goal.loop-number-preserved
loop-number-preserved c =
    let names = map string_bytes c.args.names.now.keys in
    let sources = c.args.sources.now in
    let number = c.loop-number.number in
    let source = c.index-sources-number.result in
    λ k d. below_more (λ j. is_orphan names (get_or (origins_of sources) j d) ≡ false) number (λ j h. c.loop-number.invariant j d h)
    (ap (is_orphan names) (get_or-map origin_of sources number source d c.loop-number-test.true ∙ ap origin_of (sym c.index-sources-number.is)) ∙
    sym c.is_orphan.ensures ∙ c.if-is_orphan.false) k

pub returns : goal.returns
returns c =
    let names = map string_bytes c.args.names.now.keys in
    let sources = c.args.sources.now in
    let nothing : Origin = record { name = []; parent = None; root = bare } in
    sym (position-none (is_orphan names) (origins_of sources) nothing
    (λ k h. c.loop-number.invariant k nothing (omega (arith, length-map sources origin_of, c.loop-number-test.false))))
