-- Of an entity of which both lists begin with the same row all parts are the same.
use Rattle.sim_diff.proofs.{Common.arith, LeastPlace.same-no_first, OneSpelling.same_first-bits}

pub returns-then-have_same_first : Rattle.sim_diff.proofs.merge.next_difference.Goals.returns-then-have_same_first
returns-then-have_same_first c =
    let left = c.args.left.now in
    let right = c.args.right.now in
    let same = c.have_same_first.ensures.0 c.if-have_same_first.true in
    same-no_first left right c.args.entity (same_first-bits left right c.args.lefts.now c.args.rights.now c.args.entity (omega (arith, c.if-entity-gt1.true))
    c.requires.lefts c.requires.rights c.requires.next same)
