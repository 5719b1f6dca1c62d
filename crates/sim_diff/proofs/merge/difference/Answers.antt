-- The first part that differs of an entity before which all is the same is the least place.
use Rattle.sim_diff.proofs.merge.difference.Goals as goal
use Rattle.sim_diff.proofs.OneSpelling.{first_is_least, rising, rising_behind, rows_of_all, rows_of_behind, same_at_first, same_at_last, same_behind}
use Rattle.sim_diff.proofs.{Common.arith, Common.sym, Common.◌∙◌, LeastPlace.first-is_first, LeastPlace.least-difference_of, LeastPlace.no_first-same}
use Rattle.sim_diff.proofs.{LeastPlace.same-difference_of, OneSpelling.same_below, OneSpelling.same_more}

pub returns-in-Some-clause-least : goal.returns-in-Some-clause-least
returns-in-Some-clause-least c =
    let left = c.args.left.now in
    let right = c.args.right.now in
    first_is_least left right c.first.entity c.in-Some.place (first-is_first left right c.first.entity c.in-Some.place (c.in-Some.ensures)) c.first.invariant

pub returns-in-Some-clause-place : goal.returns-in-Some-clause-place
returns-in-Some-clause-place c = least-difference_of c.args.left.now c.args.right.now c.in-Some.place (returns-in-Some-clause-least c)

pub first-preserved : goal.first-preserved
first-preserved c =
    let left = c.args.left.now in
    let right = c.args.right.now in
    same_more left right c.first.entity c.first.invariant (no_first-same left right c.first.entity (c.in_default.ensures))

pub rows-init : goal.rows-init
rows-init c =
    let left = c.args.left.now in
    let right = c.args.right.now in
    rw (c.as_slice-lefts.ensures, c.as_slice-rights.ensures) (record {
      left_rising = rising left.rows c.requires.left_ascending;
      right_rising = rising right.rows c.requires.right_ascending;
      left_rows = rows_of_all left;
      right_rows = rows_of_all right;
      elsewhere = same_at_first left right (λ id below. c.first.invariant id (omega arith));
    })

pub returns-in-Some-next_difference-clause-least : goal.returns-in-Some-next_difference-clause-least
returns-in-Some-next_difference-clause-least c =
    let left = c.args.left.now in
    let right = c.args.right.now in
    let entity = c.in-Some-next_entity.entity in
    let place = c.in-Some-next_difference.place in
    let next = sym c.in-Some-next_entity.ensures in
    first_is_least left right entity place (first-is_first left right entity place (c.in-Some-next_difference.ensures))
    (same_below left right c.rows.lefts.now c.rows.rights.now entity next c.rows.invariant.left_rising c.rows.invariant.right_rising c.rows.invariant.elsewhere)

pub returns-in-Some-next_difference-clause-place : goal.returns-in-Some-next_difference-clause-place
returns-in-Some-next_difference-clause-place c = least-difference_of c.args.left.now c.args.right.now c.in-Some-next_difference.place
    (returns-in-Some-next_difference-clause-least c)

pub rows-preserved : goal.rows-preserved
rows-preserved c =
    let left = c.args.left.now in
    let right = c.args.right.now in
    let entity = c.in-Some-next_entity.entity in
    let before = c.rows.invariant in
    rw (c.behind-lefts.ensures, c.behind-rights.ensures) (record {
      left_rising = rising_behind entity c.rows.lefts.now before.left_rising;
      right_rising = rising_behind entity c.rows.rights.now before.right_rising;
      left_rows = rows_of_behind left entity c.rows.lefts.now before.left_rising before.left_rows;
      right_rows = rows_of_behind right entity c.rows.rights.now before.right_rising before.right_rows;
      elsewhere = same_behind left right c.rows.lefts.now c.rows.rights.now entity before.elsewhere
          (no_first-same left right entity (c.in_default-next_difference.ensures));
    })

pub returns-clause-place : goal.returns-clause-place
returns-clause-place c =
    let left = c.args.left.now in
    let right = c.args.right.now in
    same-difference_of left right (same_at_last left right c.rows.lefts.now c.rows.rights.now (sym c.next_entity.ensures ∙ c.in_default-next_entity.is)
    c.rows.invariant.elsewhere)
