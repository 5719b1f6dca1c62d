-- Two points are the same where both numbers are, and two lists where their points are.
use Rattle.sim_diff.proofs.Common.{Decides-int_eq, Point, rules, slice_eq-Decides}

pub returns : Rattle.sim_diff.proofs.same.are_same_points.Goals.returns
returns c = slice_eq-Decides (λ (a b : Point). search (rules, Decides-int_eq a.x b.x, Decides-int_eq a.z b.z)) c.args.left.now c.args.right.now c.eq.result
    c.eq.ensures
