-- A row further away than the reach has no cell. In another one the half goes to both sides, and no further than the ground.
use Rattle.sim_vision.proofs.Common.{◌≡◌, ℕ, ◌+◌, ◌-◌, ◌*◌, ◌<◌, ◌≤◌, min, ltb, leb, and_right, ap, arith, is_in_span, le-ltb, sym, ◌∙◌}
use Rattle.sim_vision.proofs.Discs.{far_cell, gap, near_row}

pub returns-then-away-self : Rattle.sim_vision.proofs.disc.Disc.span.Goals.returns-then-away-self
returns-then-away-self c =
    let far : c.args.self.now < gap c.args.middle.z c.args.z = omega (arith, c.abs_diff-away.ensures, c.if-away-self.true, c.self.view_is) in
    record {
      cells = λ x on. and_right (leb 0 x) (ltb x 0) (le-ltb x 0 (omega arith))
          ∙ sym (far_cell c.args.self.now c.args.middle (record { x = x; z = c.args.z }) far);
      ordered = omega arith;
      within = omega arith;
    }

pub returns : Rattle.sim_vision.proofs.disc.Disc.span.Goals.returns
returns c =
    let from : c.saturating_sub.result ≡ c.args.middle.x - c.half-half.result = omega (arith, c.saturating_sub.ensures) in
    let to : c.min.result ≡ min (c.args.middle.x + c.half-half.result + 1) c.args.width = omega (arith, c.min.ensures) in
    let away : c.abs_diff-away.result ≡ gap c.args.middle.z c.args.z = omega (arith, c.abs_diff-away.ensures) in
    let near : c.abs_diff-away.result ≤ c.args.self.now = omega (arith, c.if-away-self.false, c.self.view_is) in
    record {
      cells = λ x on. (λ i. is_in_span (record { from = from i; to = to i }) x)
          ∙ near_row c.args.self.now c.abs_diff-away.result c.half-half.result c.args.middle.x c.args.width x c.half-half.ensures.root near on
          ∙ ap (λ (n : ℕ). leb (gap c.args.middle.x x * gap c.args.middle.x x + n * n) (c.args.self.now * c.args.self.now)) away;
      ordered = omega (arith, from, to);
      within = omega (arith, to);
    }
