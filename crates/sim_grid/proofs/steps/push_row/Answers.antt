use Rattle.{sim_grid.{proofs.Beside.first-more, specs.Grids.AreFirstSteps}, std.proofs.Common.{arith, List, subst, sym, ℕ, ◌*◌, ◌+◌}}

pub loop-x-preserved : Rattle.sim_grid.proofs.steps.push_row.Goals.loop-x-preserved
loop-x-preserved c =
    let g = c.args.cells.now in
    let x = c.loop-x.x in
    let e = c.in_ok-push.ensures in
    subst (λ (xs : List ℕ). AreFirstSteps g (c.args.z * g.size.width + (x + 1)) xs) (sym e.items)
    (first-more g x c.args.z c.steps_from.result c.loop-x.steps.items (omega (arith, c.loop-x-test.true, c.width-x-end.ensures.width)) c.loop-x.invariant
    c.steps_from.ensures)
