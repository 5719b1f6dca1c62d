use Rattle.sim_path.proofs.Common.{◌≡◌, ℕ, length, min, take, ap, arith, take_min, ◌∙◌}

pub returns-clause-cells : Rattle.sim_path.proofs.trip.trip_of.Goals.returns-clause-cells
returns-clause-cells c =
    let cells = c.args.cells.now in
    let fewer : c.min.result ≡ min 64 (length cells) = omega (arith, c.min.ensures) in
    ap (λ (n : ℕ). take n cells) fewer ∙ take_min 64 cells
