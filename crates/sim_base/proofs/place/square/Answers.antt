use Rattle.std.proofs.{Common.◌≤◌, Common.arith, lemmas.Int.ints, lemmas.Nat.mul-le}

-- on the largest ground two raws differ by less than 256 metres
pub overflow_add-result : Rattle.sim_base.proofs.place.square.Goals.overflow_add-result
overflow_add-result c =
    let x : c.gap-x.result ≤ 16777215 = omega (arith, ints) in
    let z : c.gap-z.result ≤ 16777215 = omega (arith, ints) in
    omega (arith, mul-le c.gap-x.result c.gap-x.result 16777215 16777215 x x, mul-le c.gap-z.result c.gap-z.result 16777215 16777215 z z)
