-- With at most nine digits there is room for each.
use Rattle.{sim_top.proofs.Common.◌^◌, sim_top.proofs.Common.◌≤◌, sim_top.proofs.Common.arith, std.proofs.Math.Nat.pow-le-pow_right}

pub overflow_mul-number : Rattle.sim_top.proofs.words.number_of.Goals.overflow_mul-number
overflow_mul-number c =
    let few : 10 ^ c.loop-digit.digit-index ≤ 10 ^ 8 = pow-le-pow_right {n = 10} (omega arith) {i = c.loop-digit.digit-index} {j = 8}
    (omega (arith, c.requires, c.loop-digit-test.true)) in
    omega (arith, c.loop-digit.invariant.room, few)

pub overflow_add-number : Rattle.sim_top.proofs.words.number_of.Goals.overflow_add-number
overflow_add-number c =
    let few : 10 ^ c.loop-digit.digit-index ≤ 10 ^ 8 = pow-le-pow_right {n = 10} (omega arith) {i = c.loop-digit.digit-index} {j = 8}
    (omega (arith, c.requires, c.loop-digit-test.true)) in
    omega (arith, c.loop-digit.invariant.room, few, c.from.ensures)
