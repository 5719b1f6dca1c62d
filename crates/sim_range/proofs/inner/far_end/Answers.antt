-- The end that is further away is as far as any number between the two.
use Rattle.sim_range.proofs.Common.{arith, ints}

pub returns-then-raw-first-clause-far : Rattle.sim_range.proofs.inner.far_end.Goals.returns-then-raw-first-clause-far
returns-then-raw-first-clause-far c other low row =
    let (west, east) = c.requires.from in
    omega (arith, ints, west, east, c.raw.ensures, c.raw-2.ensures, c.if-raw-first.true, c.from_raw.ensures, low, row)

pub returns-else-raw-first-clause-far : Rattle.sim_range.proofs.inner.far_end.Goals.returns-else-raw-first-clause-far
returns-else-raw-first-clause-far c other low row =
    let (west, east) = c.requires.from in
    omega (arith, ints, west, east, c.raw.ensures, c.raw-2.ensures, c.if-raw-first.false, c.from_raw-else-raw-first.ensures, low, row)
