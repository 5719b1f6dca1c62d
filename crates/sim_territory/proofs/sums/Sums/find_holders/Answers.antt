-- One row more has its holders.
use Rattle.sim_territory.proofs.{Common.◌≡◌, Common.ℕ, Common.AreFound, Common.arith, Common.subst, Finding.found_none, Finding.found_row, Finding.no_row}
use Rattle.sim_territory.proofs.sums.Sums.find_holders.Goals as goal

pub loop-z-init : goal.loop-z-init
loop-z-init c = record {
  full = c.requires.full;
  found = found_none c.args.self.now c.args.columns (c.args.rows.0, c.args.rows.0) c.args.holders.now.items (no_row c.args.columns c.args.rows.0);
}

pub find_row-requires : goal.find_row-requires
find_row-requires c = record {
  full = c.loop-z.invariant.full;
  west = c.requires.west;
  east = c.requires.east;
  south = omega arith;
  north = let north = c.requires.north in let below = c.loop-z-test.true in omega arith;
}

pub loop-z-preserved : goal.loop-z-preserved
loop-z-preserved c = record {
  full = omega (arith, c.loop-z.invariant.full, c.find_row.ensures.full, c.loop-z.holders.ok.0, c.find_row.new.holders.ok.0);
  found = found_row c.args.self.now c.args.columns c.args.rows.0 c.loop-z.z c.args.holders.now.items c.loop-z.holders.items c.find_row.new.holders.items
      c.loop-z.invariant.found c.find_row.ensures;
}

pub returns : goal.returns
returns c =
    let end : c.loop-z.z ≡ c.args.rows.1 = omega (arith, c.loop-z.auto.z-end, c.requires.south) in
    subst (λ (n : ℕ). AreFound c.args.self.now c.args.columns (c.args.rows.0, n) c.args.holders.now.items c.loop-z.holders.items) end c.loop-z.invariant.found
