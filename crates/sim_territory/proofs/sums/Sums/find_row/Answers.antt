-- One cell more has its holder.
use Rattle.sim_territory.proofs.{Common.{AreFound, arith, length, subst, ℕ, ◌*◌, ◌+◌, ◌≡◌}, Finding.{found_cell, found_none, no_column}}
use Rattle.sim_territory.proofs.sums.Sums.find_row.Goals as goal

pub loop-x-init : goal.loop-x-init
loop-x-init c = record {
  full = c.requires.full;
  found = found_none c.args.self.now (c.args.columns.0, c.args.columns.0) (c.args.z, c.args.z + 1) c.args.holders.now.items
      (no_column c.args.columns.0 (c.args.z, c.args.z + 1));
}

pub loop-x-preserved : goal.loop-x-preserved
loop-x-preserved c =
    let full : length c.args.holders.now.items ≡ c.args.self.now.width * c.args.self.now.depth = omega (arith, c.requires.full, c.args.holders.now.ok.0) in
    record {
      full = c.loop-x.invariant.full;
      found = found_cell c.args.self.now c.args.columns.0 c.loop-x.x c.args.z c.args.holders.now.items c.loop-x.holders.items c.loop-x.invariant.found
          (record { east = omega arith; north = let north = c.requires.north in omega arith })
          full c.cell_place-place.result c.holder.result c.cell_place-place.ensures.place
          c.holder.ensures;
    }

pub returns : goal.returns
returns c =
    let end : c.loop-x.x ≡ c.args.columns.1 = omega (arith, c.loop-x.auto.x-end, c.requires.west) in
    subst (λ (n : ℕ). AreFound c.args.self.now (c.args.columns.0, n) (c.args.z, c.args.z + 1) c.args.holders.now.items c.loop-x.holders.items) end
    c.loop-x.invariant.found
