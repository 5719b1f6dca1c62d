use Rattle.{sim_grid.specs.Grids.{field_of_grid, is_open_step}, std.{proofs.Common.{cond, ℕ, ◌<◌, ◌≡◌, ◌≤◌}, specs.Int.bit_at}}

abbrev pub invariant-loop-which : Rattle.sim_grid.proofs.steps.steps_from.Given.invariant-loop-which
invariant-loop-which l = record {
  seen : (j : ℕ) → j < l.which → bit_at l.steps j ≡ cond (is_open_step (field_of_grid l.cells) l.from j) 1 0;
  blank : (j : ℕ) → l.which ≤ j → bit_at l.steps j ≡ 0;
}
