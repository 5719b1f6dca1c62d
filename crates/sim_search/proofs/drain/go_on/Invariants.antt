use Rattle.sim_search.proofs.Common.{◌≡◌, ◌+◌, ◌-◌, ◌*◌, ◌≤◌, [], field_of_grid, Ready, untaken}

abbrev pub invariant-loop-idle : Rattle.sim_search.proofs.drain.go_on.Given.invariant-loop-idle
invariant-loop-idle g l = record {
  start : l.search.start ≡ l.fn.stage.search.start;
  ready : Ready (g.A.Guide.estimate_of l.aim) (field_of_grid l.grid) l.search l.now l.idle;
  idle : l.idle ≤ 33;
  few : l.now + (33 * untaken l.search + (33 - l.idle)) ≤ 33 * 65536 + 33 + l.fn.stage.key;
  spare : l.spare ≡ [];
}

abbrev pub decreases-loop-idle : Rattle.sim_search.proofs.drain.go_on.Given.decreases-loop-idle
decreases-loop-idle g l = 33 * untaken l.search + (33 - l.idle)
