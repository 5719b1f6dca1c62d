use Rattle.sim_search.proofs.Common.{◌≡◌, ◌+◌, ◌-◌, ◌<◌, ◌≤◌, ℕ, Cell, Field, Ready}

abbrev pub invariant-loop-idle : Rattle.sim_search.proofs.drain.passed.Given.invariant-loop-idle
invariant-loop-idle l = record {
  ready : (estimate : Cell → ℕ) (field : Field) → Ready estimate field l.search l.fn.now l.fn.idle → Ready estimate field l.search l.now l.idle;
  gap : l.now + l.fn.idle ≡ l.fn.now + l.idle;
  least : l.fn.idle ≤ l.idle;
  most : l.idle < 32;
}

abbrev pub decreases-loop-idle : Rattle.sim_search.proofs.drain.passed.Given.decreases-loop-idle
decreases-loop-idle l = 32 - l.idle
