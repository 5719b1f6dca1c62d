-- Spans of columns and of rows.
use Rattle.{sim_territory.specs.Common.abs_diff, std.specs.Prelude.ℕ, std.specs.Prelude.◌*◌, std.specs.Prelude.◌<◌, std.specs.Prelude.◌≤◌}

-- the numbers from the first to before the end have all that are nearer than a reach, at 10 a cell
abbrev pub SpansNear : ℕ → ℕ → ℕ → ℕ × ℕ → Type 0
SpansNear from reach cells span = (n : ℕ) → n < cells → 10 * abs_diff from n < reach → (span.0 ≤ n) × (n < span.1)
