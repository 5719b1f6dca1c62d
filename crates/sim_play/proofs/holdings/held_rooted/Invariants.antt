-- The cells so far are counted, as cells of both lists side by side.
use Rattle.std.{proofs.Common.{Bool, get_or, take, ℕ, ◌&&◌, ◌<◌, ◌==◌, ◌≡◌}, specs.Prelude.{count_by, zip}}

abbrev pub invariant-loop-cell : Rattle.sim_play.proofs.holdings.held_rooted.Given.invariant-loop-cell
invariant-loop-cell l =
    (player : ℕ) → player < 9
    → get_or l.tally player 0 ≡ count_by (λ (cell : ℕ × Bool). cell.0 == player && cell.1) (take l.cell (zip l.holders l.rooted))
