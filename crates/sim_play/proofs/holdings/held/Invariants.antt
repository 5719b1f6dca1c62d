-- The cells so far are counted.
use Rattle.std.{proofs.Common.get_or, proofs.Common.take, proofs.Common.ℕ, proofs.Common.◌<◌, proofs.Common.◌==◌, proofs.Common.◌≡◌, specs.Prelude.count_by}

abbrev pub invariant-loop-holder : Rattle.sim_play.proofs.holdings.held.Given.invariant-loop-holder
invariant-loop-holder l =
    (player : ℕ) → player < 9 → get_or l.tally player 0 ≡ count_by (λ holder. holder == player) (take l.holder-index l.holders)
