-- One player more is looked at.
use Rattle.sim_territory.proofs.{Common.{arith, subst, sum_at, sym, ℕ, ◌+◌}, Holding.{best_begins, best_is, best_keeps, best_takes, IsBestBefore}}
use Rattle.sim_territory.proofs.sums.Sums.holder.Goals.{else-influence-most, then-influence-most}
use Rattle.sim_territory.proofs.sums.Sums.holder.Goals as goal

pub loop-player-init : goal.loop-player-init
loop-player-init c = best_begins (λ player. sum_at c.args.self.now player c.args.cell)

pub loop-player-preserved : goal.loop-player-preserved
loop-player-preserved c =
    let f : ℕ → ℕ = λ player. sum_at c.args.self.now player c.args.cell in
    let player = c.loop-player.player in
    let holder = c.loop-player.holder in
    let most = c.loop-player.most in
    let influence = c.at-influence.result in
    elim c.if-influence-most.branch [
      | then-influence-most w ↦
          subst (λ (h : ℕ). IsBestBefore f (player + 1) h c.if-influence-most.most) (sym w.holder-is)
          (subst (λ (m : ℕ). IsBestBefore f (player + 1) player m) (sym w.most-is)
          (best_takes f player holder most influence c.loop-player.auto.player c.at-influence.ensures w.if-influence-most.true c.loop-player.invariant))
      | else-influence-most w ↦
          subst (λ (h : ℕ). IsBestBefore f (player + 1) h c.if-influence-most.most) (sym w.holder-is)
          (subst (λ (m : ℕ). IsBestBefore f (player + 1) holder m) (sym w.most-is)
          (best_keeps f player holder most influence c.at-influence.ensures w.if-influence-most.false c.loop-player.invariant))
    ]

pub returns : goal.returns
returns c = sym (best_is (λ player. sum_at c.args.self.now player c.args.cell) c.args.self.now.players c.loop-player.player c.loop-player.holder
    c.loop-player.most (omega arith) c.loop-player.invariant)
