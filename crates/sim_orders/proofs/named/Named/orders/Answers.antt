use Rattle.sim_orders.proofs.Common.{◌≡◌, Bool, true, ◌&&◌, ◌==◌, ap, eq-eqb, list_any, sym, ◌∙◌}

pub returns-then-row-player : Rattle.sim_orders.proofs.named.Named.orders.Goals.returns-then-row-player
returns-then-row-player c =
    let row = c.args.row.now in
    let ids = c.args.self.now.ids in
    let own : (row.owner == c.args.player) ≡ true = eq-eqb row.owner c.args.player c.if-row-player.true in
    c.has.ensures ∙ ap (λ (b : Bool). b && list_any (λ n. n == row.id) ids) (sym own)
