-- Each kind stands once in the table.
use Rattle.sim_stock.proofs.Common.{◌≡◌, kind_of, sym, ◌∙◌}

pub loop-rest-init : Rattle.sim_stock.proofs.table.DeedTable.after.Goals.loop-rest-init
loop-rest-init g c = record {
  one_left = rw c.as_slice-rest.ensures.value (c.args.self.now.once c.kind-kind.result c.kind-kind.ensures.from_one c.kind-kind.ensures.to_last);
  kind = c.kind-kind.ensures.value;
}

pub after-requires : Rattle.sim_stock.proofs.table.DeedTable.after.Goals.after-requires
after-requires g c =
    let same : kind_of c.args.deed.now ≡ c.handler-item.result.kind = sym c.loop-rest.invariant.kind ∙ sym c.if-handler-kind.true in
    record { below = c.requires.below; player_is = c.requires.player_is; kind_is = same; deed_is = c.requires.deed_is }
