use Rattle.sim_orders.proofs.{Common.leb-false, Common.sym, Halves.none_above, Halves.none_below}

pub returns-then-first-id : Rattle.sim_orders.proofs.named.Named.spans.Goals.returns-then-first-id
returns-then-first-id c = λ d. none_above c.args.self.now.ids c.args.id c.in-Some-Some.last.now c.args.self.now.ascending
    (rw (← c.as_slice-ids.ensures) (sym c.in-Some-Some.ensures'.value)) (leb-false c.args.id c.in-Some-Some.last.now d)

pub returns-else-first-id : Rattle.sim_orders.proofs.named.Named.spans.Goals.returns-else-first-id
returns-else-first-id c = λ d. none_below c.args.self.now.ids c.args.id c.in-Some-Some.first.now c.args.self.now.ascending
    (rw (← c.as_slice-ids.ensures) (sym c.in-Some-Some.ensures.value)) (leb-false c.in-Some-Some.first.now c.args.id d)
