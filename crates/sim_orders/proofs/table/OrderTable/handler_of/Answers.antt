-- Each kind stands once in the table.
pub loop-rest-init : Rattle.sim_orders.proofs.table.OrderTable.handler_of.Goals.loop-rest-init
loop-rest-init g c = rw c.as_slice-rest.ensures.value (c.args.self.now.once c.args.kind c.requires.from_one c.requires.to_seven)
