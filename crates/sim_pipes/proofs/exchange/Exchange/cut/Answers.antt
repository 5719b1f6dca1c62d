-- Both pipes are emptied, and the server sees the cut.
use Rattle.sim_pipes.proofs.{Common.{Conveys, Cut, Held, IsSilent, server_of, subst, sym}, Conveying.cut_off, Frames.on_ok}

pub returns-clause-stands : Rattle.sim_pipes.proofs.exchange.Exchange.cut.Goals.returns-clause-stands
returns-clause-stands c = λ setup s conv.
    let client = rw (← c.self.view_is) at c.requires in
    let held : Held = record { ups = c.self.inside.ups.items; downs = c.self.inside.downs.items; server = c.self.inside.server } in
    on_ok c.see_cut.result c.see_cut.ensures.heard
    (cut_off setup held s c.args.client c.clear.new.self c.clear-2.new.self c.see_cut.new.server c.see_cut.new.downs.items
    (subst (λ v. Conveys setup v s) (sym c.self.view_is) conv)
    c.self.invariant.ups c.self.invariant.downs client.1 c.clear.ensures c.clear-2.ensures c.see_cut.ensures.rules)

pub returns-clause-silent : Rattle.sim_pipes.proofs.exchange.Exchange.cut.Goals.returns-clause-silent
returns-clause-silent c = λ silent.
    c.see_cut.ensures.silent (subst (λ (v : Held). IsSilent v.server.rules (server_of v.server) (Cut c.args.client)) (sym c.self.view_is) silent)
