-- The first message is heard.
use Rattle.{sim_pipes.proofs.Conveying.risen, std.proofs.lemmas.List.get_or_default}
use Rattle.sim_pipes.proofs.Common.{◌≡◌, ◌<◌, [], ◌∷◌, length, ap, arith, Conveys, Heard, Held, IsSilent, IsUpFrame, pipe_in, server_of, subst, sym, ◌∙◌}

pub returns-clause-stands : Rattle.sim_pipes.proofs.exchange.Exchange.rise.Goals.returns-clause-stands
returns-clause-stands c = λ setup s conv.
    let client = rw (← c.self.view_is) at c.requires in
    let held : Held = record { ups = c.self.inside.ups.items; downs = c.self.inside.downs.items; server = c.self.inside.server } in
    let within : c.args.client < length c.self.inside.ups.items = omega (arith, c.self.invariant.ups, client.1) in
    risen setup held s c.args.client c.as_slice.result.now c.take.new.self c.hear.new.server c.hear.new.downs.items c.hear.result
    (subst (λ v. Conveys setup v s) (sym c.self.view_is) conv) c.self.invariant.ups client.0 client.1
    (get_or_default c.self.inside.ups.items c.args.client [] c.index_mut.result.now within ∙ sym c.index_mut.ensures.value ∙ c.in-Some.ensures ∙
    ap (λ f. f ∷ c.take.new.self) (sym c.as_slice.ensures))
    c.hear.ensures.rules c.hear.ensures.heard

pub returns-clause-light : Rattle.sim_pipes.proofs.exchange.Exchange.rise.Goals.returns-clause-light
returns-clause-light c = λ frame rest message first is light silent.
    let client = rw (← c.self.view_is) at c.requires in
    let held : Held = record { ups = c.self.inside.ups.items; downs = c.self.inside.downs.items; server = c.self.inside.server } in
    let within : c.args.client < length c.self.inside.ups.items = omega (arith, c.self.invariant.ups, client.1) in
    let here : pipe_in held.ups c.args.client ≡ c.as_slice.result.now ∷ c.take.new.self =
    get_or_default c.self.inside.ups.items c.args.client [] c.index_mut.result.now within ∙ sym c.index_mut.ensures.value ∙ c.in-Some.ensures ∙
    ap (λ f. f ∷ c.take.new.self) (sym c.as_slice.ensures) in
    let there : pipe_in held.ups c.args.client ≡ frame ∷ rest = ap (λ (v : Held). pipe_in v.ups c.args.client) c.self.view_is ∙ first in
    let same : c.as_slice.result.now ≡ frame = cc in
    c.hear.ensures.light message (subst (λ f. IsUpFrame f message) (sym same) is) light
    (subst (λ (v : Held). IsSilent v.server.rules (server_of v.server) (Heard c.args.client message)) (sym c.self.view_is) silent)
