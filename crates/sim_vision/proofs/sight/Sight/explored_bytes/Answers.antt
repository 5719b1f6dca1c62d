-- The bytes give the explored cells back, and are taken over at a state with these counts.
use Rattle.sim_vision.proofs.{Common.ap, Common.Keeps, Common.Setup, Common.subst, Common.Vision, Joining.bytes_back, Joining.bytes_taken}

pub returns-clause-back : Rattle.sim_vision.proofs.sight.Sight.explored_bytes.Goals.returns-clause-back
returns-clause-back c = bytes_back c.bytes.result c.self.inside.fog.flags.items c.args.self.now.explored
    (ap (λ (v : Vision). v.explored) c.self.view_is) c.bytes.ensures

pub returns-clause-accepted : Rattle.sim_vision.proofs.sight.Sight.explored_bytes.Goals.returns-clause-accepted
returns-clause-accepted c =
    let s = c.self.inside in
    let same = ap (λ (v : Vision). v.setup) c.self.view_is in
    bytes_taken c.bytes.result c.args.self.now s.trail s.discs.items s.fog
    (λ i. record { setup = c.args.self.now.setup; counts = (c.self.view_is i).counts; explored = (c.self.view_is i).explored })
    (subst (λ (setup : Setup). Keeps setup s.trail s.discs.items s.fog) same c.self.invariant) c.bytes.ensures
