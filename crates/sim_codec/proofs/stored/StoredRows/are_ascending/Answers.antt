-- What the first section says is what the rows say.
use Rattle.sim_codec.proofs.{Common.{IsStrictlyIncreasing, IsTrue, subst, ◌↔◌}, TakenRows.{entries_fit, entries_of, same_ids}}

pub entities_in-entities-requires : Rattle.sim_codec.proofs.stored.StoredRows.are_ascending.Goals.entities_in-entities-requires
entities_in-entities-requires c = entries_fit c.self.inside.templates.now c.self.inside.count c.self.inside.walk _ c.self.invariant c.bytes.ensures

pub returns : Rattle.sim_codec.proofs.stored.StoredRows.are_ascending.Goals.returns
returns c =
    let are = entries_of c.self.inside.templates.now c.self.inside.count c.self.inside.walk _ _ _ c.self.invariant c.bytes.ensures
    c.entities_in-entities.ensures c.self.view_is in
    subst (λ ids. IsTrue c.are_ascending.result ↔ IsStrictlyIncreasing ids) (same_ids _ _ _ are) c.are_ascending.ensures
