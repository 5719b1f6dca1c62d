-- What the first section says is what the rows say.
use Rattle.sim_codec.proofs.stored.StoredRows.is_alive.Goals as goal
use Rattle.sim_codec.proofs.{Common.{IsStrictlyIncreasing, subst, sym, ◌∙◌}, TakenRows.{entries_fit, entries_of, same_ids, same_lives}}

pub entities_in-entities-requires : goal.entities_in-entities-requires
entities_in-entities-requires c = entries_fit c.self.inside.templates.now c.self.inside.count c.self.inside.walk _ c.self.invariant c.bytes.ensures

pub is_living-requires : goal.is_living-requires
is_living-requires c =
    let are = entries_of c.self.inside.templates.now c.self.inside.count c.self.inside.walk _ _ _ c.self.invariant c.bytes.ensures
    c.entities_in-entities.ensures c.self.view_is in
    subst IsStrictlyIncreasing (sym (same_ids _ _ _ are)) c.requires

pub returns : goal.returns
returns c =
    let are = entries_of c.self.inside.templates.now c.self.inside.count c.self.inside.walk _ _ _ c.self.invariant c.bytes.ensures
    c.entities_in-entities.ensures c.self.view_is in
    c.is_living.ensures ∙ same_lives _ c.args.id _ _ are
