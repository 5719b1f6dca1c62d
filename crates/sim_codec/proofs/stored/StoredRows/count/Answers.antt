-- What the first section says is what the rows say.
use Rattle.sim_codec.proofs.stored.StoredRows.count.Goals as goal
use Rattle.sim_codec.proofs.Common.{ap, arith, count_by-le-length, length, passes, rules, template_in, ◌∙◌}
use Rattle.sim_codec.proofs.TakenRows.{entries_fit, entries_of, length_read, same_count, same_length}

pub entities_in-entities-requires : goal.entities_in-entities-requires
entities_in-entities-requires g c = entries_fit c.self.inside.templates.now c.self.inside.count c.self.inside.walk _ c.self.invariant c.bytes.ensures

pub overflow_cast-result : goal.overflow_cast-result
overflow_cast-result g c =
    let are = entries_of c.self.inside.templates.now c.self.inside.count c.self.inside.walk _ _ _ c.self.invariant c.bytes.ensures
    c.entities_in-entities.ensures c.self.view_is in
    omega (
      arith,
      c.count.ensures,
      count_by-le-length (λ bytes. passes g.R.PartForm.of_template c.self.inside.templates.now (template_in bytes)) c.entities_in-entities.result.now,
      same_length _ _ _ are,
      ap length c.self.view_is,
      length_read c.self.inside.templates.now c.self.inside.count c.self.inside.walk c.self.invariant,
    )

pub returns : goal.returns
returns g c =
    let are = entries_of c.self.inside.templates.now c.self.inside.count c.self.inside.walk _ _ _ c.self.invariant c.bytes.ensures
    c.entities_in-entities.ensures c.self.view_is in
    c.count.ensures ∙ same_count g.R.RowForm.in_row g.R.PartForm.of_template (g.met.R.PartForm c.lifetimes (search rules)).like_template _ _ _ are
