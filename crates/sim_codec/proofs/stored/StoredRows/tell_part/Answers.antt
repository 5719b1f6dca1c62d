-- What is read of one section is what the rows have there.
use Rattle.sim_codec.proofs.Common.{ap, filter_map, flat_map, OnOk, rules, subst, Tells, ◌∙◌, ◌≡◌}
use Rattle.sim_codec.{proofs.TakenRows.entries_fit, proofs.TakenRows.parts_read, specs.Taken.parts_in}

pub entities_in-entities-requires : Rattle.sim_codec.proofs.stored.StoredRows.tell_part.Goals.entities_in-entities-requires
entities_in-entities-requires g c = entries_fit c.self.inside.templates.now c.self.inside.count c.self.inside.walk _ c.self.invariant c.bytes.ensures

pub returns : Rattle.sim_codec.proofs.stored.StoredRows.tell_part.Goals.returns
returns g c =
    let part = g.R.RowForm.in_row in
    let at = g.R.PartForm.part_at in
    let walk = c.self.inside.walk in
    let templates = c.self.inside.templates.now in
    let read : parts_in at walk.version templates c.entities_in-entities.result.now c.reader-from.result ≡ filter_map part c.args.self.now =
    rw (c.entities_in-entities.ensures, c.bytes.ensures, c.reader-from.ensures)
    (parts_read part at g.R.PartForm.bytes_in (g.met.R.PartForm c.lifetimes (search rules)).takes templates c.self.inside.count walk c.self.invariant)
    ∙ ap (filter_map part) c.self.view_is in
    subst (λ parts. OnOk c.tell_parts.result (Tells g.K.ByteSink.holds c.args.out.now c.tell_parts.new.out (flat_map g.R.RowForm.spelled parts))) read
    c.tell_parts.ensures
