-- The entities so far.
use Rattle.{sim_embed.specs.Facts.entity_of, std.proofs.Common.◌≡◌, std.proofs.Common.map, std.proofs.Common.take}

abbrev pub invariant-loop-row : Rattle.sim_embed.proofs.plain.entities_of.Given.invariant-loop-row
invariant-loop-row l = l.found.items ≡ map entity_of (take l.row-index l.rows)
