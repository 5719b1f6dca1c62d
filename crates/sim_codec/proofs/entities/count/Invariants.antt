-- Those that were found, and those that are left, are all.
use Rattle.sim_codec.proofs.Common.{◌≡◌, ◌+◌, count_by, length, passes, template_in}

abbrev pub invariant-entities : Rattle.sim_codec.proofs.entities.count.Given.invariant-entities
invariant-entities g l =
    l.found + count_by (λ bytes. passes g.R.PartForm.of_template l.templates (template_in bytes)) l.rest ≡
    count_by (λ bytes. passes g.R.PartForm.of_template l.templates (template_in bytes)) l.entities

abbrev pub decreases-entities : Rattle.sim_codec.proofs.entities.count.Given.decreases-entities
decreases-entities g l = length l.rest
