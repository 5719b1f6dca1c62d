-- The line of one template more stands behind those so far.
use Rattle.sim_report.proofs.{Common.◌<◌, Common.length, Common.string_bytes, Common.rules, TemplateLines.parts_more}

pub loop-number-preserved : Rattle.sim_report.proofs.parts.append_templates.Goals.loop-number-preserved
loop-number-preserved c =
    let l = c.loop-number in
    let templates = c.args.templates.now in
    let lt : l.number < length templates = search rules in
    parts_more templates l.number c.index-templates-number.result (string_bytes c.args.out.now) (string_bytes l.out) (string_bytes c.append_template.new.out)
    lt c.index-templates-number.is l.invariant c.in_ok-append_template.ensures.ok
