-- The text is cut where the old one ended.
use Rattle.sim_report.proofs.Common.{IsSplitPoint-appended}

pub truncate-requires : Rattle.sim_report.proofs.parts.push_parts.Goals.truncate-requires
truncate-requires c =
    λ _. IsSplitPoint-appended c.args.out.now c.append_templates.new.out _ c.len-length.ensures c.in-Err.ensures.err
