-- The text is cut where the old one ended.
use Rattle.sim_report.proofs.Common.{IsSplitPoint-appended}

pub truncate-requires : Rattle.sim_report.proofs.territory.push_map.Goals.truncate-requires
truncate-requires c = λ _. IsSplitPoint-appended c.args.out.now c.append_map.new.out _ c.len-before.ensures c.in-Err.ensures.err
