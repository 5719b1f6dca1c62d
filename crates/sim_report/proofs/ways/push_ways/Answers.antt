-- The text is cut where the old one ended.
use Rattle.sim_report.proofs.Common.{IsSplitPoint-appended}

pub truncate-requires : Rattle.sim_report.proofs.ways.push_ways.Goals.truncate-requires
truncate-requires c =
    λ _. IsSplitPoint-appended c.args.out.now c.append_ways.new.out _ c.len-length.ensures c.in-Err.ensures.err
