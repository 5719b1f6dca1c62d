-- The text is cut where the old one ended.
use Rattle.sim_vision.proofs.Common.{IsSplitPoint-appended}

pub truncate-requires : Rattle.sim_vision.proofs.tell.push_sight.Goals.truncate-requires
truncate-requires c = λ _. IsSplitPoint-appended c.args.out.now c.push_lines.new.out _ c.len-length.ensures c.in-Err.ensures.err
