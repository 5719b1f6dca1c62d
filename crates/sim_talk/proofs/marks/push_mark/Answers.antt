-- The text is cut where the old one ended.
use Rattle.sim_base.proofs.AppendedTexts.{IsSplitPoint-appended}

pub truncate-requires : Rattle.sim_talk.proofs.marks.push_mark.Goals.truncate-requires
truncate-requires c = λ _. IsSplitPoint-appended c.args.out.now c.append_mark.new.out _ c.len-length.ensures c.in-Err.ensures.err
