use Rattle.sim_base.proofs.AppendedTexts.{IsSplitPoint-appended}

pub truncate-requires : Rattle.sim_base.proofs.decimal.push_decimal.Goals.truncate-requires
truncate-requires c = λ _. IsSplitPoint-appended c.args.out.now c.push_digits.new.out _ c.len-length.ensures c.in-Err.ensures.err
