use Rattle.{sim_base.proofs.AppendedTexts.IsSplitPoint-appended, sim_base.proofs.PrintedNumbers.number_of-text_of, std.proofs.Common.rules}
use Rattle.sim_base.proofs.fixed.Fixed.push_text.Goals as goal

pub truncate-requires : goal.truncate-requires
truncate-requires c = λ _. IsSplitPoint-appended c.args.out.now c.push_signed.new.out _ c.len-length.ensures c.in-Err.ensures.err

pub returns-in-Ok-clause-reads_back : goal.returns-in-Ok-clause-reads_back
returns-in-Ok-clause-reads_back c = number_of-text_of c.args.self (search rules)

pub returns-in-Err-clause-reads_back : goal.returns-in-Err-clause-reads_back
returns-in-Err-clause-reads_back c = number_of-text_of c.args.self (search rules)
