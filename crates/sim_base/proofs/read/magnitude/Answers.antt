use Rattle.{sim_base.proofs.PrintedNumbers.{magnitude_of-refused, magnitude_of-whole}, std.proofs.{Common.arith, lemmas.Grind.common_steps}}

pub returns-in_err-digits-in-Some-2-clause-value : Rattle.sim_base.proofs.read.magnitude.Goals.returns-in_err-digits-in-Some-2-clause-value
returns-in_err-digits-in-Some-2-clause-value c = grind (arith, common_steps, magnitude_of-refused c.args.text.now c.in-Some.at)

pub returns-in_ok-digits-in-None-clause-value : Rattle.sim_base.proofs.read.magnitude.Goals.returns-in_ok-digits-in-None-clause-value
returns-in_ok-digits-in-None-clause-value c = grind (arith, common_steps, magnitude_of-whole c.args.text.now)
