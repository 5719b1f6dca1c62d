-- The first of the four lines, which the search leaves open.

pub returns-in_ok-writeln-in-Match : Rattle.sim_report.proofs.refusal.write_refusal.Goals.returns-in_ok-writeln-in-Match
returns-in_ok-writeln-in-Match c = rw c.in-Match.is c.in_ok-writeln-in-Match.ensures.bytes
