-- What is said of the hold stands behind the cooldown.

pub returns-in_ok-write : Rattle.sim_report.proofs.show.write_attack.Goals.returns-in_ok-write
returns-in_ok-write c = rw c.in-Some.is (rw c.hold_word-hold.ensures at c.in_ok-write.ensures.bytes)
