abbrev pub decreases-push_digits : Rattle.sim_base.proofs.decimal.+push_digits.Given.decreases-push_digits
decreases-push_digits l = l.n
