use Rattle.sim_search.{proofs.Common.◌≡◌, specs.Rows.apart}

abbrev pub invariant-loop-i : Rattle.sim_search.proofs.row.furthest.Given.invariant-loop-i
invariant-loop-i l = l.most ≡ apart l.i l.a l.b
