use Rattle.{sim_base.specs.Turn.left_at as left_of, std.proofs.Common.pos, std.proofs.Common.◌≡◌, std.proofs.Common.◌≤◌}

abbrev pub invariant-loop : Rattle.sim_attack.proofs.damage.left_at.Given.invariant-loop
invariant-loop l = record { value : pos l.left ≡ left_of l.counter; small : l.left ≤ 65536 }
