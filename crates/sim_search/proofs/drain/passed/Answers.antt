use Rattle.sim_search.proofs.{Common.◌≡◌, Common.true, Common.arith, Common.rules, Draining.ready_passed}

pub loop-idle-preserved : Rattle.sim_search.proofs.drain.passed.Goals.loop-idle-preserved
loop-idle-preserved c =
    let v = c.loop-idle.invariant in
    let none : c.is_empty.result ≡ true = search rules in
    record {
      ready = λ estimate field r. ready_passed estimate field c.args.search.now c.loop-idle.now c.loop-idle.idle (v.ready estimate field r)
          (c.is_empty.ensures.0 none);
      gap = omega (arith, v.gap);
      least = omega (arith, v.least);
      most = omega (arith, c.loop-idle-test.true);
    }
