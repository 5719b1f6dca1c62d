-- A system was built once, or not at all.
use Rattle.sim_board.proofs.Common.{AreBuiltOnceAtMost, AreKept, Err, IsBuiltOnceAtMost, Meaning, Ok, OnOk, one_more, Result, Systems, ◌∙◌}
use Rattle.sim_board.proofs.Common.{◌≡◌, arith, AreBuiltOnce}

pub not_built : (m : Meaning) → IsBuiltOnceAtMost m m
not_built m = record { low = omega arith; high = omega arith }

pub built_once : (m n : Meaning) → n.rebuilds ≡ one_more m.rebuilds → IsBuiltOnceAtMost m n
built_once m n is = record { low = omega (arith, is); high = omega (arith, is) }

pub built_same : (s : Systems) → AreBuiltOnceAtMost s s
built_same s = record { ground = not_built s.ground; range = not_built s.range; watch = not_built s.watch; census = not_built s.census }

-- ---- and no more behind that

pub once_kept : {V E : Type 0} (r : Result V E) (s t u : Systems) → AreBuiltOnce s t → AreKept t u → OnOk r (AreBuiltOnce s u)
once_kept (Ok v) s t u once kept = record {
  ground = kept.rebuilds.ground ∙ once.ground;
  range = kept.rebuilds.range ∙ once.range;
  watch = kept.rebuilds.watch ∙ once.watch;
  census = kept.rebuilds.census ∙ once.census;
}
once_kept (Err e) s t u once kept = tt

still_most : (m n o : Meaning) → IsBuiltOnceAtMost m n → o.rebuilds ≡ n.rebuilds → IsBuiltOnceAtMost m o
still_most m n o most same = record { low = omega (arith, most.low, same); high = omega (arith, most.high, same) }

pub most_kept : (s t u : Systems) → AreBuiltOnceAtMost s t → AreKept t u → AreBuiltOnceAtMost s u
most_kept s t u most kept = record {
  ground = still_most s.ground t.ground u.ground most.ground kept.rebuilds.ground;
  range = still_most s.range t.range u.range most.range kept.rebuilds.range;
  watch = still_most s.watch t.watch u.watch most.watch kept.rebuilds.watch;
  census = still_most s.census t.census u.census most.census kept.rebuilds.census;
}
