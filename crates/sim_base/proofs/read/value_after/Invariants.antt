use Rattle.std.{proofs.Common.{take, ◌*◌, ◌+◌, ◌<◌, ◌^◌, ◌≡◌}, specs.Str.Parse.digits_value_after}

abbrev pub invariant-loop-c : Rattle.sim_base.proofs.read.value_after.Given.invariant-loop-c
invariant-loop-c l = record {
  value : l.value ≡ digits_value_after 10 l.n (take l.c-index l.digits);
  small : l.value < (l.n + 1) * 10 ^ l.c-index;
}
