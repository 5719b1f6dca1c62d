-- One more piece told keeps the invariant: the beginning of the bytes grows by what the sink took.
use Rattle.{sim_store.proofs.Pieces.Appends-more, std.proofs.Common.arith, std.proofs.Common.length-drop, std.proofs.Common.◌∙◌}

pub loop-done-preserved : Rattle.sim_store.proofs.write.write_out.Goals.loop-done-preserved
loop-done-preserved g c = record {
  within = omega (arith, c.in-Ok.ensures.adds.takes.0, length-drop c.loop-done.done c.args.bytes.now);
  told = Appends-more _ _ _ c.args.bytes.now c.loop-done.done c.in-Ok.count c.loop-done.invariant.told c.in-Ok.ensures.adds.added;
  faults = c.in-Ok.ensures.counts ∙ c.loop-done.invariant.faults;
}
