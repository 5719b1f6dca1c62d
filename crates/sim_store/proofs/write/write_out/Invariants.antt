-- What was told so far is the beginning of the bytes, and nothing has failed.
use Rattle.std.{proofs.Common.◌≡◌, proofs.Common.◌-◌, proofs.Common.◌≤◌, proofs.Common.length, proofs.Common.take, specs.Io.KnownBytes.Appends}

abbrev pub invariant-loop-done : Rattle.sim_store.proofs.write.write_out.Given.invariant-loop-done
invariant-loop-done g l = record {
  within : l.done ≤ length l.bytes;
  told : Appends (g.K.Sink.told l.fn.sink) (g.K.Sink.told l.sink) (take l.done l.bytes);
  faults : g.K.Sink.faults l.sink ≡ g.K.Sink.faults l.fn.sink;
}

abbrev pub decreases-loop-done : Rattle.sim_store.proofs.write.write_out.Given.decreases-loop-done
decreases-loop-done g l = length l.bytes - l.done
