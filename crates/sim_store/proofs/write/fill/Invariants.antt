-- What the file holds so far is the beginning of the bytes, and nothing has failed.
use Rattle.{sim_store.specs.Shelf.{HeldSet, KeepsReading}, std.{proofs.Common.{IsTrue, length, take, ◌-◌, ◌≡◌, ◌≤◌}, specs.Io.KnownBytes.Appends}}

abbrev pub invariant-loop-done : Rattle.sim_store.proofs.write.fill.Given.invariant-loop-done
invariant-loop-done g l = record {
  within : l.done ≤ length l.bytes;
  held : HeldSet (g.S.Shelf.made_name l.fn.shelf) (take l.done l.bytes) (g.S.Shelf.held l.fn.shelf) (g.S.Shelf.held l.shelf);
  made : Appends (g.S.Shelf.made l.fn.shelf) (g.S.Shelf.made l.shelf) (take l.done l.bytes);
  counts : g.S.Shelf.counts l.shelf ≡ g.S.Shelf.counts l.fn.shelf;
  making : IsTrue (g.S.Shelf.is_making l.shelf);
  name : g.S.Shelf.made_name l.shelf ≡ g.S.Shelf.made_name l.fn.shelf;
  reading : KeepsReading g.S.Shelf.is_open g.S.Shelf.rest l.fn.shelf l.shelf;
}

abbrev pub decreases-loop-done : Rattle.sim_store.proofs.write.fill.Given.decreases-loop-done
decreases-loop-done g l = length l.bytes - l.done
