-- What was read so far: it is the beginning of what was left, it is counted, and it is within the limit.
use Rattle.sim_store.specs.{Shelf.KeepsFiles, Shelf.after_giving, declared.read.TheConstants.MAX_FILE}
use Rattle.std.{proofs.Common.IsTrue, proofs.Common.length, proofs.Common.◌-◌, proofs.Common.◌≡◌, proofs.Common.◌≤◌, specs.Io.KnownBytes.Consumes}

abbrev pub invariant-pieces : Rattle.sim_store.proofs.read.read_rest.Given.invariant-pieces
invariant-pieces g l = record {
  within : length l.bytes.items ≤ MAX_FILE;
  told : Consumes (g.S.Shelf.rest l.fn.shelf) (g.S.Shelf.rest l.shelf) l.bytes.items;
  counts : g.S.Shelf.counts l.shelf ≡ after_giving (length l.bytes.items) (g.S.Shelf.counts l.fn.shelf);
  opened : IsTrue (g.S.Shelf.is_open l.shelf);
  files : KeepsFiles g.S.Shelf.held g.S.Shelf.is_making g.S.Shelf.made_name g.S.Shelf.made l.fn.shelf l.shelf;
}

abbrev pub decreases-pieces : Rattle.sim_store.proofs.read.read_rest.Given.decreases-pieces
decreases-pieces g l = MAX_FILE - length l.bytes.items
