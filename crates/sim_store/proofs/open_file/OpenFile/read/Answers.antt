-- What was left is what was copied to the buffer and what is left now.
use Rattle.sim_store.proofs.Kept.{drop-read}

pub returns-clause-bytes : Rattle.sim_store.proofs.open_file.OpenFile.read.Goals.returns-clause-bytes
returns-clause-bytes c =
    drop-read c.args.self.now.bytes.items c.args.into.now c.copy_from_slice.new.self c.args.self.now.at c.min-count.result
    (rw c.deref.ensures.value at c.min-count.ensures) (rw c.deref.ensures.value at c.copy_from_slice.ensures.after)
