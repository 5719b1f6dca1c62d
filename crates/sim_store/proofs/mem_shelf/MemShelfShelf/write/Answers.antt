-- A piece added to the first file is what the name of the file that is being made holds more.
use Rattle.{sim_store.proofs.Kept.HeldGrows-AddsFirst, sim_store.specs.Held.AddsFirst, sim_store.specs.Held.files_of, std.proofs.Common.rules}

pub returns-clause-held : Rattle.sim_store.proofs.mem_shelf.MemShelfShelf.write.Goals.returns-clause-held
returns-clause-held c =
    let added : AddsFirst c.args.piece.now (files_of c.args.self.now.files.items) (files_of c.add_to_first.new.files.items) = search rules in
    HeldGrows-AddsFirst c.args.self.now.files.items _ c.args.piece.now added
