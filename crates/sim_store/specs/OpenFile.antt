-- What is left to read of a file in memory.
use Rattle.{sim_store.specs.declared.open_file.OpenFile.OpenFile, std.specs.Prelude.ℕ, std.specs.Prelude.List, std.specs.Prelude.drop}

-- the bytes from the place on to which reading has come
abbrev pub bytes_left : OpenFile → List ℕ
bytes_left file = drop file.at file.bytes.items
