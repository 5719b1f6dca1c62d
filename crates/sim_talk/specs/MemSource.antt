-- What is to come of an input in memory, and what it counts.
use Rattle.sim_store.specs.Shelf.{calls_in, is_next_listed, listed_in}
use Rattle.{sim_talk.specs.declared.mem_source.MemSource.MemSource, std.specs.Prelude.Bool, std.specs.Prelude.List, std.specs.Prelude.drop, std.specs.Prelude.ℕ}

-- the bytes that were not read yet
abbrev pub bytes_to_come : MemSource → List ℕ
bytes_to_come source = drop source.at source.bytes.items

-- how many a piece has at most
abbrev pub most_in : MemSource → ℕ
most_in source = source.most

-- how often reading failed
abbrev pub faults_in : MemSource → ℕ
faults_in source = source.faults

-- how many reads there were since the input was made
abbrev pub calls_of : MemSource → ℕ
calls_of source = calls_in source.calls

-- the numbers of the reads that are to fail, the first being 1
abbrev pub failing_of : MemSource → List ℕ
failing_of source = listed_in source.calls

-- whether the next read is to fail
abbrev pub fails_next_of : MemSource → Bool
fails_next_of source = is_next_listed source.calls
