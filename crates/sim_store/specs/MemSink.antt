-- What a sink in memory was told, and how much it takes in all.
use Rattle.sim_store.specs.{Shelf.calls_in, Shelf.is_next_listed, Shelf.listed_in, Shelf.raised, declared.mem_sink.MemSink.MemSink}
use Rattle.std.specs.Prelude.{Bool, List, ℕ, ◌≡◌}

-- the bytes that the sink was told
abbrev pub bytes_told : MemSink → List ℕ
bytes_told sink = sink.told.items

-- how often writing to the sink failed
abbrev pub faults_of : MemSink → ℕ
faults_of sink = sink.faults

-- how many bytes the sink takes in all
abbrev pub room_in : MemSink → ℕ
room_in sink = sink.room

-- how many writes there were since the sink was made
abbrev pub calls_of : MemSink → ℕ
calls_of sink = calls_in sink.calls

-- the numbers of the writes that are to fail, the first since the sink was made being 1
abbrev pub failing_of : MemSink → List ℕ
failing_of sink = listed_in sink.calls

-- whether the next write is to fail
abbrev pub fails_next_of : MemSink → Bool
fails_next_of sink = is_next_listed sink.calls

-- it was one write, and which writes are to fail and the room are the same
pub record IsWrite (old new : MemSink) : Type 0 where
  pub calls : calls_of new ≡ raised 1 (calls_of old)
  pub failing : failing_of new ≡ failing_of old
  pub room : room_in new ≡ room_in old
