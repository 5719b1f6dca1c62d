-- What a shelf in memory means.
use Rattle.sim_store.specs.{declared.{counts.Counts.Counts, fault.Failed.Failed, mem_shelf.MemShelf.MemShelf}, Held.{File, files_of, first_bytes, first_name}}
use Rattle.sim_store.specs.{OpenFile.bytes_left, Shelf.{calls_in, is_next_listed, KeepsFiles, KeepsReading, listed_in, raised, WriteCounts}}
use Rattle.std.specs.Prelude.{Bool, if◌then◌else◌, is_some, IsTrue, List, None, Option, option_map, Result, Some, ℕ, ◌↔◌, ◌≡◌}

-- the files that the shelf holds
abbrev pub files_on : MemShelf → List File
files_on shelf = files_of shelf.files.items

-- how many bytes a file that is made on the shelf may have
abbrev pub room_on : MemShelf → ℕ
room_on shelf = shelf.room

-- what is left of the file that is open for reading
abbrev pub rest_on : MemShelf → Option (List ℕ)
rest_on shelf = option_map bytes_left shelf.reading

-- whether a file is open for reading
abbrev pub is_open_on : MemShelf → Bool
is_open_on shelf = is_some shelf.reading

-- whether a file is being made
abbrev pub is_making_on : MemShelf → Bool
is_making_on shelf = shelf.is_making

-- the name of the file that is being made
abbrev pub made_name_on : MemShelf → List ℕ
made_name_on shelf = first_name shelf.files.items

-- what the file that is being made holds so far, if one is being made
abbrev pub made_on : MemShelf → Option (List ℕ)
made_on shelf = if shelf.is_making then Some (first_bytes shelf.files.items) else None

-- what the shelf counted
abbrev pub counts_on : MemShelf → Counts
counts_on shelf = shelf.counts

-- how many calls of the shelf there were since it was made
abbrev pub calls_on : MemShelf → ℕ
calls_on shelf = calls_in shelf.calls

-- the numbers of the calls that are to fail, the first since the shelf was made being 1
abbrev pub failing_on : MemShelf → List ℕ
failing_on shelf = listed_in shelf.calls

-- whether the next call of the shelf is to fail
abbrev pub fails_next_on : MemShelf → Bool
fails_next_on shelf = is_next_listed shelf.calls

-- ---- what a call leaves as it was

-- all files are as they were, and so is the one that is being made
abbrev pub AreFilesKept : MemShelf → MemShelf → Type 0
AreFilesKept old new = KeepsFiles files_on is_making_on made_name_on made_on old new

-- it was no call of `Shelf`: none was counted and nothing was moved, and a made file has the same room
pub record IsNoCall (old new : MemShelf) : Type 0 where
  pub calls : calls_on new ≡ calls_on old
  pub room : room_on new ≡ room_on old
  pub counts : counts_on new ≡ counts_on old
  pub reading : KeepsReading is_open_on rest_on old new

-- it was one call of `Shelf`, and which calls are to fail and the room of a made file are the same
pub record IsCall (old new : MemShelf) : Type 0 where
  pub calls : calls_on new ≡ raised 1 (calls_on old)
  pub failing : failing_on new ≡ failing_on old
  pub room : room_on new ≡ room_on old

-- it was one call, which failed exactly where it is listed to fail
pub record IsListedCall (failed : Type 0) (old new : MemShelf) : Type 0 where
  pub fails : failed ↔ IsTrue (fails_next_on old)
  pub counted : IsCall old new

-- an `open` or a `read`: one call, which failed exactly where it is listed to fail, and all files are as they were
pub record LooksOn (failed : Type 0) (old new : MemShelf) : Type 0 where
  pub call : IsListedCall failed old new
  pub files : AreFilesKept old new

-- a `write` or a `close`: it counts by its answer, and what is open for reading stays as it was
pub record WritesOn {T : Type 0} (result : Result T Failed) (old new : MemShelf) : Type 0 where
  pub counts : WriteCounts result (counts_on old) (counts_on new)
  pub reading : KeepsReading is_open_on rest_on old new
