-- What each call of a shelf does, by cases on its answer.
use Rattle.sim_store.specs.declared.fault.ShelfFault.TheVariants as fault
use Rattle.sim_store.specs.declared.{calls.Calls.Calls, counts.Counts.Counts, fault.Failed.Failed, fault.ShelfFault.ShelfFault}
use Rattle.std.specs.Prelude.{[], Bool, Err, false, List, min, None, Ok, Option, Result, Some, take, true, ℕ, ⊤, ◌++◌, ◌+◌, ◌-◌, ◌==◌, ◌^◌, ◌≡◌, ◌≢◌, ◌≤◌}
use Rattle.{sim_store.specs.Held.File, sim_store.specs.Held.FileSet, sim_store.specs.Held.file_in, std.specs.List.list_any}

-- Counts that never fall: what rises by how much, and what it is to have risen.

-- the last value of a count, at which it stands still
abbrev pub last_count : ℕ
last_count = 2 ^ 64 - 1

-- a count that rose by this number, or by what was left up to its last value
abbrev pub raised : ℕ → ℕ → ℕ
raised by count = count + min by (last_count - count)

-- a count rose by this number at least, or stands at its last value
abbrev pub RoseBy : ℕ → ℕ → ℕ → Type 0
RoseBy number before now = raised number before ≤ now

-- a count rose, or stands at its last value
abbrev pub Rose : ℕ → ℕ → Type 0
Rose before now = RoseBy 1 before now

-- nothing was counted yet
abbrev pub no_counts : Counts
no_counts = record { given = 0; misses = 0; read_faults = 0; write_faults = 0 }

-- the counts after so many bytes more were given out
abbrev pub after_giving : ℕ → Counts → Counts
after_giving bytes counts = record counts { given = raised bytes counts.given }

-- the counts after a name was not found
abbrev pub after_miss : Counts → Counts
after_miss counts = record counts { misses = raised 1 counts.misses }

-- the counts after an `open` or a `read` failed
abbrev pub after_read_fault : Counts → Counts
after_read_fault counts = record counts { read_faults = raised 1 counts.read_faults }

-- the counts after a `make`, a `write` or a `close` failed
abbrev pub after_write_fault : Counts → Counts
after_write_fault counts = record counts { write_faults = raised 1 counts.write_faults }

-- All files are as they were, and so is the one that is being made. A clause passes what the shelf means by them.
pub record KeepsFiles {S A : Type 0} (held_on : S → A) (is_making_on : S → Bool) (made_name_on : S → List ℕ) (made_on : S → Option (List ℕ))
    (old new : S) : Type 0 where
  pub held : held_on new ≡ held_on old
  pub making : is_making_on new ≡ is_making_on old
  pub name : made_name_on new ≡ made_name_on old
  pub made : made_on new ≡ made_on old

-- a file that is open for reading stays so, and as much of it is left
pub record KeepsReading {S : Type 0} (is_open_on : S → Bool) (rest_on : S → Option (List ℕ)) (old new : S) : Type 0 where
  pub opened : is_open_on new ≡ is_open_on old
  pub rest : rest_on new ≡ rest_on old

-- whether an `open` leaves a file open: only where it answers true
abbrev pub opens : Result Bool ShelfFault → Bool
opens (Ok found) = found
opens (Err refused) = false

-- an `open` finds what is held, all of which is then left to read, misses only what is not held, and lacks memory only for
-- what is held
abbrev pub OpenTells : Result Bool ShelfFault → Option (List ℕ) → Option (List ℕ) → Type 0
OpenTells (Ok true) held rest = (bytes : List ℕ) × (held ≡ Some bytes) × (rest ≡ Some bytes)
OpenTells (Ok false) held rest = held ≡ None
OpenTells (Err fault.Failed) held rest = Unit {0}
OpenTells (Err fault.OutOfMemory) held rest = held ≢ None

-- an `open` that answers false is a miss, and one that fails is a read fault
abbrev pub OpenCounts : Result Bool ShelfFault → Counts → Counts → Type 0
OpenCounts (Ok true) old new = new ≡ old
OpenCounts (Ok false) old new = new ≡ after_miss old
OpenCounts (Err fault.Failed) old new = new ≡ after_read_fault old
OpenCounts (Err fault.OutOfMemory) old new = new ≡ old

-- a `read` gives as many bytes as it answers, and one that fails is a read fault
abbrev pub ReadCounts : Result ℕ Failed → Counts → Counts → Type 0
ReadCounts (Ok count) old new = new ≡ after_giving count old
ReadCounts (Err failed) old new = new ≡ after_read_fault old

-- a `make` that fails is a write fault
abbrev pub MakeCounts : Result ⊤ ShelfFault → Counts → Counts → Type 0
MakeCounts (Ok made) old new = new ≡ old
MakeCounts (Err fault.Failed) old new = new ≡ after_write_fault old
MakeCounts (Err fault.OutOfMemory) old new = new ≡ old

-- a `write` or a `close` that fails is a write fault
abbrev pub WriteCounts : {T : Type 0} → Result T Failed → Counts → Counts → Type 0
WriteCounts (Ok answer) old new = new ≡ old
WriteCounts (Err failed) old new = new ≡ after_write_fault old

-- where the files are told, this name now holds these bytes, and every other name what it held
abbrev pub HeldSet : List ℕ → List ℕ → Option (List File) → Option (List File) → Type 0
HeldSet name bytes None new = new ≡ None
HeldSet name bytes (Some files) None = ⊥
HeldSet name bytes (Some files) (Some files') = FileSet name bytes files files'

-- where the files are told, this name holds an empty file
abbrev pub HeldEmpty : List ℕ → Option (List File) → Type 0
HeldEmpty name None = Unit {0}
HeldEmpty name (Some files) = file_in files name ≡ Some []

-- where the files are told, this name holds these bytes more than it held, and every other name what it held
abbrev pub HeldGrows : List ℕ → List ℕ → Option (List File) → Option (List File) → Type 0
HeldGrows name bytes None new = new ≡ None
HeldGrows name bytes (Some files) None = ⊥
HeldGrows name bytes (Some files) (Some files') =
    (before : List ℕ) × (file_in files name ≡ Some before) × FileSet name (before ++ bytes) files files'

-- a `write` adds what it takes to the file that is being made, and one that fails leaves all files as they were
abbrev pub WriteHolds : Result ℕ Failed → List ℕ → List ℕ → Option (List File) → Option (List File) → Type 0
WriteHolds (Ok count) name piece old new = HeldGrows name (take count piece) old new
WriteHolds (Err failed) name piece old new = new ≡ old

-- a `make` begins an empty file, and one that is refused leaves all files as they were
abbrev pub MakeHolds : Result ⊤ ShelfFault → List ℕ → Option (List File) → Option (List File) → Type 0
MakeHolds (Ok made) name old new = HeldSet name [] old new
MakeHolds (Err refused) name old new = new ≡ old

-- Calls that are counted, some of which are listed to fail.

-- how many calls there were
abbrev pub calls_in : Calls → ℕ
calls_in calls = calls.made

-- the numbers of the calls that are listed, the first call being 1
abbrev pub listed_in : Calls → List ℕ
listed_in calls = calls.listed.items

-- whether the next call is listed
abbrev pub is_next_listed : Calls → Bool
is_next_listed calls = list_any (λ call. call == raised 1 calls.made) calls.listed.items
