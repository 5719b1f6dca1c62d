-- What reading a whole file answers, and why.
use Rattle.{sim_base.specs.Limits.file_limit, sim_store.specs.declared.{counts.Counts.Counts, fault.Failed.Failed}}
use Rattle.sim_store.specs.declared.{fault.StoreFault.{StoreFault, TheVariants.{NoFile, OutOfMemory, ReadFault, TooLong, WriteFault}}, shelf.Shelf.Ghosts}
use Rattle.sim_store.specs.{Held.File, Shelf.{after_giving, after_miss, after_read_fault, HeldSet, KeepsFiles, raised, Rose}}
use Rattle.std.specs.{declared.alloc.Global.Global, Io.KnownBytes.{Appends, IsAtEnd}, Prelude.{Bool, Err, if◌then◌else◌, IsFalse, IsTrue, length, List, nat_le}}
use Rattle.std.specs.Prelude.{None, Ok, OnOk, Option, Result, Some, take, Vec, ℕ, ⊤, ◌+◌, ◌<◌, ◌≡◌, ◌≢◌, ◌≤◌, ◌⊎◌}

-- the bytes, unless they are more than a file may have
abbrev pub within_limit : List ℕ → Result (List ℕ) StoreFault
within_limit bytes = if nat_le (length bytes) file_limit then Ok bytes else Err TooLong

-- what reading gives of the bytes that are held under a name, if any are
abbrev pub reading_of : Option (List ℕ) → Result (List ℕ) StoreFault
reading_of None = Err NoFile
reading_of (Some bytes) = within_limit bytes

-- an answer is the wanted one, or a read fault came between, or want of memory where there is a file
abbrev pub ReadMeets : Result (Vec ℕ Global) StoreFault → Result (List ℕ) StoreFault → Type 0
ReadMeets (Ok bytes) wanted = wanted ≡ Ok bytes.items
ReadMeets (Err NoFile) wanted = wanted ≡ Err NoFile
ReadMeets (Err TooLong) wanted = wanted ≡ Err TooLong
ReadMeets (Err ReadFault) wanted = Unit {0}
ReadMeets (Err OutOfMemory) wanted = wanted ≢ Err NoFile
ReadMeets (Err WriteFault) wanted = ⊥

-- the most bytes that are asked for at once
abbrev pub most_at_once : ℕ
most_at_once = 4096

-- at most so many bytes were given out, and nothing else was counted
abbrev pub GaveAtMost : ℕ → Counts → Counts → Type 0
GaveAtMost most old new = (bytes : ℕ) × (bytes ≤ most) × (new ≡ after_giving bytes old)

-- at most so many bytes were given out, then there was one read fault, and nothing else was counted
abbrev pub GaveThenFailed : ℕ → Counts → Counts → Type 0
GaveThenFailed most old new = (bytes : ℕ) × (bytes ≤ most) × (new ≡ after_read_fault (after_giving bytes old))

-- more bytes were given out than a file may have, by at most one piece, and nothing else was counted
abbrev pub GaveTooMany : Counts → Counts → Type 0
GaveTooMany old new = (bytes : ℕ) × (file_limit < bytes) × (bytes ≤ file_limit + most_at_once) × (new ≡ after_giving bytes old)

-- what was counted while a file was read, by the answer
abbrev pub ReadCauses : Result (Vec ℕ Global) StoreFault → Counts → Counts → Type 0
ReadCauses (Ok bytes) old new = new ≡ after_giving (length bytes.items) old
ReadCauses (Err NoFile) old new = new ≡ after_miss old
ReadCauses (Err TooLong) old new = GaveTooMany old new
ReadCauses (Err ReadFault) old new = GaveThenFailed file_limit old new
ReadCauses (Err OutOfMemory) old new = GaveAtMost file_limit old new
ReadCauses (Err WriteFault) old new = ⊥

-- whether a file is still open: one that was found is, and after a fault or without memory none need be
abbrev pub LeavesOpen : Result (Vec ℕ Global) StoreFault → Bool → Type 0
LeavesOpen (Ok bytes) open_now = IsTrue open_now
LeavesOpen (Err TooLong) open_now = IsTrue open_now
LeavesOpen (Err NoFile) open_now = IsFalse open_now
LeavesOpen (Err other) open_now = Unit {0}

-- What reading the rest of a file, or a whole one, does to a shelf: it counts by its answer, and all files are as they were. After a whole
-- file there is no more to read.
pub record ReadsUp {S : Type 0} (result : Result (Vec ℕ Global) StoreFault) (shelf : Ghosts S) (old new : S) : Type 0 where
  pub causes : ReadCauses result (shelf.counts old) (shelf.counts new)
  pub end : OnOk result (IsAtEnd (shelf.rest new))
  pub files : KeepsFiles shelf.held shelf.is_making shelf.made_name shelf.made old new

-- What writing a whole text or a whole file answers, and why.

-- the whole text was told, or a fault came before its end and only a prefix was
abbrev pub OutMeets : Result ⊤ StoreFault → List ℕ → Option (List ℕ) → Option (List ℕ) → Type 0
OutMeets (Ok written) text old new = Appends old new text
OutMeets (Err WriteFault) text old new = (part : ℕ) × (part < length text) × Appends old new (take part text)
OutMeets (Err other) text old new = ⊥

-- faults were counted exactly where a fault is answered
abbrev pub OutCauses : Result ⊤ StoreFault → ℕ → ℕ → Type 0
OutCauses (Ok written) old new = new ≡ old
OutCauses (Err fault) old new = new ≡ raised 1 old

-- the name holds all bytes, or after a fault a prefix of them
abbrev pub Fills : Result ⊤ Failed → List ℕ → List ℕ → Option (List File) → Option (List File) → Type 0
Fills (Ok written) name bytes old new = HeldSet name bytes old new
Fills (Err failed) name bytes old new = (part : ℕ) × HeldSet name (take part bytes) old new

-- the file that is being made has all bytes more, or after a fault a prefix of them, where it is told
abbrev pub IsFilled : Result ⊤ Failed → List ℕ → Option (List ℕ) → Option (List ℕ) → Type 0
IsFilled (Ok written) bytes old new = Appends old new bytes
IsFilled (Err failed) bytes old new = (part : ℕ) × Appends old new (take part bytes)

-- the name holds all bytes, or after a fault a prefix of them or what it held, or without memory what it held
abbrev pub FileMeets : Result ⊤ StoreFault → List ℕ → List ℕ → Option (List File) → Option (List File) → Type 0
FileMeets (Ok written) name bytes old new = HeldSet name bytes old new
FileMeets (Err WriteFault) name bytes old new = (new ≡ old) ⊎ ((part : ℕ) × HeldSet name (take part bytes) old new)
FileMeets (Err OutOfMemory) name bytes old new = new ≡ old
FileMeets (Err other) name bytes old new = ⊥

-- what was counted while a file was written: write faults, exactly where a fault is answered
abbrev pub FileCauses : Result ⊤ StoreFault → Counts → Counts → Type 0
FileCauses (Err WriteFault) old new = Rose old.write_faults new.write_faults × (new ≡ record old { write_faults = new.write_faults })
FileCauses other old new = new ≡ old
