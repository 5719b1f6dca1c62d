-- What a process is handed and what it ends with.
use Rattle.sim_edge.specs.Endings as talk
use Rattle.{sim_edge.specs.declared.ending.Ending.Ending, sim_top.specs.{declared.status.Status.Status, Reads.status_number}}
use Rattle.std.specs.declared.{alloc.Global.Global, io.{Error.Error, ErrorKind.TheVariants.OutOfMemory}, vec.IntoIter.IntoIter}
use Rattle.std.specs.{IoError.error_kind, Prelude.{drop, Err, List, Ok, Result, String, ℕ, [], ◌≡◌, ◌≢◌}, Vec.Iter.into_iter_items}

-- the words of a command line behind its first, which is the program's name; none where one of them is no text
abbrev pub words_behind : Result (IntoIter (String Global) Global) Error → List (String Global)
words_behind (Ok arguments) = drop 1 (into_iter_items arguments)
words_behind (Err error) = []

-- there was no memory for the words
abbrev pub IsUnread : {T : Type 0} → Result T Error → Type 0
IsUnread (Ok words) = ⊥
IsUnread (Err error) = error_kind error ≡ OutOfMemory

-- one of the words is no text
abbrev pub IsNoText : {T : Type 0} → Result T Error → Type 0
IsNoText (Ok words) = ⊥
IsNoText (Err error) = error_kind error ≢ OutOfMemory

-- the number of a status, and of want of memory before there was one
abbrev pub number_of : {E : Type 0} → Result Status E → ℕ
number_of (Ok status) = status_number status
number_of (Err refused) = 9

-- the same after a talk
abbrev pub talk_number_of : {E : Type 0} → Result Ending E → ℕ
talk_number_of (Ok ending) = talk.number_of ending
talk_number_of (Err refused) = 9
