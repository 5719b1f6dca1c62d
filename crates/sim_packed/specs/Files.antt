-- The files that bytes spell, and the shelf that holds them.
use Rattle.sim_packed.specs.declared.running.Unrun.TheVariants as causes
use Rattle.sim_packed.specs.declared.{files.Unpacked.Unpacked, running.Printed.Printed, running.Unrun.Unrun}
use Rattle.sim_store.specs.{Held.File, Held.file_in, MemShelf.counts_on, MemShelf.files_on, Shelf.no_counts, declared.counts.Counts.Counts}
use Rattle.std.specs.Prelude.{[], All, drop, if◌then◌else◌, length, List, nat_lt, None, Option, option_and_then, Some, suc, take, true, zero, ℕ, ◌++◌, ◌<◌}
use Rattle.std.specs.{Int.from_le_bytes, Int.w32, Option.unwrap_or, Prelude.◌==◌, Prelude.◌^◌, Prelude.◌∷◌, Prelude.◌≡◌, Prelude.◌≢◌, Str.is_utf8}
use Rattle.{sim_base.specs.Spelling.u32_bytes, sim_edge.specs.Run.Ran, sim_top.specs.Reads.scene, sim_top.specs.Words.out_of}
use Rattle.{sim_store.specs.declared.mem_shelf.MemShelf.MemShelf, sim_top.specs.Words.asked_by, sim_top.specs.declared.status.Status.TheVariants.OutOfMemory}

-- The words that bytes spell, each of which is ended by a byte 0.

-- the text that bytes are, if they are one
abbrev pub text_in : List ℕ → Option (List ℕ)
text_in bytes = if is_utf8 bytes then Some bytes else None

-- the words that bytes spell behind the beginning of one and those that are done, if each is a text and has its end
abbrev pub spelled_words : List ℕ → List ℕ → List (List ℕ) → Option (List (List ℕ))
spelled_words [] [] done = Some done
spelled_words [] (b ∷ word) done = None
spelled_words (byte ∷ bytes) word done =
    if byte == 0 then option_and_then (λ text. spelled_words bytes [] (done ++ text ∷ [])) (text_in word) else spelled_words bytes (word ++ byte ∷ []) done

-- the words that bytes spell; none where they spell no words
abbrev pub words_in : List ℕ → List (List ℕ)
words_in bytes = unwrap_or (spelled_words bytes [] []) []

-- so many bytes, and those behind them
abbrev pub cut_at : ℕ → List ℕ → Option (List ℕ × List ℕ)
cut_at count bytes = if nat_lt (length bytes) count then None else Some (take count bytes, drop count bytes)

-- the bytes behind their length in four bytes, and what is behind them
abbrev pub piece_at : List ℕ → Option (List ℕ × List ℕ)
piece_at (a ∷ b ∷ c ∷ d ∷ rest) = cut_at (from_le_bytes w32 (a ∷ b ∷ c ∷ d ∷ [])) rest
piece_at other = None

-- the file of this name, and what is behind it
abbrev pub file_named : List ℕ → List ℕ → Option (File × List ℕ)
file_named rest name = option_and_then (λ content. Some (record { name = name; bytes = content.0 }, content.1)) (piece_at rest)

-- the first file, and what is behind it
abbrev pub file_at : List ℕ → Option (File × List ℕ)
file_at bytes = option_and_then (λ name. option_and_then (file_named name.1) (text_in name.0)) (piece_at bytes)

-- the same as the code has it
abbrev pub unpacked_of : Unpacked → File × List ℕ
unpacked_of it = (record { name = it.name.now; bytes = it.bytes.now }, it.rest.now)

-- at most so many files, before those that are done
abbrev pub files_from : ℕ → List ℕ → List File → Option (List File)
files_from most [] done = Some done
files_from zero (byte ∷ bytes) done = None
files_from (suc most) (byte ∷ bytes) done = option_and_then (λ file. files_from most file.1 (file.0 ∷ done)) (file_at (byte ∷ bytes))

-- the files that bytes spell, the last first, so that it is the one of its name; no file has fewer bytes than one
abbrev pub files_in : List ℕ → Option (List File)
files_in bytes = files_from (length bytes) bytes []

-- under each name the same is held
abbrev pub HoldSame : List File → List File → Type 0
HoldSame held files = (name : List ℕ) → file_in held name ≡ file_in files name

-- nothing was counted yet, and under each name the shelf holds what the files have there
pub record Holds (files : List File) (shelf : MemShelf) : Type 0 where
  pub same : HoldSame (files_on shelf) files
  pub counts : counts_on shelf ≡ no_counts

-- the shelf holds the files that bytes spell, if they spell some
abbrev pub HoldsSpelled : List ℕ → Option MemShelf → Type 0
HoldsSpelled bytes None = files_in bytes ≡ None
HoldsSpelled bytes (Some shelf) = (files : List File) × (files_in bytes ≡ Some files) × Holds files shelf

-- The bytes of words and of files, as whoever calls makes them.

-- a text without a byte 0
pub record IsWord (word : List ℕ) : Type 0 where
  pub utf8 : is_utf8 word ≡ true
  pub inner : All (λ byte. byte ≢ 0) word

-- each word with a byte 0 behind it
abbrev pub words_bytes : List (List ℕ) → List ℕ
words_bytes [] = []
words_bytes (word ∷ words) = word ++ 0 ∷ words_bytes words

-- a name that is a text, and no more bytes than four bytes count
pub record IsShortFile (file : File) : Type 0 where
  pub utf8 : is_utf8 file.name ≡ true
  pub name : length file.name < 2 ^ 32
  pub bytes : length file.bytes < 2 ^ 32

-- bytes with their length before them
abbrev pub piece_bytes : List ℕ → List ℕ
piece_bytes bytes = u32_bytes (length bytes) ++ bytes

-- each file as its name and its content
abbrev pub files_bytes : List File → List ℕ
files_bytes [] = []
files_bytes (file ∷ files) = piece_bytes file.name ++ (piece_bytes file.bytes ++ files_bytes files)

-- What a run over bytes comes to.

-- what is held under a name, if there is a name and something is
abbrev pub under : Option (List ℕ) → List File → List ℕ
under None files = []
under (Some name) files = unwrap_or (file_in files name) []

-- the words ran over these files and came to this: the status, all that was told, and what is then held under the name of OUT. Nothing
-- was told or counted before, the sink took all that it was told, and there was memory.
pub record IsRunOn (words : List (List ℕ)) (held : List File) (printed : Printed) : Type 0 where
  pub files : List File
  pub counts : Counts
  pub ran : Ran words (scene (Some held) (Some []) no_counts 0) (scene (Some files) (Some printed.text.items) counts 0) printed.status
  pub out : printed.out.items ≡ under (out_of (asked_by words)) files
  pub memory : printed.status ≢ OutOfMemory

-- it is so of the words that bytes spell, over files that hold under each name what those have there that the others spell
pub record IsRun (words files : List ℕ) (printed : Printed) : Type 0 where
  pub spelled : List File
  pub held : List File
  pub is : files_in files ≡ Some spelled
  pub same : HoldSame held spelled
  pub ran : IsRunOn (words_in words) held printed

-- there is no run since the bytes spell no files, or for want of memory, which is wanted only where they do
abbrev pub IsUnrun : List ℕ → Unrun → Type 0
IsUnrun files causes.Files = files_in files ≡ None
IsUnrun files causes.OutOfMemory = files_in files ≢ None
