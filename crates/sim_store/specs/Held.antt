-- Files in memory as a list of names and bytes.
use Rattle.std.specs.Prelude.{[], if◌then◌else◌, List, map, None, Option, Some, string_bytes, vec_capacity, ℕ, ◌++◌, ◌∷◌, ◌≡◌, ◌≢◌}
use Rattle.{sim_store.specs.declared.held.Held.Held, std.specs.Str.bytes_eq}

-- The files that a shelf holds: each by its name, and of files with one name the first.

-- a name, and the bytes that are held under it
pub record File : Type 0 where
  pub name : List ℕ
  pub bytes : List ℕ

-- the bytes that are held under a name
abbrev pub file_in : List File → List ℕ → Option (List ℕ)
file_in [] name = None
file_in (file ∷ files) name = if bytes_eq file.name name then Some file.bytes else file_in files name

-- this name now holds these bytes, and every other name holds what it held
pub record FileSet (name bytes : List ℕ) (old new : List File) : Type 0 where
  pub changed : file_in new name ≡ Some bytes
  pub others : (other : List ℕ) → other ≢ name → file_in new other ≡ file_in old other

-- the name and the bytes of one file
abbrev pub file_of : Held → File
file_of held = record { name = string_bytes held.name; bytes = held.bytes.items }

-- the names and the bytes of the files, in their order
abbrev pub files_of : List Held → List File
files_of held = map file_of held

-- the name of the first file, if there is one
abbrev pub first_name : List Held → List ℕ
first_name [] = []
first_name (held ∷ more) = string_bytes held.name

-- the bytes of the first file, if there is one
abbrev pub first_bytes : List Held → List ℕ
first_bytes [] = []
first_bytes (held ∷ more) = held.bytes.items

-- how many bytes the first file has memory for
abbrev pub first_capacity : List Held → ℕ
first_capacity [] = 0
first_capacity (held ∷ more) = vec_capacity held.bytes

-- the first file has these bytes more, and nothing else changed
abbrev pub AddsFirst : List ℕ → List File → List File → Type 0
AddsFirst piece [] new = ⊥
AddsFirst piece (file ∷ files) new = new ≡ record file { bytes = file.bytes ++ piece } ∷ files
