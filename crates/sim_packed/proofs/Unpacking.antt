-- How files are taken from bytes one by one, and put on a shelf.
use Rattle.sim_packed.specs.Files.{file_at, files_from, files_in, Holds, HoldSame}
use Rattle.sim_store.specs.{Held.File, Held.FileSet, Held.file_in, MemShelf.counts_on, MemShelf.files_on, declared.mem_shelf.MemShelf.MemShelf}
use Rattle.std.proofs.Common.{[], ap, arith, Bool, false, if◌then◌else◌, length, List, None, refl, Some, suc, sym, true, zero, ℕ, ◌<◌, ◌∙◌, ◌∷◌, ◌≡◌, ◌≢◌, ◌≤◌}
use Rattle.std.{proofs.lemmas.Bool.false≢true, proofs.lemmas.Slice.Eq.bytes_eq-Decides, specs.Prelude.is_some, specs.Str.bytes_eq}

-- the shelf holds the files so far, and with those that are left they are what all bytes spell
pub record IsUnpackedTo (bytes rest : List ℕ) (shelf : MemShelf) : Type 0 where
  pub most : ℕ
  pub done : List File
  pub enough : length rest ≤ most
  pub same : files_from most rest done ≡ files_in bytes
  pub holds : Holds done shelf

-- a file that is put is the first of its name
HoldSame-put : (held held' files : List File) (file : File) → FileSet file.name file.bytes held held' → HoldSame held files → HoldSame held' (file ∷ files)
HoldSame-put held held' files file put same name = by (bytes_eq file.name name) refl
  where
    by : (is : Bool) → bytes_eq file.name name ≡ is → file_in held' name ≡ (if is then Some file.bytes else file_in files name)
    by true e =
        let named : file.name ≡ name = (bytes_eq-Decides file.name name).0 e in
        rw (sym named) put.changed
    by false e =
        let other : name ≢ file.name = λ is. absurd (false≢true (sym e ∙ (bytes_eq-Decides file.name name).1 (sym is))) in
        put.others name other ∙ same name

-- one file more
pub next : (bytes rest more : List ℕ) (shelf shelf' : MemShelf) (file : File) → IsUnpackedTo bytes rest shelf → file_at rest ≡ Some (file, more)
    → length more < length rest → FileSet file.name file.bytes (files_on shelf) (files_on shelf') → counts_on shelf' ≡ counts_on shelf
    → IsUnpackedTo bytes more shelf'
next bytes [] more shelf shelf' file so found shorter put kept = absurd (omega (arith, shorter))
next bytes (b ∷ rest) more shelf shelf' file so found shorter put kept = by so.most so.enough so.same
  where
    by : (most : ℕ) → length (b ∷ rest) ≤ most → files_from most (b ∷ rest) so.done ≡ files_in bytes → IsUnpackedTo bytes more shelf'
    by zero enough same = absurd (omega (arith, enough))
    by (suc most) enough same =
        let step : files_from most more (file ∷ so.done) ≡ files_in bytes = rw found at same in
        record {
          most = most;
          done = file ∷ so.done;
          enough = omega (arith, enough, shorter);
          same = step;
          holds = record { same = HoldSame-put _ _ so.done file put so.holds.same; counts = kept ∙ so.holds.counts };
        }

-- the files so far are those of the bytes before, whatever holds them
pub record IsReadTo (bytes rest : List ℕ) : Type 0 where
  pub most : ℕ
  pub done : List File
  pub enough : length rest ≤ most
  pub same : files_from most rest done ≡ files_in bytes

-- nothing is read yet
pub read_none : (bytes : List ℕ) → IsReadTo bytes bytes
read_none bytes = record { most = length bytes; done = []; enough = omega arith; same = refl }

-- one file more is read
pub read_next : (bytes rest more : List ℕ) (file : File) → IsReadTo bytes rest → file_at rest ≡ Some (file, more) → length more < length rest
    → IsReadTo bytes more
read_next bytes [] more file so found shorter = absurd (omega (arith, shorter))
read_next bytes (b ∷ rest) more file so found shorter = by so.most so.enough so.same
  where
    by : (most : ℕ) → length (b ∷ rest) ≤ most → files_from most (b ∷ rest) so.done ≡ files_in bytes → IsReadTo bytes more
    by zero enough same = absurd (omega (arith, enough))
    by (suc most) enough same =
        let step : files_from most more (file ∷ so.done) ≡ files_in bytes = rw found at same in
        record { most = most; done = file ∷ so.done; enough = omega (arith, enough, shorter); same = step }

-- what is left to be read is no file
pub read_ends : (bytes rest : List ℕ) → IsReadTo bytes rest → 0 < length rest → file_at rest ≡ None → files_in bytes ≡ None
read_ends bytes [] so some lost = absurd (omega (arith, some))
read_ends bytes (b ∷ rest) so some lost = by so.most so.enough so.same
  where
    by : (most : ℕ) → length (b ∷ rest) ≤ most → files_from most (b ∷ rest) so.done ≡ files_in bytes → files_in bytes ≡ None
    by zero enough same = absurd (omega (arith, enough))
    by (suc most) enough same = sym (rw lost at same)

-- all is read
pub read_all : (bytes rest : List ℕ) → IsReadTo bytes rest → length rest ≡ 0 → is_some (files_in bytes) ≡ true
read_all bytes [] so empty = ap is_some (sym so.same)
read_all bytes (b ∷ rest) so empty = absurd (omega (arith, empty))

-- what is left is no file
pub none : (bytes rest : List ℕ) (shelf : MemShelf) → IsUnpackedTo bytes rest shelf → 0 < length rest → file_at rest ≡ None → files_in bytes ≡ None
none bytes rest shelf so some lost =
    read_ends bytes rest (record { most = so.most; done = so.done; enough = so.enough; same = so.same }) some lost

-- nothing is left
pub all : (bytes rest : List ℕ) (shelf : MemShelf) → IsUnpackedTo bytes rest shelf → length rest ≡ 0
    → (files : List File) × (files_in bytes ≡ Some files) × Holds files shelf
all bytes [] shelf so empty = (so.done, sym so.same, so.holds)
all bytes (b ∷ rest) shelf so empty = absurd (omega (arith, empty))

-- nothing is taken yet
pub begun : (bytes : List ℕ) (shelf : MemShelf) → files_on shelf ≡ [] → Holds [] shelf → IsUnpackedTo bytes bytes shelf
begun bytes shelf empty holds = record { most = length bytes; done = []; enough = omega arith; same = refl; holds = holds }
