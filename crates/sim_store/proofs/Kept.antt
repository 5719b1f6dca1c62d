-- What the calls of a shelf in memory do to its files, and to what is read.
use Rattle.sim_store.specs.{Held.AddsFirst, Held.File, Held.FileSet, Held.file_in, Held.file_of, Held.files_of, Held.first_name, Shelf.HeldGrows}
use Rattle.std.proofs.Common.{[], ap, arith, drop, false, length, length-drop, List, min, refl, rules, Some, sym, take, ℕ, ◌++◌, ◌+◌, ◌-◌, ◌∙◌, ◌∷◌, ◌≡◌, ◌≢◌}
use Rattle.std.proofs.{Common.◌≤◌, Math.Seq.take-append_seam, Math.Seq.take-length, lemmas.List.drop-drop, lemmas.List.length-take-le}
use Rattle.{sim_base.proofs.Lists.bytes_eq-same, sim_store.specs.declared.held.Held.Held, std.proofs.lemmas.List.take-append-drop, std.specs.Str.bytes_eq}

-- two names that differ are not equal
bytes_eq-other : (name other : List ℕ) → other ≢ name → bytes_eq name other ≡ false
bytes_eq-other name other ne = search rules

-- the first file is the one of its name
file_in-first : (file : File) (files : List File) → file_in (file ∷ files) file.name ≡ Some file.bytes
file_in-first file files = rw (bytes_eq-same file.name) refl

-- other bytes in the first file change what its name holds, and nothing else
FileSet-first : (file : File) (bytes : List ℕ) (files : List File) → FileSet file.name bytes (file ∷ files) (record file { bytes = bytes } ∷ files)
FileSet-first file bytes files = record {
  changed = file_in-first (record file { bytes = bytes }) files;
  others = λ other ne. rw (bytes_eq-other file.name other ne) refl;
}

-- a piece added to the first file is what its name holds more
pub HeldGrows-AddsFirst : (held : List Held) (new : List File) (piece : List ℕ) → AddsFirst piece (files_of held) new
    → HeldGrows (first_name held) (take (length piece) piece) (Some (files_of held)) (Some new)
HeldGrows-AddsFirst [] new piece added = absurd added
HeldGrows-AddsFirst (file ∷ held) new piece added = (
  file.bytes.items,
  file_in-first (file_of file) (files_of held),
  rw (added, take-length piece) (FileSet-first (file_of file) (file.bytes.items ++ piece) (files_of held)),
)

-- what a read copies to the front of the buffer, and what it leaves, is what was left before
pub drop-read : (bytes into front : List ℕ) (at count : ℕ) → count ≡ min (length (take (length bytes - at) (drop at bytes))) (length into)
    → front ≡ take count (take (length bytes - at) (drop at bytes))
    → drop at bytes ≡ take count (front ++ drop count into) ++ drop (at + count) bytes
drop-read bytes into front at count counted copied =
    let all : take (length bytes - at) (drop at bytes) ≡ drop at bytes = ap (λ k. take k (drop at bytes)) (sym (length-drop at bytes)) ∙
    take-length (drop at bytes) in
    let copied' : front ≡ take count (drop at bytes) = rw all at copied in
    let counted' : count ≡ min (length (drop at bytes)) (length into) = rw all at counted in
    let fits : count ≤ length (drop at bytes) = omega arith in
    let long : length front ≡ count = ap length copied' ∙ length-take-le count (drop at bytes) fits in
    let seam : take count (front ++ drop count into) ≡ front = ap (λ k. take k (front ++ drop count into)) (sym long) ∙
    take-append_seam front (drop count into) in
    let left : drop (at + count) bytes ≡ drop count (drop at bytes) = sym (drop-drop count at bytes) in
    sym (take-append-drop count (drop at bytes)) ∙ ap (λ l. l ++ drop count (drop at bytes)) (sym copied' ∙ sym seam) ∙
    ap (λ l. take count (front ++ drop count into) ++ l) (sym left)
