-- One more piece written: what was written of the bytes so far, and then the beginning of the others.
use Rattle.sim_store.specs.{declared.fault.Failed.Failed, Held.{File, file_in, FileSet}, Reading.Fills, Shelf.{HeldGrows, HeldSet}}
use Rattle.std.proofs.Common.{ap, drop, Err, IfSome, length, length-drop, List, None, Ok, Option, Result, Some, subst, sym, take, ℕ, [], ◌++◌, ◌+◌, ◌-◌, ◌∙◌}
use Rattle.std.{proofs.{Common.◌≡◌, KnownBytes.Appends-trans, Math.Seq.{take-add, take-length}}, specs.{Io.KnownBytes.Appends, Prelude.⊤}}

-- the bytes from a place on, as a clause has them
abbrev pub from_place : ℕ → List ℕ → List ℕ
from_place i bytes = take (length bytes - i) (drop i bytes)

-- it is what is left of them without the beginning
from_place-drop : (i : ℕ) (bytes : List ℕ) → from_place i bytes ≡ drop i bytes
from_place-drop i bytes = ap (λ k. take k (drop i bytes)) (sym (length-drop i bytes)) ∙ take-length (drop i bytes)

-- a beginning, and then the beginning of what is left, is a longer beginning
take-from_place : (i n : ℕ) (bytes : List ℕ) → take i bytes ++ take n (from_place i bytes) ≡ take (i + n) bytes
take-from_place i n bytes = ap (λ l. take i bytes ++ take n l) (from_place-drop i bytes) ∙ sym (take-add i n bytes)

-- what was told so far, and the next piece, is a longer beginning of the bytes
pub Appends-more : (a b c : Option (List ℕ)) (bytes : List ℕ) (i n : ℕ) → Appends a b (take i bytes) → Appends b c (take n (from_place i bytes))
    → Appends a c (take (i + n) bytes)
Appends-more a b c bytes i n first next = subst (Appends a c) (take-from_place i n bytes) (Appends-trans a b c _ _ first next)

-- a name that was set twice was set to the last
FileSet-FileSet : (name first last : List ℕ) (a b c : List File) → FileSet name first a b → FileSet name last b c → FileSet name last a c
FileSet-FileSet name first last a b c one two = record {
  changed = two.changed;
  others = λ other ne. two.others other ne ∙ one.others other ne;
}

-- the same, where the files may be untold
pub HeldSet-HeldSet : (name first last : List ℕ) (a b c : Option (List File)) → HeldSet name first a b → HeldSet name last b c → HeldSet name last a c
HeldSet-HeldSet name first last None None c one two = two
HeldSet-HeldSet name first last None (Some ys) c one two = cc
HeldSet-HeldSet name first last (Some xs) None c one two = absurd one
HeldSet-HeldSet name first last (Some xs) (Some ys) None one two = absurd two
HeldSet-HeldSet name first last (Some xs) (Some ys) (Some zs) one two = FileSet-FileSet name first last xs ys zs one two

-- what the file holds so far, and the next piece, is a longer beginning of the bytes
pub HeldSet-HeldGrows : (a b c : Option (List File)) (name bytes : List ℕ) (i n : ℕ) → HeldSet name (take i bytes) a b
    → HeldGrows name (take n (from_place i bytes)) b c → HeldSet name (take (i + n) bytes) a c
HeldSet-HeldGrows None None c name bytes i n first next = next
HeldSet-HeldGrows None (Some ys) c name bytes i n first next = cc
HeldSet-HeldGrows (Some xs) None c name bytes i n first next = absurd first
HeldSet-HeldGrows (Some xs) (Some ys) None name bytes i n first next = absurd next
HeldSet-HeldGrows (Some xs) (Some ys) (Some zs) name bytes i n first next =
    let held : file_in ys name ≡ Some next.0 = next.1 in
    let part : take i bytes ≡ next.0 = cc (first.changed, held) in
    let grown : next.0 ++ take n (from_place i bytes) ≡ take (i + n) bytes =
    ap (λ l. l ++ take n (from_place i bytes)) (sym part) ∙ take-from_place i n bytes in
    FileSet-FileSet name (take i bytes) (take (i + n) bytes) xs ys zs first (subst (λ (l : List ℕ). FileSet name l ys zs) grown next.2)

-- a file that was begun, and then filled whole or in part, holds a prefix; the name counts where the files are told
pub prefix_held : (filled : Result ⊤ Failed) (name made bytes : List ℕ) (a b c : Option (List File)) → IfSome a (λ _. made ≡ name) → HeldSet name [] a b
    → Fills filled made bytes b c → (part : ℕ) × HeldSet name (take part bytes) a c
prefix_held filled name made bytes None (Some ys) c named begun fills = cc
prefix_held filled name made bytes (Some xs) b c named begun fills = prefix_of filled (subst (λ n. Fills filled n bytes b c) named fills)
  where
    prefix_of : (filled : Result ⊤ Failed) → Fills filled name bytes b c → (part : ℕ) × HeldSet name (take part bytes) (Some xs) c
    prefix_of (Ok done) fills = (length bytes, HeldSet-HeldSet name [] (take (length bytes) bytes) (Some xs) b c begun (rw (take-length bytes) fills))
    prefix_of (Err failed) fills = (fills.0, HeldSet-HeldSet name [] (take fills.0 bytes) (Some xs) b c begun fills.1)
prefix_held (Ok done) name made bytes None None c named begun fills = (0, fills)
prefix_held (Err failed) name made bytes None None c named begun fills = (0, fills.1)
