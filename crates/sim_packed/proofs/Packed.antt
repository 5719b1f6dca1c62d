-- What is packed is read back.
use Rattle.sim_packed.specs.Files.{cut_at, file_at, files_bytes, files_from, files_in, IsShortFile, IsWord, piece_at, piece_bytes, spelled_words, words_bytes}
use Rattle.std.proofs.Common.{[], All, ap, append-nil, append_assoc, arith, false, length, List, ltb, refl, Some, suc, zero, ℕ, ◌++◌, ◌<◌, ◌^◌, ◌∙◌, ◌∷◌, ◌≡◌}
use Rattle.std.proofs.lemmas.{Bool.le-ltb, Bool.ne_eqb, List.Elements.All-head, List.Elements.All-tail, List.drop_at, List.length-append, List.take_at}
use Rattle.std.{proofs.lemmas.Nat.from_le_bytes-to_le_bytes_4, specs.Prelude.reverse, specs.Prelude.◌==◌}
use Rattle.{sim_base.specs.Spelling.u32_bytes, sim_packed.specs.Files.words_in, sim_store.specs.Held.File, std.proofs.Common.◌≢◌, std.proofs.Common.◌≤◌}
use mathlib.Core.List.{reverse_aux}

-- ---- words

-- a word is read to its end
spelled_word : (word rest before : List ℕ) (done : List (List ℕ)) → All (λ byte. byte ≢ 0) word
    → spelled_words (word ++ rest) before done ≡ spelled_words rest (before ++ word) done
spelled_word [] rest before done inner = rw (append-nil before) refl
spelled_word (b ∷ word) rest before done inner =
    let other : (b == 0) ≡ false = ne_eqb b 0 (All-head (λ byte. byte ≢ 0) b word inner) in
    rw other
    (spelled_word word rest (before ++ b ∷ []) done (All-tail (λ byte. byte ≢ 0) b word inner)
    ∙ ap (λ (l : List ℕ). spelled_words rest l done) (append_assoc before (b ∷ []) word))

words_back_from : (words done : List (List ℕ)) → All IsWord words → spelled_words (words_bytes words) [] done ≡ Some (done ++ words)
words_back_from [] done are = rw (append-nil done) refl
words_back_from (word ∷ words) done are =
    let is : IsWord word = All-head IsWord word words are in
    let more : spelled_words (words_bytes words) [] (done ++ word ∷ []) ≡ Some ((done ++ word ∷ []) ++ words) =
    words_back_from words (done ++ word ∷ []) (All-tail IsWord word words are) in
    spelled_word word (0 ∷ words_bytes words) [] done is.inner ∙ rw is.utf8 (more ∙ ap Some (append_assoc done (word ∷ []) words))

pub words_back : (words : List (List ℕ)) → All IsWord words → words_in (words_bytes words) ≡ words
words_back words are = rw (words_back_from words [] are) refl

-- ---- files

cut_back : (bytes rest : List ℕ) → cut_at (length bytes) (bytes ++ rest) ≡ Some (bytes, rest)
cut_back bytes rest =
    let long : ltb (length (bytes ++ rest)) (length bytes) ≡ false = le-ltb _ _ (omega (arith, length-append bytes rest)) in
    rw (long, take_at bytes rest (length bytes) refl, drop_at bytes rest (length bytes) refl) refl

piece_back : (bytes rest : List ℕ) → length bytes < 2 ^ 32 → piece_at (piece_bytes bytes ++ rest) ≡ Some (bytes, rest)
unfolding u32_bytes
piece_back bytes rest short = rw (from_le_bytes-to_le_bytes_4 (length bytes) short) (cut_back bytes rest)

file_back : (file : File) (rest : List ℕ) → IsShortFile file → file_at (piece_bytes file.name ++ (piece_bytes file.bytes ++ rest)) ≡ Some (file, rest)
file_back file rest short =
    rw (piece_back file.name (piece_bytes file.bytes ++ rest) short.name, short.utf8, piece_back file.bytes rest short.bytes) refl

-- the bytes of a file are some
some_bytes : (file : File) (rest : List ℕ) → length rest < length (piece_bytes file.name ++ (piece_bytes file.bytes ++ rest))
unfolding u32_bytes
some_bytes file rest =
    omega (arith, length-append file.name (piece_bytes file.bytes ++ rest), length-append file.bytes rest)

-- one file more
step : (most : ℕ) (bytes rest : List ℕ) (file : File) (done : List File) → file_at bytes ≡ Some (file, rest)
    → files_from (suc most) bytes done ≡ files_from most rest (file ∷ done)
step most [] rest file done found = cc
step most (b ∷ bytes) rest file done found = rw found refl

files_back_from : (files : List File) (most : ℕ) (done : List File) → All IsShortFile files → length (files_bytes files) ≤ most
    → files_from most (files_bytes files) done ≡ Some (reverse_aux files done)
files_back_from [] most done short enough = refl
files_back_from (file ∷ files) zero done short enough = absurd (omega (arith, enough, some_bytes file (files_bytes files)))
files_back_from (file ∷ files) (suc most) done short enough =
    let fewer : length (files_bytes files) ≤ most = omega (arith, enough, some_bytes file (files_bytes files)) in
    step most (files_bytes (file ∷ files)) (files_bytes files) file done (file_back file (files_bytes files) (All-head IsShortFile file files short))
    ∙ files_back_from files most (file ∷ done) (All-tail IsShortFile file files short) fewer

pub files_back : (files : List File) → All IsShortFile files → files_in (files_bytes files) ≡ Some (reverse files)
files_back files short = files_back_from files (length (files_bytes files)) [] short (omega arith)
