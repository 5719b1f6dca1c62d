-- What the bytes of a section are read as, where its rows are read back.
use Rattle.{sim_base.specs.Spelling.{section, u32_bytes}, sim_bytes.specs.{Numbers.u32_back, Reading.Reader, Walking.{IsAhead, row_if, section_at, skipped}}}
use Rattle.std.proofs.{Common.{ap, append_assoc, length, List, None, Option, refl, Some, ℕ, [], ◌++◌, ◌<◌, ◌^◌, ◌∙◌, ◌∷◌, ◌≡◌}, lemmas.Bool.eq-eqb}
use Rattle.std.specs.{List.{AllByRecursion, cons_option, flat_map}, Prelude.{IfSome, is_some}}

abbrev pub Back : {X : Type 0} → (X → Type 0) → (X → List ℕ) → Reader X → Type 0
Back {X} Fits spelled at = (x : X) (rest : List ℕ) → Fits x → at (spelled x ++ rest) ≡ Some (x, rest)

pub skipped_back : {X : Type 0} (Fits : X → Type 0) (spelled : X → List ℕ) (at : Reader X) → Back Fits spelled at → (xs : List X) (rest : List ℕ)
    → AllByRecursion Fits xs
    → skipped at (length xs) (flat_map spelled xs ++ rest) ≡ Some rest
unfolding skipped
skipped_back Fits spelled at back [] rest fits = refl
skipped_back Fits spelled at back (x ∷ xs) rest fits =
    ap (skipped at (length (x ∷ xs))) (append_assoc (spelled x) (flat_map spelled xs) rest) ∙ rw (back x (flat_map spelled xs ++ rest) fits.0)
    (skipped_back Fits spelled at back xs rest fits.1)

pub section_back : {X : Type 0} (Fits : X → Type 0) (spelled : X → List ℕ) (at : Reader X) → Back Fits spelled at → (tag : ℕ) (xs : List X) (rest : List ℕ)
    → AllByRecursion Fits xs → length xs < 2 ^ 32
    → section_at tag at (section tag spelled xs ++ rest) ≡ Some ((length xs, flat_map spelled xs ++ rest), rest)
unfolding section_at
section_back Fits spelled at back tag xs rest fits few =
    ap (section_at tag at) (ap (λ (x : List ℕ). tag ∷ x) (append_assoc (u32_bytes (length xs)) (flat_map spelled xs) rest))
    ∙ rw (eq-eqb tag tag refl, u32_back (length xs) (flat_map spelled xs ++ rest) few, skipped_back Fits spelled at back xs rest fits) refl

pub row_if_back : {X : Type 0} (Fits : X → Type 0) (spelled : X → List ℕ) (at : Reader X) → Back Fits spelled at → (o : Option X) (xs : List X) (bytes : List ℕ)
    → IfSome o Fits → IsAhead spelled (cons_option o xs) bytes
    → (after : List ℕ) × (row_if at (is_some o) bytes ≡ Some (o, after)) × IsAhead spelled xs after
unfolding row_if
row_if_back Fits spelled at back None xs bytes fits ahead = (bytes, refl, ahead)
row_if_back Fits spelled at back (Some x) xs bytes fits ahead = (
  flat_map spelled xs ++ ahead.rest,
  rw (ahead.is ∙ append_assoc (spelled x) (flat_map spelled xs) ahead.rest, back x (flat_map spelled xs ++ ahead.rest) fits) refl,
  record { rest = ahead.rest; is = refl },
)
