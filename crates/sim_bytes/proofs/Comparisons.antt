-- A comparison goes on.
use Rattle.{sim_bytes.specs.Telling.Compared, std.proofs.Common.{ap, append_assoc, arith, Bool, drop, eqb, false, length, List, refl, sym, take, true, ℕ, []}}
use Rattle.std.proofs.{Common.{◌++◌, ◌<◌, ◌∙◌, ◌∷◌, ◌≡◌}, lemmas.{Bool.{Decides.Decides-eqb, eqb-true, false≢true}, List.{append-nil, append_cancel_left}}}
use Rattle.std.{proofs.lemmas.{List.{length-append, take-append-drop, take_at}, Slice.Eq.slice_eq-Decides}, specs.{Bool.Decides, Cmp.Lexicographic.pointwise}}

pub compared_more : (wanted rest bytes told front back : List ℕ) (same : Bool) → same ≡ pointwise eqb front bytes → front ≡ take (length bytes) rest
    → back ≡ drop (length bytes) rest
    → wanted ≡ told ++ rest → Compared wanted back same (told ++ bytes)
compared_more wanted rest bytes told front back same test front-is back-is so_far = record {
  so_far = λ e. so_far ∙ ap (λ (x : List ℕ). told ++ x) (parts (both.0 e)) ∙ sym (append_assoc told bytes back);
  differs = λ e more other. false≢true (sym e ∙ both.1 (front_from more other));
}
  where
    both : Decides same (front ≡ bytes)
    both = slice_eq-Decides Decides-eqb front bytes same test

    parts : front ≡ bytes → rest ≡ bytes ++ back
    parts e = sym (take-append-drop (length bytes) rest) ∙ rw (← front-is, ← back-is, e) refl

    front_from : (more : List ℕ) → wanted ≡ (told ++ bytes) ++ more → front ≡ bytes
    front_from more other =
        let tail : rest ≡ bytes ++ more = append_cancel_left told rest (bytes ++ more) (sym so_far ∙ other ∙ append_assoc told bytes more) in
        front-is ∙ ap (take (length bytes)) tail ∙ take_at bytes more (length bytes) refl

pub too_long : (wanted rest bytes told : List ℕ) → length rest < length bytes → wanted ≡ told ++ rest → Compared wanted rest false (told ++ bytes)
too_long wanted rest bytes told short so_far = record {
  so_far = λ e. absurd (false≢true e);
  differs = λ e more other.
      let tail : rest ≡ bytes ++ more = append_cancel_left told rest (bytes ++ more) (sym so_far ∙ other ∙ append_assoc told bytes more) in
      omega (arith, ap length tail, length-append bytes more);
}

pub ended : (wanted rest told : List ℕ) (empty : Bool) → empty ≡ eqb (length rest) 0 → wanted ≡ told ++ rest → (empty ≡ true → wanted ≡ told)
    × (wanted ≡ told → empty ≡ true)
ended wanted [] told empty test so_far = (λ e. so_far ∙ append-nil told, λ e. test)
ended wanted (x ∷ rest) told empty test so_far = (
  λ e. absurd (omega (arith, eqb-true (length (x ∷ rest)) 0 (sym test ∙ e))),
  λ e. absurd
      (omega (arith, ap length (sym e ∙ so_far), length-append told (x ∷ rest))),
)
