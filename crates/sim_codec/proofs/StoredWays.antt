-- A way whose points stand partly in memory and partly in bytes.
use Rattle.std.proofs.lemmas.List.Elements.{All-append, All-map}
use Rattle.sim_codec.proofs.Common.{arith, false≢true, length-append, length-map, sym, ◌∙◌, ◌≡◌, ◌+◌, ◌≤◌, Bool, true, false, ◌↔◌, List, [], ◌∷◌, ◌++◌, map}
use Rattle.sim_codec.proofs.Common.{length, IsTrue, All, All-from_recursion, AllByRecursion, recursion_from_All}

apart : {X : Type 0} (P : X → Type 0) (xs ys : List X) → AllByRecursion P (xs ++ ys) → AllByRecursion P xs × AllByRecursion P ys
apart P [] ys h = (tt, h)
apart P (x ∷ xs) ys h = let r = apart P xs ys h.1 in ((h.0, r.0), r.1)

unmapped : {X Y : Type 0} (P : X → Type 0) (f : Y → X) (ys : List Y) → AllByRecursion P (map f ys) → AllByRecursion (λ y. P (f y)) ys
unmapped P f [] h = tt
unmapped P f (y ∷ ys) h = (h.0, unmapped P f ys h.1)

module _ {X Y : Type 0} (P : X → Type 0) (f : Y → X) (xs : List X) (ys : List Y) where
  front : All P (xs ++ map f ys) → All P xs
  front h = All-from_recursion P xs (apart P xs (map f ys) (recursion_from_All P (xs ++ map f ys) h)).0

  behind : All P (xs ++ map f ys) → All (λ y. P (f y)) ys
  behind h = All-from_recursion (λ y. P (f y)) ys (unmapped P f ys (apart P xs (map f ys) (recursion_from_All P (xs ++ map f ys) h)).1)

  few : length xs + length ys ≤ 64 → length (xs ++ map f ys) ≤ 64
  few h = omega (arith, h, length-append xs (map f ys), length-map ys f)

  pub no_way : (answer : Bool) → (IsTrue answer ↔ All P xs) → answer ≡ false → IsTrue false ↔ (All P (xs ++ map f ys) × (length (xs ++ map f ys) ≤ 64))
  no_way answer says no' = (λ h. absurd (false≢true h), λ h. absurd (false≢true (sym no' ∙ says.1 (front h.0))))

  pub whole_way : (answer last : Bool) → length xs + length ys ≤ 64 → (IsTrue answer ↔ All P xs) → answer ≡ true → (IsTrue last ↔ All (λ y. P (f y)) ys)
      → IsTrue last ↔ (All P (xs ++ map f ys) × (length (xs ++ map f ys) ≤ 64))
  whole_way answer last short says yes' rest =
      (λ h. (All-append P xs (map f ys) (says.0 yes') (All-map P f ys (rest.0 h)), few short), λ h. rest.1 (behind h.0))
