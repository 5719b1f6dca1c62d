-- What holds of the records of a list, from what holds of each.
use Rattle.{sim_json.specs.Commands.{IsLeast, next_or, numbered, records}, std.proofs.Common.{All, ap, append_assoc, arith, Err, length, length-append, List}}
use Rattle.std.proofs.{Common.{None, Ok, Option, refl, Some, subst, sym, ℕ, [], ◌++◌, ◌+◌, ◌∷◌, ◌≡◌}, lemmas.List.{append-nil, Elements.All-push, length_push}}

module _ {X D : Type 0} (read : List X → D → Option X) where
  with_item : (done : List X) (d : D) (ds : List D) (i : ℕ) (x : X) → read done d ≡ Some x → IsLeast read (done ++ x ∷ []) ds i → IsLeast read done (d ∷ ds) i
  with_item done d ds i x is least = record {
    front = d ∷ least.front;
    refused = least.refused;
    back = least.back;
    made = least.made;
    whole = ap (λ es. d ∷ es) least.whole;
    place = omega (arith, least.place, length-append done (x ∷ []));
    reads = rw is least.reads;
    none = least.none;
  }

  -- the number of a refusal is the least
  pub is_least : (done : List X) (ds : List D) (i : ℕ) → numbered read done ds ≡ Err i → IsLeast read done ds i
  is_least done [] i e = absurd cc
  is_least done (d ∷ ds) i e = by (read done d) refl e (λ x. is_least (done ++ x ∷ []) ds i)
    where
      by : (o : Option X) → read done d ≡ o → next_or o (Err (length done)) (λ x. numbered read (done ++ x ∷ []) ds) ≡ Err i
          → ((x : X) → numbered read (done ++ x ∷ []) ds ≡ Err i → IsLeast read (done ++ x ∷ []) ds i) → IsLeast read done (d ∷ ds) i
      by None is e later = record {
        front = [];
        refused = d;
        back = ds;
        made = done;
        whole = refl;
        place = let same : length done ≡ i = cc in omega (arith, same);
        reads = refl;
        none = is;
      }
      by (Some x) is e later = with_item done d ds i x is (later x e)

  -- what each record keeps, beside the items that are read, holds of all
  pub numbered-keeps : (Keeps : List D → List X → Type 0)
      → ((front : List D) (done : List X) (d : D) (x : X) → read done d ≡ Some x → Keeps front done → Keeps (front ++ d ∷ []) (done ++ x ∷ []))
      → (front : List D) (done : List X) (ds : List D) (xs : List X) → numbered read done ds ≡ Ok xs → Keeps front done → Keeps (front ++ ds) xs
  numbered-keeps Keeps step front done [] xs e kept =
      let same : done ≡ xs = cc in
      subst (λ ys. Keeps (front ++ []) ys) same (subst (λ ds. Keeps ds done) (sym (append-nil front)) kept)
  numbered-keeps Keeps step front done (d ∷ ds) xs e kept =
      by (read done d) refl e (λ x. numbered-keeps Keeps step (front ++ d ∷ []) (done ++ x ∷ []) ds xs)
    where
      by : (o : Option X) → read done d ≡ o → next_or o (Err (length done)) (λ x. numbered read (done ++ x ∷ []) ds) ≡ Ok xs
          → ((x : X) → numbered read (done ++ x ∷ []) ds ≡ Ok xs → Keeps (front ++ d ∷ []) (done ++ x ∷ []) → Keeps ((front ++ d ∷ []) ++ ds) xs)
          → Keeps (front ++ d ∷ ds) xs
      by None is e later = absurd cc
      by (Some x) is e later =
          subst (λ es. Keeps es xs) (append_assoc front (d ∷ []) ds) (later x e (step front done d x is kept))

  -- a list that is read as a whole has no item that is refused
  pub numbered_from_records : (done : List X) (ds : List D) (xs : List X) → records read done ds ≡ Some xs → numbered read done ds ≡ Ok xs
  numbered_from_records done [] xs e = let same : done ≡ xs = cc in ap Ok same
  numbered_from_records done (d ∷ ds) xs e = by (read done d) e (λ x. numbered_from_records (done ++ x ∷ []) ds xs)
    where
      by : (o : Option X) → next_or o None (λ x. records read (done ++ x ∷ []) ds) ≡ Some xs
          → ((x : X) → records read (done ++ x ∷ []) ds ≡ Some xs → numbered read (done ++ x ∷ []) ds ≡ Ok xs)
          → next_or o (Err (length done)) (λ x. numbered read (done ++ x ∷ []) ds) ≡ Ok xs
      by None e later = absurd cc
      by (Some x) e later = later x e

  -- there are as many records as items
  pub numbered-length : (done : List X) (ds : List D) (xs : List X) → numbered read done ds ≡ Ok xs → length xs ≡ length done + length ds
  numbered-length done ds xs e =
      numbered-keeps (λ front ys. length ys ≡ length done + length front)
      (λ front ys d y is same. omega (arith, same, length_push ys y, length_push front d))
      [] done ds xs e (omega arith)

  -- what each record has, all have
  pub numbered-All : (P : X → Type 0) → ((done : List X) (d : D) (x : X) → read done d ≡ Some x → P x)
      → (ds : List D) (xs : List X) → numbered read [] ds ≡ Ok xs → All P xs
  numbered-All P each ds xs e =
      numbered-keeps (λ front ys. All P ys) (λ front ys d y is all. All-push P ys y all (each ys d y is)) [] [] ds xs e (λ k d within. absurd (omega arith))
