-- A set of what a list lacks of some words, while one word after another is put behind the list.
use Rattle.{sim_base.proofs.Tests.or_false, sim_merge.proofs.Common.{ap, Bool, bytes_eq, bytes_eq-Decides, false, if◌then◌else◌, including, List, list_any}}
use Rattle.sim_merge.proofs.Common.{list_any-append, not, refl, sym, TellsLacking, true, ℕ, [], ◌&&◌, ◌++◌, ◌||◌, ◌∙◌, ◌∷◌, ◌≡◌}

-- ---- whether a word is in a list

or_true : (a : Bool) → (a || true) ≡ true
or_true true = refl
or_true false = refl

any_last : (o w : List ℕ) (words : List (List ℕ)) → list_any (bytes_eq o) (words ++ w ∷ []) ≡ (list_any (bytes_eq o) words || bytes_eq o w)
any_last o w words = list_any-append (bytes_eq o) words (w ∷ []) ∙ ap (λ b. list_any (bytes_eq o) words || b) (or_false (bytes_eq o w))

any_including : (o w : List ℕ) (found : List (List ℕ)) → list_any (bytes_eq o) (including w found) ≡ (list_any (bytes_eq o) found || bytes_eq o w)
any_including o w found = by (list_any (bytes_eq w) found) refl
  where
    here : list_any (bytes_eq w) found ≡ true → (e : Bool) → bytes_eq o w ≡ e → list_any (bytes_eq o) found ≡ (list_any (bytes_eq o) found || e)
    here is false e = sym (or_false (list_any (bytes_eq o) found))
    here is true e =
        let found_here : list_any (bytes_eq o) found ≡ true = ap (λ x. list_any (bytes_eq x) found) ((bytes_eq-Decides o w).0 e) ∙ is in
        found_here ∙ sym (or_true (list_any (bytes_eq o) found))

    by : (b : Bool) → list_any (bytes_eq w) found ≡ b → list_any (bytes_eq o) (if b then found else found ++ w ∷ []) ≡
        (list_any (bytes_eq o) found || bytes_eq o w)
    by true is = here is (bytes_eq o w) refl
    by false is = any_last o w found

-- ---- a word that is taken out of the set, and put behind the list if it was there

taken : (m e f : Bool) → (((m || e) && not f) && not e) ≡ (m && not (f || e))
taken true true true = refl
taken true true false = refl
taken true false true = refl
taken true false false = refl
taken false true true = refl
taken false true false = refl
taken false false true = refl
taken false false false = refl

pub lacking_rest : (test left : List ℕ → Bool) (w : List ℕ) (more found : List (List ℕ)) → TellsLacking test (more ++ w ∷ []) found →
    ((o : List ℕ) → left o ≡ (test o && not (bytes_eq o w))) → TellsLacking left more (including w found)
lacking_rest test left w more found tells leaves o =
    leaves o
    ∙ ap (λ b. b && not (bytes_eq o w)) (tells o ∙ ap (λ b. b && not (list_any (bytes_eq o) found)) (any_last o w more))
    ∙ taken (list_any (bytes_eq o) more) (bytes_eq o w) (list_any (bytes_eq o) found)
    ∙ ap (λ b. list_any (bytes_eq o) more && not b) (sym (any_including o w found))

pub lacking_put : (test : List ℕ → Bool) (w : List ℕ) (b : Bool) (more found : List (List ℕ)) → test w ≡ b → TellsLacking test (more ++ w ∷ []) found →
    (if b then found ++ w ∷ [] else found) ≡ including w found
lacking_put test w b more found told tells = ap (λ b. if b then found ++ w ∷ [] else found) (sym told ∙ is) ∙ by (list_any (bytes_eq w) found)
  where
    is : test w ≡ not (list_any (bytes_eq w) found)
    is = tells w ∙ ap (λ b. b && not (list_any (bytes_eq w) found))
        (any_last w w more ∙ ap (λ b. list_any (bytes_eq w) more || b) ((bytes_eq-Decides w w).1 refl) ∙ or_true (list_any (bytes_eq w) more))

    by : (b : Bool) → (if not b then found ++ w ∷ [] else found) ≡ (if b then found else found ++ w ∷ [])
    by true = refl
    by false = refl
