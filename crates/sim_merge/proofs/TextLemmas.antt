-- Texts in a set beside the list of their bytes.
use Rattle.sim_merge.proofs.Common.{prefix_len, subst, sym, true≢false, ◌∙◌}
use Rattle.sim_merge.proofs.Common.{position, String, refl, ap, append_assoc, are_distinct, bytes_eq-Decides, false_from_ne_true, Global, insert_key, list_any}
use Rattle.sim_merge.proofs.Common.{◌≡◌, ℕ, suc, ◌+◌, Bool, true, false, cond, not, ◌||◌, List, [], ◌∷◌, ◌++◌, map, length, string_bytes, string_eq, bytes_eq}
use Rattle.{sim_base.proofs.Tests.left_true, sim_base.proofs.Tests.right_true, std.proofs.lemmas.Bool.not-true}

-- the bytes of each text
abbrev pub texts_of : List (String Global) → List (List ℕ)
texts_of texts = map string_bytes texts

pub length-texts_of : (keys : List (String Global)) → length (texts_of keys) ≡ length keys
length-texts_of [] = refl
length-texts_of (k ∷ keys) = ap suc (length-texts_of keys)

prefix_len-texts_of : (name : List ℕ) (keys : List (String Global)) →
    prefix_len (λ x. not (bytes_eq name x)) (texts_of keys) ≡ prefix_len (λ k. not (bytes_eq name (string_bytes k))) keys
prefix_len-texts_of name [] = refl
prefix_len-texts_of name (k ∷ keys) = ap (λ n. cond (not (bytes_eq name (string_bytes k))) (1 + n) 0) (prefix_len-texts_of name keys)

-- the place of a name among the texts is that among their bytes
pub position-texts_of : (name : List ℕ) (keys : List (String Global)) →
    position (λ k. bytes_eq name (string_bytes k)) keys ≡ position (bytes_eq name) (texts_of keys)
position-texts_of name keys = rw (prefix_len-texts_of name keys, length-texts_of keys)

-- ---- names that differ

differ_sym : (xs ys : List ℕ) → bytes_eq xs ys ≡ false → bytes_eq ys xs ≡ false
differ_sym xs ys e = false_from_ne_true (bytes_eq ys xs) (λ h. true≢false (sym ((bytes_eq-Decides xs ys).1 (sym ((bytes_eq-Decides ys xs).0 h))) ∙ e))

or_left : (a b : Bool) → (a || b) ≡ false → a ≡ false
or_left true b e = e
or_left false b e = refl

or_right : (a b : Bool) → (a || b) ≡ false → b ≡ false
or_right true b e = absurd (true≢false e)
or_right false b e = e

differs_from : (d name : List ℕ) (done rest : List (List ℕ)) → list_any (bytes_eq d) (done ++ name ∷ rest) ≡ false → bytes_eq d name ≡ false
differs_from d name [] rest e = or_left (bytes_eq d name) (list_any (bytes_eq d) rest) e
differs_from d name (x ∷ done) rest e = differs_from d name done rest (or_right (bytes_eq d x) _ e)

-- a name of distinct ones is not among those before it
fresh : (done : List (List ℕ)) (name : List ℕ) (rest : List (List ℕ)) → are_distinct (done ++ name ∷ rest) ≡ true → list_any (bytes_eq name) done ≡ false
fresh [] name rest e = refl
fresh (d ∷ done) name rest e =
    let here : bytes_eq name d ≡ false =
    differ_sym d name (differs_from d name done rest (not-true _ (left_true (not (list_any (bytes_eq d) (done ++ name ∷ rest))) _ e))) in
    let later : list_any (bytes_eq name) done ≡ false = fresh done name rest (right_true (not (list_any (bytes_eq d) (done ++ name ∷ rest))) _ e) in
    rw (here, later)

list_any-texts_of : (k : String Global) (keys : List (String Global)) → list_any (string_eq k) keys ≡ list_any (bytes_eq (string_bytes k)) (texts_of keys)
list_any-texts_of k [] = refl
list_any-texts_of k (x ∷ keys) = ap (λ b. bytes_eq (string_bytes k) (string_bytes x) || b) (list_any-texts_of k keys)

texts_of-push : (keys : List (String Global)) (k : String Global) → texts_of (keys ++ k ∷ []) ≡ texts_of keys ++ string_bytes k ∷ []
texts_of-push [] k = refl
texts_of-push (x ∷ keys) k = ap (λ ts. string_bytes x ∷ ts) (texts_of-push keys k)

-- a name that differs from those before it goes last
pub goes_last : (names : List (List ℕ)) (keys : List (String Global)) (k : String Global) (more : List (List ℕ)) → are_distinct names ≡ true →
    names ≡ texts_of keys ++ string_bytes k ∷ more → names ≡ texts_of (insert_key string_eq keys k) ++ more
goes_last names keys k more distinct made =
    let new : list_any (string_eq k) keys ≡ false = list_any-texts_of k keys ∙ fresh (texts_of keys) (string_bytes k) more
    (subst (λ ns. are_distinct ns ≡ true) made distinct) in
    made ∙ rw (new, texts_of-push keys k) (sym (append_assoc (texts_of keys) (string_bytes k ∷ []) more))
