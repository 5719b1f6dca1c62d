-- A set of texts, and what it has once a text is put in.
use Rattle.sim_merge.proofs.Common.{ap, Bool, bytes_eq, cond, false, List, nat_cmp, not, refl, slice_cmp, String, sym, true, UpdatesBy, ℕ, ◌&&◌, ◌||◌, ◌∙◌, ◌≡◌}
use Rattle.sim_merge.proofs.Common.{btree_set_updates_text, BTreeSet, bytes_eq-Decides, contains_text, false_from_ne_true, string_bytes, string_cmp, true≢false}

-- ---- equal bytes, and the cases of a change

bytes_eq-swap : (xs ys : List ℕ) → bytes_eq xs ys ≡ bytes_eq ys xs
bytes_eq-swap xs ys = by (bytes_eq xs ys) refl
  where
    by : (b : Bool) → bytes_eq xs ys ≡ b → b ≡ bytes_eq ys xs
    by true is = sym ((bytes_eq-Decides ys xs).1 (sym ((bytes_eq-Decides xs ys).0 is)))
    by false is = sym (false_from_ne_true (bytes_eq ys xs) (λ h. true≢false (sym ((bytes_eq-Decides xs ys).1 (sym ((bytes_eq-Decides ys xs).0 h))) ∙ is)))

cond_and : (a b : Bool) → cond a false b ≡ (b && not a)
cond_and true true = refl
cond_and true false = refl
cond_and false true = refl
cond_and false false = refl

cond_or : (a b : Bool) → cond a true b ≡ (a || b)
cond_or true b = refl
cond_or false b = refl

-- ---- a text more

-- a set has a text that was put in, and what it had
pub contains_after : {Y : Type 0} (bytes : List ℕ) (old new : BTreeSet (String Y)) →
    UpdatesBy string_cmp (λ key. slice_cmp nat_cmp bytes (string_bytes key)) old new true →
    (other : List ℕ) → contains_text new other ≡ (bytes_eq other bytes || contains_text old other)
contains_after bytes old new updates other =
    btree_set_updates_text bytes old new true updates other
    ∙ cond_or (bytes_eq bytes other) (contains_text old other)
    ∙ ap (λ b. b || contains_text old other) (bytes_eq-swap bytes other)

-- ---- a text less

-- a set has what it had, without a text that was taken out
pub contains_left : {Y : Type 0} (bytes : List ℕ) (old new : BTreeSet (String Y)) →
    UpdatesBy string_cmp (λ key. slice_cmp nat_cmp bytes (string_bytes key)) old new false →
    (other : List ℕ) → contains_text new other ≡ (contains_text old other && not (bytes_eq other bytes))
contains_left bytes old new updates other =
    btree_set_updates_text bytes old new false updates other
    ∙ cond_and (bytes_eq bytes other) (contains_text old other)
    ∙ ap (λ b. contains_text old other && not b) (bytes_eq-swap bytes other)
