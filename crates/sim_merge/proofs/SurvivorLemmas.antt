-- A list over another one is what stays of the lower words, and then the upper words that survive.
use Rattle.sim_merge.proofs.Common.{list_any, removes, survivors, sym, true≢false, with_added, with_word, without, ◌∙◌}
use Rattle.sim_merge.proofs.Common.{refl, ap, append-nil, AreChanges, bytes_eq-Decides, false_from_ne_true, filter-append, filter_agree, including, is_removal}
use Rattle.sim_merge.proofs.Common.{◌≡◌, ℕ, Bool, true, false, cond, not, ◌||◌, List, [], ◌∷◌, ◌++◌, map, reverse, drop, if◌then◌else◌, bytes_eq, fold, filter}

-- the words that a test does not pass
abbrev staying : (List ℕ → Bool) → List (List ℕ) → List (List ℕ)
staying gone words = filter (λ word. not (gone word)) words

-- ---- a removal

staying_here : (gone : List ℕ → Bool) (x : List ℕ) (both one : List (List ℕ)) → both ≡ staying gone one → (is : Bool) →
    cond (not (is || gone x)) (x ∷ both) both ≡ staying gone (cond (not is) (x ∷ one) one)
staying_here gone x both one later true = later
staying_here gone x both one later false = ap (λ words. cond (not (gone x)) (x ∷ words) words) later

-- what stays where one word more is taken away
staying_twice : (d : List ℕ) (gone : List ℕ → Bool) (words : List (List ℕ)) → staying (λ word. bytes_eq word d || gone word) words ≡ staying gone
    (without d words)
staying_twice d gone [] = refl
staying_twice d gone (x ∷ xs) = staying_here gone x _ (without d xs) (staying_twice d gone xs) (bytes_eq x d)

staying_all : (words : List (List ℕ)) → staying (λ word. false) words ≡ words
staying_all [] = refl
staying_all (x ∷ xs) = ap (λ words. x ∷ words) (staying_all xs)

-- ---- a word that is added

-- an added word that is taken away further on leaves nothing
including_gone : (gone : List ℕ → Bool) (t : List ℕ) (words : List (List ℕ)) → gone t ≡ true → staying gone (including t words) ≡ staying gone words
including_gone gone t words is = by (list_any (bytes_eq t) words)
  where
    by : (b : Bool) → staying gone (if b then words else words ++ t ∷ []) ≡ staying gone words
    by true = refl
    by false = filter-append (λ word. not (gone word)) words (t ∷ []) ∙ ap (λ b. staying gone words ++ cond (not b) (t ∷ []) []) is ∙
        append-nil (staying gone words)

differs : (gone : List ℕ → Bool) (t x : List ℕ) → gone t ≡ false → gone x ≡ true → bytes_eq t x ≡ false
differs gone t x stays goes = false_from_ne_true (bytes_eq t x) (λ h. true≢false (sym goes ∙ ap gone (sym ((bytes_eq-Decides t x).0 h)) ∙ stays))

any_here : (gone : List ℕ → Bool) (t x : List ℕ) (xs : List (List ℕ)) → gone t ≡ false → list_any (bytes_eq t) (staying gone xs) ≡ list_any (bytes_eq t) xs →
    (b : Bool) → gone x ≡ b → list_any (bytes_eq t) (cond (not b) (x ∷ staying gone xs) (staying gone xs)) ≡ (bytes_eq t x || list_any (bytes_eq t) xs)
any_here gone t x xs stays later true goes = later ∙ ap (λ a. a || list_any (bytes_eq t) xs) (sym (differs gone t x stays goes))
any_here gone t x xs stays later false goes = ap (λ a. bytes_eq t x || a) later

-- a word that stays is in what stays where it is in the list
any_staying : (gone : List ℕ → Bool) (t : List ℕ) (words : List (List ℕ)) → gone t ≡ false → list_any (bytes_eq t) (staying gone words) ≡ list_any (bytes_eq t)
    words
any_staying gone t [] stays = refl
any_staying gone t (x ∷ xs) stays = any_here gone t x xs stays (any_staying gone t xs stays) (gone x) refl

-- an added word that stays may as well be added to what stays
including_staying : (gone : List ℕ → Bool) (t : List ℕ) (words : List (List ℕ)) → gone t ≡ false → staying gone (including t words) ≡ including t
    (staying gone words)
including_staying gone t words stays =
    by (list_any (bytes_eq t) words) ∙ ap (λ b. if b then staying gone words else staying gone words ++ t ∷ []) (sym (any_staying gone t words stays))
  where
    by : (b : Bool) → staying gone (if b then words else words ++ t ∷ []) ≡ (if b then staying gone words else staying gone words ++ t ∷ [])
    by true = refl
    by false = filter-append (λ word. not (gone word)) words (t ∷ []) ∙ ap (λ b. staying gone words ++ cond (not b) (t ∷ []) []) stays

-- ---- the whole list

word_first : (t : List ℕ) (ts : List (List ℕ)) →
    ((lower : List (List ℕ)) → fold with_word lower ts ≡ fold with_added (staying (removes ts) lower) (survivors ts)) →
    (lower : List (List ℕ)) (takes goes : Bool) → removes ts t ≡ goes →
    fold with_word (if takes then without (drop 1 t) lower else including t lower) ts
    ≡ fold with_added (staying (λ word. list_any (bytes_eq word) (map (drop 1) (if takes then t ∷ filter is_removal ts else filter is_removal ts))) lower)
    (if takes || goes then survivors ts else t ∷ survivors ts)
word_first t ts later lower true goes is = later (without (drop 1 t) lower) ∙ ap (λ found. fold with_added found (survivors ts))
    (sym (staying_twice (drop 1 t) (removes ts) lower))
word_first t ts later lower false true is = later (including t lower) ∙ ap (λ found. fold with_added found (survivors ts))
    (including_gone (removes ts) t lower is)
word_first t ts later lower false false is = later (including t lower) ∙ ap (λ found. fold with_added found (survivors ts))
    (including_staying (removes ts) t lower is)

-- each upper word in turn leaves what stays of the lower words, with the upper words that survive
words_by_survivors : (upper lower : List (List ℕ)) → fold with_word lower upper ≡ fold with_added (filter (λ word. not (removes upper word)) lower)
    (survivors upper)
words_by_survivors [] lower = sym (staying_all lower)
words_by_survivors (t ∷ ts) lower = word_first t ts (words_by_survivors ts) lower (is_removal t) (removes ts t) refl

-- the same from the words that are added, last first, and a test for those that are taken away
pub words_by_changes : (upper lower added : List (List ℕ)) (is_removed : List ℕ → Bool) → AreChanges added is_removed upper →
    fold with_added (filter (λ word. not (is_removed word)) lower) (reverse added) ≡ fold with_word lower upper
words_by_changes upper lower added is_removed changes =
    ap (fold with_added (filter (λ word. not (is_removed word)) lower)) changes.0
    ∙ ap (λ words. fold with_added words (survivors upper)) (filter_agree (λ word. not (is_removed word)) (λ word. not (removes upper word))
    (λ word. ap not (changes.1 word)) lower)
    ∙ sym (words_by_survivors upper lower)
