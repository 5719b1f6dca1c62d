-- Numbers of words: what a list of them has, and what one part of a text adds.
use Rattle.{sim_base.proofs.Lists.length-cons_option, sim_traits.specs.Values.{is_admitted, is_named, number_in, numbers_in}, sim_tree.specs.Tokens.is_word}
use Rattle.std.proofs.Common.{ap, append-nil, arith, Bool, drop, false, filter, get_or, inl, inr, length, length-append, List, lit≤, None, Option, refl, Some}
use Rattle.std.proofs.Common.{suc, sym, take, true, ℕ, [], ◌&&◌, ◌++◌, ◌+◌, ◌<◌, ◌∙◌, ◌∷◌, ◌≡◌, ◌≤◌, ◌⊎◌}
use Rattle.std.proofs.lemmas.{Bool.{and_parts, and_right, Decides.nat_tests}, List.Elements.{All-cons, All-nil, filter-append, filter_map-append}}
use Rattle.std.proofs.{lemmas.List.{Folds.list_all-append, Quantifiers.position-Some, take-append-drop}, Math.Seq.drop-cons}
use Rattle.std.specs.{List.{cons_option, filter_map, list_all}, Prelude.{All, nat_le, nat_lt}, Str.bytes_eq}

-- so many words, each a name, and their numbers
pub record Counted (names words : List (List ℕ)) (numbers : List ℕ) : Type 0 where
  pub few : length words ≤ 64
  pub known : list_all (is_named names) words ≡ true
  pub numbers_are : numbers ≡ filter_map (number_in names) words

pub counted_nothing : (names : List (List ℕ)) → Counted names [] []
counted_nothing names = record { few = lit≤ tt; known = refl; numbers_are = refl }

length-numbers : (names words : List (List ℕ)) → list_all (is_named names) words ≡ true → length (filter_map (number_in names) words) ≡ length words
length-numbers names [] e = refl
length-numbers names (word ∷ words) e =
    let each = and_parts (is_named names word) (list_all (is_named names) words) e in
    let more = length-numbers names words each.1 in
    let one = length-cons_option (number_in names word) (filter_map (number_in names) words) each.0 in
    omega (arith, more, one)

pub numbers_of_counted : (names words : List (List ℕ)) (numbers : List ℕ) → Counted names words numbers → numbers_in names words ≡ Some numbers
numbers_of_counted names words numbers counted =
    let few : nat_le (length words) 64 ≡ true = grind (arith, nat_tests, counted.few) in
    rw (few, counted.known, counted.numbers_are) refl

-- one word more
counted_word : (names words : List (List ℕ)) (numbers word : List ℕ) → Counted names words numbers → nat_lt (length numbers) 64 ≡ true
    → is_named names word ≡ true
    → Counted names (words ++ word ∷ []) (numbers ++ filter_map (number_in names) (word ∷ []))
counted_word names words numbers word counted room named =
    let as_many : length numbers ≡ length words = ap length counted.numbers_are ∙ length-numbers names words counted.known in
    let below : length numbers < 64 = grind (arith, nat_tests, room) in
    let known : (list_all (is_named names) words && list_all (is_named names) (word ∷ [])) ≡ true = rw (counted.known, named) refl in
    record {
      few = omega (arith, length-append words (word ∷ []));
      known = list_all-append (is_named names) words (word ∷ []) ∙ known;
      numbers_are = rw counted.numbers_are (sym (filter_map-append (number_in names) words (word ∷ [])));
    }

-- a part that is admitted
pub counted_more : (names words : List (List ℕ)) (numbers part : List ℕ) → Counted names words numbers → is_admitted names (length numbers) part ≡ true
    → Counted names (words ++ filter is_word (part ∷ [])) (numbers ++ filter_map (number_in names) (filter is_word (part ∷ [])))
counted_more names words numbers [] counted e = rw (append-nil words, append-nil numbers) counted
counted_more names words numbers (byte ∷ bytes) counted e =
    let each = and_parts (nat_lt (length numbers) 64) (is_named names (byte ∷ bytes)) e in
    counted_word names words numbers (byte ∷ bytes) counted each.0 each.1

-- one word too many, or one that is no name
not_both : (a b : Bool) → (a && b) ≡ false → (a ≡ false) ⊎ (b ≡ false)
not_both false b e = inl refl
not_both true b e = inr e

refused_word : (names words more : List (List ℕ)) (numbers word : List ℕ) → Counted names words numbers → (nat_lt (length numbers) 64 ≡ false)
    ⊎ (is_named names word ≡ false)
    → numbers_in names (words ++ word ∷ more) ≡ None
refused_word names words more numbers word counted (inl full) =
    let as_many : length numbers ≡ length words = ap length counted.numbers_are ∙ length-numbers names words counted.known in
    let above : 64 ≤ length numbers = grind (arith, nat_tests, full) in
    let more_than : 64 < length (words ++ word ∷ more) = omega (arith, length-append words (word ∷ more)) in
    let long : nat_le (length (words ++ word ∷ more)) 64 ≡ false = grind (arith, nat_tests, more_than) in
    rw long refl
refused_word names words more numbers word counted (inr unknown) =
    let some_unknown : list_all (is_named names) (words ++ word ∷ more) ≡ false =
    list_all-append (is_named names) words (word ∷ more) ∙ rw (counted.known, unknown) refl in
    rw (and_right (nat_le (length (words ++ word ∷ more)) 64) (list_all (is_named names) (words ++ word ∷ more)) some_unknown) refl

-- a part that is not
pub refused : (names words more : List (List ℕ)) (numbers part : List ℕ) → Counted names words numbers → is_admitted names (length numbers) part ≡ false
    → numbers_in names (words ++ filter is_word (part ∷ more)) ≡ None
refused names words more numbers [] counted e = cc
refused names words more numbers (byte ∷ bytes) counted e =
    refused_word names words (filter is_word more) numbers (byte ∷ bytes) counted (not_both (nat_lt (length numbers) 64) (is_named names (byte ∷ bytes)) e)

-- ---- the same of the parts of a text

pub counted_part : (names texts : List (List ℕ)) (numbers part : List ℕ) → Counted names (filter is_word texts) numbers
    → is_admitted names (length numbers) part ≡ true
    → Counted names (filter is_word (texts ++ part ∷ [])) (numbers ++ filter_map (number_in names) (filter is_word (part ∷ [])))
counted_part names texts numbers part counted e = rw (filter-append is_word texts (part ∷ []))
    (counted_more names (filter is_word texts) numbers part counted e)

pub refused_part : (names texts : List (List ℕ)) (numbers part : List ℕ) (n : ℕ) → Counted names (filter is_word (take n texts)) numbers → n < length texts
    → part ≡ get_or texts n part
    → is_admitted names (length numbers) part ≡ false → numbers_in names (filter is_word texts) ≡ None
refused_part names texts numbers part n counted below there e =
    let split : texts ≡ take n texts ++ part ∷ drop (suc n) texts =
    sym (take-append-drop n texts) ∙ ap (λ rest. take n texts ++ rest) (drop-cons texts n part below ∙ ap (λ (p : List ℕ). p ∷ drop (suc n) texts)
    (sym there)) in
    ap (λ (ts : List (List ℕ)). numbers_in names (filter is_word ts)) split
    ∙ rw (filter-append is_word (take n texts) (part ∷ drop (suc n) texts)) (refused names (filter is_word (take n texts)) (drop (suc n) texts) numbers part
    counted e)

-- ---- what numbers are within

cons_option_within : {Y : Type 0} (P : Y → Type 0) (o : Option Y) (ys : List Y) → ((y : Y) → o ≡ Some y → P y) → All P ys → All P (cons_option o ys)
cons_option_within P None ys one more = more
cons_option_within P (Some y) ys one more = All-cons P y ys (one y refl) more

numbers_below : (names words : List (List ℕ)) → All (λ n. n < length names) (filter_map (number_in names) words)
numbers_below names [] = All-nil (λ n. n < length names)
numbers_below names (word ∷ words) =
    cons_option_within (λ n. n < length names) (number_in names word) (filter_map (number_in names) words)
    (λ n e. (position-Some (bytes_eq word) names n [] e).0) (numbers_below names words)

pub numbers_within : (names words : List (List ℕ)) (numbers : List ℕ) → Counted names words numbers → (length numbers ≤ 64)
    × All (λ n. n < length names) numbers
numbers_within names words numbers counted =
    let as_many : length numbers ≡ length words = ap length counted.numbers_are ∙ length-numbers names words counted.known in
    (omega arith, rw counted.numbers_are (numbers_below names words))
