-- A printed number reads back as itself: its text has the digits of the whole metres, a point and five digits more, and
-- five digits, rounded up, tell each unit of 1/65536 from the next.
use Rattle.sim_base.specs.NumberText.{are_digits, five_digits, fraction_text, in_range, is_digit, is_point, magnitude_of, magnitude_text, number_of}
use Rattle.{sim_base.specs.NumberText.{raw_of_digits, text_of}, std.proofs.Common.{ap, append-nil, arith, Bool, cond, drop, eqb, false, get_or, leb, length}}
use Rattle.std.proofs.Common.{List, ltb, neg_ℤ, negsuc, None, not, Option, pos, refl, replicate, rules, Some, suc, take, true, zero, ℕ, ℤ, [], ◌%◌, ◌&&◌, ◌*◌}
use Rattle.std.proofs.{Common.{◌++◌, ◌+◌, ◌-◌, ◌/◌, ◌<◌, ◌==◌, ◌^◌, ◌||◌, ◌∙◌, ◌∷◌, ◌≡◌, ◌≤◌}, lemmas.Bool.{and_from, and_left, and_parts, and_right}}
use Rattle.std.proofs.lemmas.Bool.{cond-false, cond-true, Decides.nat_tests, eqb-true, le-leb, le-ltb, leb-true, lt-ltb, ne_eqb, not_from_false, or_from}
use Rattle.std.proofs.lemmas.{Bool.{or_left, or_right}, Fmt.{decimal_nonempty, digits_decimal, digits_value-decimal, length-decimal-le}, Int.ints}
use Rattle.std.proofs.lemmas.List.{drop-replicate, drop_all, Folds.{list_all-append, list_any-append}, length-append, length-replicate, take_all, take_more}
use Rattle.std.proofs.lemmas.{Nat.{div_below, mul-le}, Str.{digit_value_digit, Parse.{digit_at, IsNumeralModel, numerals_by_value}}}
use Rattle.std.proofs.Math.{Nat.{pow-le-pow_right, pow-succ'}, Seq.{drop-append-add, take-append_seam}}
use Rattle.std.specs.{Char.digit_value, Int.{div_ceil, IsInRange, w32}, List.{after_first, before_first, list_all, list_any, position, position_or_len}}
use Rattle.std.specs.{List.starts_with, Prelude.{codes, decimal, FitsSigned, nat_eq, option_and_then}, Str.Parse.{digits_value, digits_value_after}}

-- Digits of a text: their value, one digit at a time; how large a raw they spell; and where the point stands among them.

-- ---- the value of digits

-- the digits here are those of std, and so is their value
pub are_numerals : IsNumeralModel (λ ds. list_all is_digit ds ≡ true) (digits_value 10)
are_numerals = numerals_by_value _ (search rules)

pub digits_value_after-append : (n : ℕ) (xs ys : List ℕ) → digits_value_after 10 n (xs ++ ys) ≡ digits_value_after 10 (digits_value_after 10 n xs) ys
digits_value_after-append n [] ys = refl
digits_value_after-append n (x ∷ xs) ys = digits_value_after-append (n * 10 + digit_value x) xs ys

-- the next digit, and what it adds
pub record NextDigit (n : ℕ) (ds : List ℕ) (i : ℕ) : Type 0 where
  pub low : 48 ≤ get_or ds i 0
  pub high : get_or ds i 0 ≤ 57
  pub value : digits_value_after 10 n (take (i + 1) ds) ≡ digits_value_after 10 n (take i ds) * 10 + (get_or ds i 0 - 48)

pub next_digit : (n : ℕ) (ds : List ℕ) (i : ℕ) → list_all is_digit ds ≡ true → i < length ds → NextDigit n ds i
next_digit n ds i digits h =
    let c = get_or ds i 0 in
    let range : IsInRange 48 57 c = digit_at ds i (are_numerals.to ds digits) h in
    let more : digits_value_after 10 n (take (i + 1) ds) ≡ digits_value_after 10 n (take i ds) * 10 + digit_value c
    = ap (digits_value_after 10 n) (take_more ds i 0 h) ∙ digits_value_after-append n (take i ds) (c ∷ []) in
    record { low = range.0; high = range.1; value = omega (arith, more, digit_value_digit c range) }

-- one digit more, and the bound is ten times as much
pub digit_more_small : (n value digit i : ℕ) → value < (n + 1) * 10 ^ i → digit ≤ 9 → value * 10 + digit < (n + 1) * 10 ^ (i + 1)
digit_more_small n value digit i h l = let e : i + 1 ≡ suc i = omega arith in rw (e, pow-succ' 10 i) (omega arith)

-- so sixteen digits stay below their bound
pub digit_more_fits : (n value digit i len : ℕ) → value < (n + 1) * 10 ^ i → digit ≤ 9 → i < len → (n + 1) * 10 ^ len ≤ 10 ^ 16 → value * 10 + digit < 10 ^ 16
digit_more_fits n value digit i len h l inside room =
    omega (
      arith,
      digit_more_small n value digit i h l,
      mul-le (n + 1) (10 ^ (i + 1)) (n + 1) (10 ^ len) (omega arith)
          (pow-le-pow_right {n = 10} (omega arith) {i = i + 1} {j = len} (omega arith)),
    )

-- ---- how large a raw is

pub few_digits : (most : ℕ) (ds : List ℕ) → are_digits most ds ≡ true → length ds ≤ most
few_digits most ds e = leb-true (length ds) most
    (and_parts (leb 1 (length ds)) (leb (length ds) most) (and_parts (leb 1 (length ds) && leb (length ds) most) (list_all is_digit ds) e).0).1

-- ten digits and six more have room
pub sixteen_digits : (whole before behind : ℕ) → whole < (0 + 1) * 10 ^ before → before ≤ 10 → behind ≤ 6 → (whole + 1) * 10 ^ behind ≤ 10 ^ 16
sixteen_digits whole before behind h few more =
    mul-le (whole + 1) (10 ^ behind) (10 ^ 10) (10 ^ 6) (omega (arith, pow-le-pow_right {n = 10} (omega arith) few))
    (pow-le-pow_right {n = 10} (omega arith) more)

-- ten digits before the point spell a raw below ten thousand million metres
pub raw_small : (whole value before behind : ℕ) → whole < (0 + 1) * 10 ^ before → before ≤ 10 → value < (whole + 1) * 10 ^ behind
    → value * 65536 / 10 ^ behind < 2 ^ 62
raw_small whole value before behind h few l =
    let positive : 0 < 10 ^ behind = pow-le-pow_right {n = 10} (omega arith) {i = 0} {j = behind} (omega arith) in
    let most : (whole + 1) * 10 ^ behind ≤ 10 ^ 10 * 10 ^ behind = mul-le (whole + 1) (10 ^ behind) (10 ^ 10) (10 ^ behind)
    (omega (arith, pow-le-pow_right {n = 10} (omega arith) few)) (omega arith) in
    omega (arith, div_below (value * 65536) (10 ^ behind) (10 ^ 10 * 65536) positive (omega arith))

-- ---- where the point is

-- a list has a member that passes where the first one stands within it
list_any-position : {X : Type 0} (p : X → Bool) (xs : List X) → list_any p xs ≡ ltb (position_or_len p xs) (length xs)
list_any-position p [] = refl
list_any-position p (x ∷ xs) = by (p x) (list_any-position p xs)
  where
    by : (t : Bool) → list_any p xs ≡ ltb (position_or_len p xs) (length xs) → (t || list_any p xs) ≡ ltb (cond (not t) (1 + position_or_len p xs) 0)
        (suc (length xs))
    by true ih = grind (arith, nat_tests)
    by false ih = grind (arith, nat_tests)

position_or_len-le : {X : Type 0} (p : X → Bool) (xs : List X) → position_or_len p xs ≤ length xs
position_or_len-le p [] = omega arith
position_or_len-le p (x ∷ xs) = by (p x) (position_or_len-le p xs)
  where
    by : (t : Bool) → position_or_len p xs ≤ length xs → cond (not t) (1 + position_or_len p xs) 0 ≤ suc (length xs)
    by true ih = omega arith
    by false ih = omega arith

-- a text has these digits before its point and those behind it, or it has no point
pub record Splits (text before behind : List ℕ) (pointed : Bool) : Type 0 where
  pub before_is : before_first is_point text ≡ before
  pub behind_is : after_first is_point text ≡ behind
  pub pointed_is : list_any is_point text ≡ pointed

pub Splits-whole : (text : List ℕ) → position is_point text ≡ None → Splits text text [] false
Splits-whole text none =
    let ends : length text ≤ position_or_len is_point text = grind (arith, nat_tests) in
    let place : position_or_len is_point text ≡ length text = omega (arith, position_or_len-le is_point text) in
    record {
      before_is = take_all _ text (omega arith);
      behind_is = drop_all _ text (omega arith);
      pointed_is = list_any-position is_point text ∙ le-ltb _ _ ends;
    }

pub Splits-at : (text : List ℕ) (at : ℕ) → position is_point text ≡ Some at → Splits text (take at text) (drop (at + 1) text) true
Splits-at text at some =
    let inside : position_or_len is_point text < length text = grind (arith, nat_tests) in
    let place : position_or_len is_point text ≡ at = grind (arith, nat_tests) in
    record {
      before_is = ap (λ (n : ℕ). take n text) place;
      behind_is = ap (λ (n : ℕ). drop (n + 1) text) place;
      pointed_is = list_any-position is_point text ∙ lt-ltb _ _ inside;
    }

-- the magnitude, by the parts of the text
magnitude_by : List ℕ → List ℕ → Bool → Option ℕ
magnitude_by before behind pointed = cond (are_digits 10 before && (are_digits 6 behind || not pointed)) (Some (raw_of_digits before behind)) None

magnitude_of-Splits : (text before behind : List ℕ) (pointed : Bool) → Splits text before behind pointed → magnitude_of text ≡ magnitude_by before behind
    pointed
unfolding magnitude_by
magnitude_of-Splits text before behind pointed s =
    ap (λ (xs : List ℕ). magnitude_by xs (after_first is_point text) (list_any is_point text)) s.before_is
    ∙ ap (λ (xs : List ℕ). magnitude_by before xs (list_any is_point text)) s.behind_is
    ∙ ap (λ (b : Bool). magnitude_by before behind b) s.pointed_is

pub magnitude_of-whole : (text : List ℕ) → position is_point text ≡ None → are_digits 10 text ≡ true → magnitude_of text ≡ Some (raw_of_digits text [])
unfolding magnitude_by
magnitude_of-whole text none digits = magnitude_of-Splits text text [] false (Splits-whole text none) ∙
    cond-true _ _ _ (and_from (are_digits 10 text) true digits refl)

pub magnitude_of-pointed : (text before behind : List ℕ) → Splits text before behind true → are_digits 10 before ≡ true → are_digits 6 behind ≡ true
    → magnitude_of text ≡ Some (raw_of_digits before behind)
unfolding magnitude_by
magnitude_of-pointed text before behind s whole rest =
    magnitude_of-Splits text before behind true s ∙
    cond-true _ _ _ (and_from (are_digits 10 before) (are_digits 6 behind || false) whole (or_left (are_digits 6 behind) false rest))

pub magnitude_of-refused : (text : List ℕ) (at : ℕ) → position is_point text ≡ Some at → are_digits 6 (drop (at + 1) text) ≡ false → magnitude_of text ≡ None
unfolding magnitude_by
magnitude_of-refused text at some digits =
    magnitude_of-Splits text (take at text) (drop (at + 1) text) true (Splits-at text at some)
    ∙ cond-false _ _ _ (and_right (are_digits 10 (take at text)) _ (or_from (are_digits 6 (drop (at + 1) text)) false digits refl))

-- ---- the value of digits

-- a number before digits counts by their weight
digits_value_after_is : (n : ℕ) (ds : List ℕ) → digits_value_after 10 n ds ≡ n * 10 ^ length ds + digits_value 10 ds
digits_value_after_is n [] = omega arith
digits_value_after_is n (d ∷ ds) =
    rw (pow-succ' 10 (length ds)) (omega (arith, digits_value_after_is (n * 10 + digit_value d) ds, digits_value_after_is (0 + digit_value d) ds))

digits_value-append : (xs ys : List ℕ) → digits_value 10 (xs ++ ys) ≡ digits_value 10 xs * 10 ^ length ys + digits_value 10 ys
digits_value-append xs ys = digits_value_after-append 0 xs ys ∙ digits_value_after_is (digits_value 10 xs) ys

-- leading zeros do not count
digits_value-zeros : (m : ℕ) (ds : List ℕ) → digits_value 10 (replicate m 48 ++ ds) ≡ digits_value 10 ds
digits_value-zeros zero ds = refl
digits_value-zeros (suc m) ds = digits_value-zeros m ds

list_all-zeros : (m : ℕ) → list_all is_digit (replicate m 48) ≡ true
list_all-zeros zero = refl
list_all-zeros (suc m) = list_all-zeros m

-- ---- the digits of a number

-- digits, at least so many and at most so many, that spell a number
record Spells (least most n : ℕ) (ds : List ℕ) : Type 0 where
  long : least ≤ length ds
  short : length ds ≤ most
  digits : list_all is_digit ds ≡ true
  value : digits_value 10 ds ≡ n

are_digits-Spells : (least most n : ℕ) (ds : List ℕ) (bound : ℕ) → 1 ≤ least → most ≤ bound → Spells least most n ds → are_digits bound ds ≡ true
are_digits-Spells least most n ds bound low high s =
    and_from (leb 1 (length ds) && leb (length ds) bound) (list_all is_digit ds)
    (and_from (leb 1 (length ds)) (leb (length ds) bound) (le-leb 1 (length ds) (omega (arith, s.long)))
    (le-leb (length ds) bound (omega (arith, s.short)))) s.digits

Spells-decimal : (most n : ℕ) → 0 < most → n < 10 ^ most → n < 2 ^ 64 → Spells 1 most n (decimal n)
Spells-decimal most n positive below fits = record {
  long = decimal_nonempty n fits;
  short = length-decimal-le most n positive below fits;
  digits = digits_decimal are_numerals n fits;
  value = digits_value-decimal are_numerals n fits;
}

Spells-five_digits : (n : ℕ) → n < 100000 → Spells 5 5 n (five_digits n)
Spells-five_digits n below =
    let s = Spells-decimal 5 n (omega arith) (omega arith) (omega arith) in
    let k = length (decimal n) in
    let padded : five_digits n ≡ replicate (5 - k) 48 ++ decimal n = ap (λ (xs : List ℕ). xs ++ decimal n) (drop-replicate k 5 48) in
    let len : length (five_digits n) ≡ 5 = ap length padded ∙ length-append (replicate (5 - k) 48) (decimal n) ∙
    omega (arith, length-replicate {A = ℕ} (5 - k) 48, s.short) in
    record {
      long = omega (arith, len);
      short = omega (arith, len);
      digits = ap (list_all is_digit) padded ∙ list_all-append is_digit (replicate (5 - k) 48) (decimal n) ∙ and_from _ _ (list_all-zeros (5 - k)) s.digits;
      value = ap (digits_value 10) padded ∙ digits_value-zeros (5 - k) (decimal n) ∙ s.value;
    }

-- ---- where the point is

-- a digit is no point
not_point : (c : ℕ) → is_digit c ≡ true → is_point c ≡ false
not_point c digit = ne_eqb c 46 (λ e. omega (arith, e, leb-true 48 c (and_parts (leb 48 c) (leb c 57) digit).0))

-- the first point stands behind the digits before it
position_or_len-digits : (before rest : List ℕ) → list_all is_digit before ≡ true → position_or_len is_point (before ++ rest) ≡ length before +
    position_or_len is_point rest
position_or_len-digits [] rest digits = omega arith
position_or_len-digits (c ∷ cs) rest digits =
    let parts = and_parts (is_digit c) (list_all is_digit cs) digits in
    cond-true (not (is_point c)) _ _ (not_from_false (is_point c) (not_point c parts.0)) ∙ omega (arith, position_or_len-digits cs rest parts.1)

position-digits : (ds : List ℕ) → list_all is_digit ds ≡ true → position is_point ds ≡ None
position-digits ds digits =
    let place : position_or_len is_point (ds ++ []) ≡ length ds = position_or_len-digits ds [] digits ∙ omega arith in
    cond-false _ _ _ (le-ltb (position_or_len is_point ds) (length ds) (omega (arith, rw append-nil at place)))

Splits-digits : (before behind : List ℕ) → list_all is_digit before ≡ true → Splits (before ++ 46 ∷ behind) before behind true
Splits-digits before behind digits =
    let text = before ++ 46 ∷ behind in
    let place : position_or_len is_point text ≡ length before = position_or_len-digits before (46 ∷ behind) digits ∙ omega arith in
    record {
      before_is = ap (λ (n : ℕ). take n text) place ∙ take-append_seam before (46 ∷ behind);
      behind_is = ap (λ (n : ℕ). drop (n + 1) text) place ∙ drop-append-add before (46 ∷ behind) 1;
      pointed_is = list_any-append is_point before (46 ∷ behind) ∙ or_right (list_any is_point before) true refl;
    }

-- ---- the raw of the digits

magnitude_of-whole_text : (metres : ℕ) (ds : List ℕ) → Spells 1 10 metres ds → magnitude_of ds ≡ Some (metres * 65536)
magnitude_of-whole_text metres ds s =
    magnitude_of-whole ds (position-digits ds s.digits) (are_digits-Spells 1 10 metres ds 10 (omega arith) (omega arith) s)
    ∙ ap Some (rw append-nil (omega (arith, s.value)))

magnitude_of-point_text : (metres parts : ℕ) (ds es : List ℕ) → Spells 1 10 metres ds → Spells 5 5 parts es → magnitude_of (ds ++ 46 ∷ es) ≡ Some
    ((metres * 100000 + parts) * 65536 / 100000)
magnitude_of-point_text metres parts ds es s t =
    let len : length es ≡ 5 = omega (arith, t.long, t.short) in
    let power : 10 ^ length es ≡ 100000 = ap (λ (k : ℕ). 10 ^ k) len in
    let value : digits_value 10 (ds ++ es) ≡ metres * 100000 + parts = digits_value-append ds es ∙ rw power (omega (arith, s.value, t.value)) in
    magnitude_of-pointed (ds ++ 46 ∷ es) ds es (Splits-digits ds es s.digits) (are_digits-Spells 1 10 metres ds 10 (omega arith) (omega arith) s)
    (are_digits-Spells 5 5 parts es 6 (omega arith) (omega arith) t)
    ∙ ap Some (ap (λ (x : ℕ). x * 65536 / 10 ^ length es) value ∙ ap (λ (p : ℕ). (metres * 100000 + parts) * 65536 / p) power)

-- ---- five digits are enough

hundred_thousandths-lt : (f : ℕ) → f < 65536 → div_ceil (f * 100000) 65536 < 100000
hundred_thousandths-lt f h = omega arith

-- rounded up and then down, it is the same number of units
hundred_thousandths_back : (metres f : ℕ) → f < 65536 → (metres * 100000 + div_ceil (f * 100000) 65536) * 65536 / 100000 ≡ metres * 65536 + f
hundred_thousandths_back metres f h = omega arith

-- ---- the text of a number

Spells-metres : (n : ℕ) → n < 2 ^ 32 → Spells 1 10 (n / 65536) (decimal (n / 65536))
Spells-metres n h = Spells-decimal 10 (n / 65536) (omega arith) (omega arith) (omega arith)

pub magnitude_of-magnitude_text : (n : ℕ) → n < 2 ^ 32 → magnitude_of (magnitude_text n) ≡ Some n
magnitude_of-magnitude_text n h = by (n % 65536 == 0) refl
  where
    metres : ℕ
    metres = n / 65536

    parts : ℕ
    parts = div_ceil (n % 65536 * 100000) 65536

    by : (b : Bool) → (n % 65536 == 0) ≡ b → magnitude_of (decimal metres ++ cond b [] (46 ∷ five_digits parts)) ≡ Some n
    by true e = rw append-nil (magnitude_of-whole_text metres (decimal metres) (Spells-metres n h) ∙ ap Some (omega (arith, eqb-true (n % 65536) 0 e)))
    by false e =
        magnitude_of-point_text metres parts (decimal metres) (five_digits parts) (Spells-metres n h)
        (Spells-five_digits parts (hundred_thousandths-lt (n % 65536) (omega arith)))
        ∙ ap Some (hundred_thousandths_back metres (n % 65536) (omega arith) ∙ omega arith)

-- digits begin with no minus sign
starts_with-digits : (ds rest : List ℕ) → 1 ≤ length ds → list_all is_digit ds ≡ true → starts_with nat_eq (ds ++ rest) (codes "-") ≡ false
starts_with-digits [] rest some digits = absurd (omega arith)
starts_with-digits (d ∷ ds) rest some digits =
    let parts = and_parts (is_digit d) (list_all is_digit ds) digits in
    let low = leb-true 48 d (and_parts (leb 48 d) (leb d 57) parts.0).0 in
    and_left (eqb 45 d) true (ne_eqb 45 d (λ e. omega (arith, e, low)))

starts_with-magnitude_text : (n : ℕ) → n < 2 ^ 32 → starts_with nat_eq (magnitude_text n) (codes "-") ≡ false
starts_with-magnitude_text n h =
    let s = Spells-metres n h in
    starts_with-digits (decimal (n / 65536)) (fraction_text (n % 65536)) s.long s.digits

in_range-FitsSigned : (z : ℤ) → FitsSigned w32 z → in_range z ≡ Some z
in_range-FitsSigned (pos n) h = cond-true _ _ _ (le-leb n 2147483647 (omega (arith, ints)))
in_range-FitsSigned (negsuc n) h = grind (arith, ints, nat_tests)

-- the whole round trip
pub number_of-text_of : (z : ℤ) → FitsSigned w32 z → number_of (text_of z) ≡ Some z
number_of-text_of (pos n) h =
    let small : n < 2 ^ 32 = omega (arith, ints) in
    let no_sign : text_of (pos n) ≡ magnitude_text n = ap (λ (b : Bool). cond b (codes "-") [] ++ magnitude_text n) (le-ltb n 0 (omega arith)) in
    ap number_of no_sign ∙ cond-false _ _ _ (starts_with-magnitude_text n small)
    ∙ ap (option_and_then (λ (m : ℕ). in_range (pos m))) (magnitude_of-magnitude_text n small) ∙ in_range-FitsSigned (pos n) h
number_of-text_of (negsuc n) h =
    ap (option_and_then (λ (m : ℕ). in_range (neg_ℤ (pos m)))) (magnitude_of-magnitude_text (suc n) (omega (arith, ints))) ∙ in_range-FitsSigned (negsuc n) h
