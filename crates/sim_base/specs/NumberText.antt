-- Fixed-point numbers as text, which is a list of bytes: what is read as a number, and what is printed of one.
use Rattle.{sim_base.specs.Places.{is_raw, unit}, std.specs.{Int.div_ceil, List.{after_first, before_first, list_all, list_any, starts_with}}}
use Rattle.std.specs.Prelude.{Bool, codes, decimal, drop, if◌then◌else◌, int_lt, length, List, nat_eq, nat_le, neg_ℤ, None, not, Option, option_and_then, pos}
use Rattle.std.specs.{Prelude.{Some, unsigned_abs, ℕ, ℤ, [], ◌%◌, ◌&&◌, ◌*◌, ◌++◌, ◌/◌, ◌==◌, ◌^◌, ◌||◌}, Str.Parse.digits_value}

-- an ASCII digit
abbrev pub is_digit : ℕ → Bool
is_digit c = nat_le 48 c && nat_le c 57

-- the point behind the whole metres
abbrev pub is_point : ℕ → Bool
is_point c = c == 46

-- digits alone, from one to so many
abbrev pub are_digits : ℕ → List ℕ → Bool
are_digits most text = nat_le 1 (length text) && nat_le (length text) most && list_all is_digit text

-- the raw that the digits before the point and those behind it spell, rounded down
abbrev pub raw_of_digits : List ℕ → List ℕ → ℕ
raw_of_digits before behind = digits_value 10 (before ++ behind) * unit / 10 ^ length behind

-- the raw of a text without a sign: one to ten digits, and where there is a point, one to six behind it
abbrev pub magnitude_of : List ℕ → Option ℕ
magnitude_of text =
    let before = before_first is_point text in
    let behind = after_first is_point text in
    if are_digits 10 before && (are_digits 6 behind || not (list_any is_point text))
    then Some (raw_of_digits before behind)
    else None

-- the number, where it is a raw
abbrev pub in_range : ℤ → Option ℤ
in_range z = if is_raw z then Some z else None

-- the raw of a text, with or without a minus sign
abbrev pub number_of : List ℕ → Option ℤ
number_of text =
    if starts_with nat_eq text (codes "-")
    then option_and_then (λ n. in_range (neg_ℤ (pos n))) (magnitude_of (drop 1 text))
    else option_and_then (λ n. in_range (pos n)) (magnitude_of text)

-- a number in five digits, with leading zeros
abbrev pub five_digits : ℕ → List ℕ
five_digits n = drop (length (decimal n)) (codes "00000") ++ decimal n

-- nothing, or a point and five digits, rounded up
abbrev pub fraction_text : ℕ → List ℕ
fraction_text f = if f == 0 then [] else codes "." ++ five_digits (div_ceil (f * 100000) unit)

-- the whole metres, and what is more
abbrev pub magnitude_text : ℕ → List ℕ
magnitude_text n = decimal (n / unit) ++ fraction_text (n % unit)

-- the text that is printed of a raw
abbrev pub text_of : ℤ → List ℕ
text_of raw = (if int_lt raw (pos 0) then codes "-" else []) ++ magnitude_text (unsigned_abs raw)
