-- Texts of bytes that pass one test, cut where bytes pass another; and fronts of lines.
use Rattle.sim_base.proofs.Lists.{bytes_eq-same}
use Rattle.sim_replay.proofs.Common.{[], AllByRecursion, and_from, and_left, and_parts, ap, append-nil, append_assoc, are_numerals, arith, Attack, attack_of}
use Rattle.sim_replay.proofs.Common.{behind, below, Bool, bytes_eq, codes, Command, command_by, command_of, command_text, CommandFits, cond, cond-false}
use Rattle.sim_replay.proofs.Common.{cond-true, decimal, decimal_nonempty, Delete, digits_decimal, digits_value, digits_value-decimal, div_ceil, drop}
use Rattle.sim_replay.proofs.Common.{drop-append-add, drop-append_seam, eqb, false, first_word, FitsSigned, five_digits, flat_map, fraction_text, ids_of}
use Rattle.sim_replay.proofs.Common.{ids_text, IdsFit, int_lt, ints, is_digit, is_name_byte, IsAscii, IsAscii-cons, IsAscii-nil, IsPoint, le-leb, leb, leb-true}
use Rattle.sim_replay.proofs.Common.{length, List, list_all, list_all-append, lt-ltb, ltb, magnitude_text, map, nat_le, natural_below, natural_of, naturals_of}
use Rattle.sim_replay.proofs.Common.{ne_eqb, negsuc, next_id, None, not, not_from_false, number_of, number_of-text_of, onto_first, Option, option_map, order_of}
use Rattle.sim_replay.proofs.Common.{other_words, Place, place_of, PlayerCommand, Point, point_of, point_text, pos, position_or_len, refl, Resign, slice_split}
use Rattle.sim_replay.proofs.Common.{slice_split-cons_no, slice_split-cons_yes, Some, Stop, suc, sym, take, take-append_seam, text_of, Train, train_of, true}
use Rattle.sim_replay.proofs.Common.{w32, Walk, walk_of, zero, ℕ, ℤ, ◌%◌, ◌&&◌, ◌*◌, ◌++◌, ◌+◌, ◌/◌, ◌<◌, ◌==◌, ◌>>=◌, ◌^◌, ◌∙◌, ◌∷◌, ◌≡◌, ◌≤◌}

-- a printed byte or a space
abbrev pub is_plain : ℕ → Bool
is_plain c = nat_le 32 c && nat_le c 126

-- any byte but a line feed
abbrev pub is_inner : ℕ → Bool
is_inner c = not (c == 10)

-- ---- tests of all bytes

pub all-weaker : (p q : ℕ → Bool) → ((c : ℕ) → p c ≡ true → q c ≡ true) → (xs : List ℕ) → list_all p xs ≡ true → list_all q xs ≡ true
all-weaker p q weaker [] all = refl
all-weaker p q weaker (c ∷ cs) all =
    let parts = and_parts (p c) (list_all p cs) all in
    and_from (q c) (list_all q cs) (weaker c parts.0) (all-weaker p q weaker cs parts.1)

pub all-append : (p : ℕ → Bool) (xs ys : List ℕ) → list_all p xs ≡ true → list_all p ys ≡ true → list_all p (xs ++ ys) ≡ true
all-append p xs ys left right = list_all-append p xs ys ∙ and_from _ _ left right

pub all-drop : (p : ℕ → Bool) (n : ℕ) (xs : List ℕ) → list_all p xs ≡ true → list_all p (drop n xs) ≡ true
all-drop p zero xs all = all
all-drop p (suc n) [] all = refl
all-drop p (suc n) (c ∷ cs) all = all-drop p n cs (and_parts (p c) (list_all p cs) all).1

between : (low high least most c : ℕ) → low ≤ least → most ≤ high → (leb least c && leb c most) ≡ true → (leb low c && leb c high) ≡ true
between low high least most c down up inside =
    let parts = and_parts (leb least c) (leb c most) inside in
    and_from _ _ (le-leb low c (omega (arith, leb-true least c parts.0))) (le-leb c high (omega (arith, leb-true c most parts.1)))

-- a digit needs no quotes, and what needs none is plain
pub digit_is_name : (c : ℕ) → is_digit c ≡ true → is_name_byte c ≡ true
digit_is_name c digit = between 33 126 48 57 c (omega arith) (omega arith) digit

pub name_is_plain : (c : ℕ) → is_name_byte c ≡ true → is_plain c ≡ true
name_is_plain c name = between 32 126 33 126 c (omega arith) (omega arith) name

pub name_is_no_space : (c : ℕ) → is_name_byte c ≡ true → (c == 32) ≡ false
name_is_no_space c name = ne_eqb c 32 (λ e. omega (arith, e, leb-true 33 c (and_parts (leb 33 c) (leb c 126) name).0))

pub digit_is_no_comma : (c : ℕ) → is_digit c ≡ true → (c == 44) ≡ false
digit_is_no_comma c digit = ne_eqb c 44 (λ e. omega (arith, e, leb-true 48 c (and_parts (leb 48 c) (leb c 57) digit).0))

pub plain_is_inner : (c : ℕ) → is_plain c ≡ true → is_inner c ≡ true
plain_is_inner c plain = not_from_false (c == 10) (ne_eqb c 10 (λ e. omega (arith, e, leb-true 32 c (and_parts (leb 32 c) (leb c 126) plain).0)))

pub inner_is_no_end : (c : ℕ) → is_inner c ≡ true → (c == 10) ≡ false
inner_is_no_end c inner = by (c == 10) inner
  where
    by : (b : Bool) → not b ≡ true → b ≡ false
    by true h = absurd cc
    by false h = refl

pub plain_is_ascii : (xs : List ℕ) → list_all is_plain xs ≡ true → IsAscii xs
plain_is_ascii [] all = IsAscii-nil
plain_is_ascii (c ∷ cs) all =
    let parts = and_parts (is_plain c) (list_all is_plain cs) all in
    IsAscii-cons c cs (omega (arith, leb-true c 126 (and_parts (leb 32 c) (leb c 126) parts.0).1)) (plain_is_ascii cs parts.1)

-- ---- cuts

-- what passes the one test is passed over by a search for the other
passes_over : (p q : ℕ → Bool) → ((c : ℕ) → q c ≡ true → p c ≡ false) → (xs rest : List ℕ) → list_all q xs ≡ true → position_or_len p (xs ++ rest) ≡ length xs +
    position_or_len p rest
passes_over p q apart [] rest all = omega arith
passes_over p q apart (c ∷ cs) rest all =
    let parts = and_parts (q c) (list_all q cs) all in
    cond-true (not (p c)) _ _ (not_from_false (p c) (apart c parts.0)) ∙ omega (arith, passes_over p q apart cs rest parts.1)

-- a word before a space
pub first_word-is : (word rest : List ℕ) → list_all is_name_byte word ≡ true → first_word (word ++ 32 ∷ rest) ≡ word
first_word-is word rest all =
    let text = word ++ 32 ∷ rest in
    let place : position_or_len (λ b. b == 32) text ≡ length word = passes_over (λ b. b == 32) is_name_byte name_is_no_space word (32 ∷ rest) all ∙
    omega arith in
    ap (λ (n : ℕ). take n text) place ∙ take-append_seam word (32 ∷ rest)

pub other_words-is : (word rest : List ℕ) → list_all is_name_byte word ≡ true → other_words (word ++ 32 ∷ rest) ≡ rest
other_words-is word rest all =
    let text = word ++ 32 ∷ rest in
    let place : position_or_len (λ b. b == 32) text ≡ length word = passes_over (λ b. b == 32) is_name_byte name_is_no_space word (32 ∷ rest) all ∙
    omega arith in
    ap (λ (n : ℕ). drop (n + 1) text) place ∙ drop-append-add word (32 ∷ rest) 1

-- the parts of a text, of which the first ends at a byte that passes
pub split_first : (p q : ℕ → Bool) → ((c : ℕ) → q c ≡ true → p c ≡ false) → (word : List ℕ) (y : ℕ) (rest : List ℕ) → list_all q word ≡ true → p y ≡ true
    → slice_split p (word ++ y ∷ rest) ≡ word ∷ slice_split p rest
split_first p q apart [] y rest all passes = slice_split-cons_yes p y rest passes
split_first p q apart (c ∷ cs) y rest all passes =
    let parts = and_parts (q c) (list_all q cs) all in
    slice_split-cons_no p c (cs ++ y ∷ rest) (apart c parts.0) ∙ ap (onto_first c) (split_first p q apart cs y rest parts.1 passes)

-- the one part of a text of which no byte passes
pub split_whole : (p q : ℕ → Bool) → ((c : ℕ) → q c ≡ true → p c ≡ false) → (word : List ℕ) → list_all q word ≡ true → slice_split p word ≡ word ∷ []
split_whole p q apart [] all = refl
split_whole p q apart (c ∷ cs) all =
    let parts = and_parts (q c) (list_all q cs) all in
    slice_split-cons_no p c cs (apart c parts.0) ∙ ap (onto_first c) (split_whole p q apart cs parts.1)

-- ---- fronts

pub behind-append : (front rest : List ℕ) → behind front (front ++ rest) ≡ Some rest
behind-append front rest =
    let same : bytes_eq (take (length front) (front ++ rest)) front ≡ true = ap (λ (xs : List ℕ). bytes_eq xs front) (take-append_seam front rest) ∙
    bytes_eq-same front in
    cond-true _ _ _ same ∙ ap Some (drop-append_seam front rest)

-- Steps that each may give nothing, one behind the other.

-- both steps give something
pub bind_some : {A B : Type 0} (o : Option A) (x : A) (f : A → Option B) (r : Option B) → o ≡ Some x → f x ≡ r → (o >>= f) ≡ r
bind_some {A} o x f r e h = ap (λ (p : Option A). p >>= f) e ∙ h

-- the first step gives nothing
pub bind_none : {A B : Type 0} (o : Option A) (f : A → Option B) → o ≡ None → (o >>= f) ≡ None
bind_none {A} o f e = ap (λ (p : Option A). p >>= f) e

-- what both steps gave
pub record Bound {A B : Type 0} (o : Option A) (f : A → Option B) (y : B) : Type 0 where
  pub x : A
  pub first : o ≡ Some x
  pub second : f x ≡ Some y

pub bound : {A B : Type 0} (o : Option A) (f : A → Option B) (y : B) → (o >>= f) ≡ Some y → Bound o f y
bound None f y e = cc
bound (Some x) f y e = record { x = x; first = refl; second = e }

-- what a step gave that was then changed
pub record Mapped {A B : Type 0} (o : Option A) (f : A → B) (y : B) : Type 0 where
  pub x : A
  pub first : o ≡ Some x
  pub second : f x ≡ y

pub mapped : {A B : Type 0} (o : Option A) (f : A → B) (y : B) → option_map f o ≡ Some y → Mapped o f y
mapped None f y e = cc
mapped (Some x) f y e = record { x = x; first = refl; second = cc }

-- what stood behind a test
pub record Passed {A : Type 0} (b : Bool) (o : Option A) (y : A) : Type 0 where
  pub yes : b ≡ true
  pub gives : o ≡ Some y

pub passed : {A : Type 0} (b : Bool) (o : Option A) (y : A) → cond b o None ≡ Some y → Passed b o y
passed true o y e = record { yes = refl; gives = e }
passed false o y e = cc

-- Printed numbers and ids are words, and are read as themselves.

-- ---- whole numbers

pub digits-decimal : (n : ℕ) → n < 2 ^ 64 → list_all is_digit (decimal n) ≡ true
digits-decimal n fits = digits_decimal are_numerals n fits

pub name-decimal : (n : ℕ) → n < 2 ^ 64 → list_all is_name_byte (decimal n) ≡ true
name-decimal n fits = all-weaker is_digit is_name_byte digit_is_name (decimal n) (digits-decimal n fits)

pub below-is : (limit n : ℕ) → n < limit → below limit n ≡ Some n
below-is limit n h = cond-true _ _ _ (lt-ltb n limit h)

pub natural_of-decimal : (n : ℕ) → n < 2 ^ 32 → natural_of (decimal n) ≡ Some n
unfolding natural_of
natural_of-decimal n h =
    let small : n < 2 ^ 64 = omega arith in
    let digits : list_all is_digit (decimal n) ≡ true = digits-decimal n small in
    let some : ltb 0 (length (decimal n)) ≡ true = lt-ltb 0 (length (decimal n)) (decimal_nonempty n small) in
    let value : digits_value 10 (decimal n) ≡ n = digits_value-decimal are_numerals n small in
    cond-true _ _ _ (and_from _ _ digits some) ∙ ap (below (2 ^ 32)) value ∙ below-is (2 ^ 32) n h

-- ---- numbers with a fraction

name-five_digits : (n : ℕ) → n < 2 ^ 64 → list_all is_name_byte (five_digits n) ≡ true
name-five_digits n fits = all-append is_name_byte (drop (length (decimal n)) (codes "00000")) (decimal n)
    (all-drop is_name_byte (length (decimal n)) (codes "00000") refl) (name-decimal n fits)

name-fraction : (f : ℕ) → f < 65536 → list_all is_name_byte (fraction_text f) ≡ true
name-fraction f small = by (f == 0)
  where
    by : (b : Bool) → list_all is_name_byte (cond b [] (46 ∷ five_digits (div_ceil (f * 100000) 65536))) ≡ true
    by true = refl
    by false = name-five_digits (div_ceil (f * 100000) 65536) (omega arith)

name-magnitude : (n : ℕ) → n < 2 ^ 32 → list_all is_name_byte (magnitude_text n) ≡ true
name-magnitude n h = all-append is_name_byte (decimal (n / 65536)) (fraction_text (n % 65536)) (name-decimal (n / 65536) (omega arith))
    (name-fraction (n % 65536) (omega arith))

name-sign : (b : Bool) → list_all is_name_byte (cond b (codes "-") []) ≡ true
name-sign true = refl
name-sign false = refl

pub name-text_of : (z : ℤ) → FitsSigned w32 z → list_all is_name_byte (text_of z) ≡ true
name-text_of (pos n) fits = all-append is_name_byte (cond (int_lt (pos n) (pos 0)) (codes "-") []) (magnitude_text n) (name-sign (int_lt (pos n) (pos 0)))
    (name-magnitude n (omega (arith, ints)))
name-text_of (negsuc n) fits = all-append is_name_byte (codes "-") (magnitude_text (suc n)) refl (name-magnitude (suc n) (omega (arith, ints)))

-- ---- ids

name-more : (ids : List ℕ) → AllByRecursion (λ id. id < 2 ^ 32) ids → list_all is_name_byte (flat_map next_id ids) ≡ true
name-more [] fit = refl
name-more (id ∷ ids) fit = all-append is_name_byte (44 ∷ decimal id) (flat_map next_id ids) (name-decimal id (omega (arith, fit.0))) (name-more ids fit.1)

pub name-ids_text : (ids : List ℕ) → AllByRecursion (λ id. id < 2 ^ 32) ids → list_all is_name_byte (ids_text ids) ≡ true
name-ids_text [] fit = refl
name-ids_text (id ∷ ids) fit = all-append is_name_byte (decimal id) (flat_map next_id ids) (name-decimal id (omega (arith, fit.0))) (name-more ids fit.1)

split-ids : (id : ℕ) (ids : List ℕ) → AllByRecursion (λ id. id < 2 ^ 32) (id ∷ ids) → slice_split (λ b. b == 44) (decimal id ++ flat_map next_id ids) ≡
    map decimal (id ∷ ids)
split-ids id [] fit =
    ap (slice_split (λ b. b == 44)) (append-nil (decimal id)) ∙ split_whole (λ b. b == 44) is_digit digit_is_no_comma (decimal id)
    (digits-decimal id (omega (arith, fit.0)))
split-ids id (next ∷ ids) fit =
    split_first (λ b. b == 44) is_digit digit_is_no_comma (decimal id) 44 (decimal next ++ flat_map next_id ids) (digits-decimal id (omega (arith, fit.0))) refl
    ∙ ap (λ (words : List (List ℕ)). decimal id ∷ words) (split-ids next ids fit.1)

naturals-decimals : (ids : List ℕ) → AllByRecursion (λ id. id < 2 ^ 32) ids → naturals_of (map decimal ids) ≡ Some ids
naturals-decimals [] fit = refl
naturals-decimals (id ∷ ids) fit =
    bind_some (natural_of (decimal id)) id _ _ (natural_of-decimal id fit.0) (ap (option_map (λ (ns : List ℕ). id ∷ ns)) (naturals-decimals ids fit.1))

-- digits are no dash
not_dash : (ds rest : List ℕ) → 1 ≤ length ds → list_all is_digit ds ≡ true → bytes_eq (ds ++ rest) (codes "-") ≡ false
not_dash [] rest some digits = absurd (omega arith)
not_dash (d ∷ ds) rest some digits =
    let low = leb-true 48 d (and_parts (leb 48 d) (leb d 57) (and_parts (is_digit d) (list_all is_digit ds) digits).0).0 in
    and_left (eqb d 45) _ (ne_eqb d 45 (λ e. omega (arith, e, low)))

pub ids_of-ids_text : (ids : List ℕ) → AllByRecursion (λ id. id < 2 ^ 32) ids → ids_of (ids_text ids) ≡ Some ids
unfolding ids_of
ids_of-ids_text [] fit = refl
ids_of-ids_text (id ∷ ids) fit =
    let small : id < 2 ^ 64 = omega (arith, fit.0) in
    let digits : bytes_eq (decimal id ++ flat_map next_id ids) (codes "-") ≡ false = not_dash (decimal id) (flat_map next_id ids) (decimal_nonempty id small)
    (digits-decimal id small) in
    cond-false _ _ _ digits ∙ ap naturals_of (split-ids id ids fit) ∙ naturals-decimals (id ∷ ids) fit

-- Printed commands are plain, and are read as themselves.

-- ---- read as themselves

point_of-point_text : (p : Point) → IsPoint p → point_of (point_text p) ≡ Some p
unfolding point_of
point_of-point_text p is =
    let name = name-text_of p.x is.x in
    bind_some _ p.x _ _ (ap number_of (first_word-is (text_of p.x) (text_of p.z) name) ∙ number_of-text_of p.x is.x)
    (bind_some _ p.z _ _ (ap number_of (other_words-is (text_of p.x) (text_of p.z) name) ∙ number_of-text_of p.z is.z) refl)

walk-back : (ids : List ℕ) (to : Point) → IdsFit ids → IsPoint to → walk_of (ids_text ids ++ (codes " to " ++ point_text to)) ≡ Some (Walk ids to)
unfolding walk_of
walk-back ids to fit is =
    let rest = codes "to " ++ point_text to in
    let name = name-ids_text ids fit.each in
    bind_some _ ids _ _ (ap ids_of (first_word-is (ids_text ids) rest name) ∙ ids_of-ids_text ids fit.each)
    (bind_some _ to _ _ (ap (λ (text : List ℕ). point_of (other_words text)) (other_words-is (ids_text ids) rest name) ∙ point_of-point_text to is) refl)

attack-back : (ids : List ℕ) (target : ℕ) → IdsFit ids → target < 2 ^ 32 → attack_of (ids_text ids ++ (codes " on " ++ decimal target)) ≡ Some
    (Attack ids target)
unfolding attack_of
attack-back ids target fit small =
    let rest = codes "on " ++ decimal target in
    let name = name-ids_text ids fit.each in
    bind_some _ ids _ _ (ap ids_of (first_word-is (ids_text ids) rest name) ∙ ids_of-ids_text ids fit.each)
    (bind_some _ target _ _ (ap (λ (text : List ℕ). natural_of (other_words text)) (other_words-is (ids_text ids) rest name) ∙ natural_of-decimal target small)
    refl)

below-back : (limit n : ℕ) (text : List ℕ) → n < limit → n < 2 ^ 32 → text ≡ decimal n → natural_below limit text ≡ Some n
below-back limit n text small fits is = bind_some _ n _ _ (ap natural_of is ∙ natural_of-decimal n fits) (below-is limit n small)

place-back : (template : ℕ) (at : Point) → template < 2 ^ 16 → IsPoint at → place_of (decimal template ++ (codes " at " ++ point_text at)) ≡ Some
    (Place template at)
unfolding place_of
place-back template at small is =
    let rest = codes "at " ++ point_text at in
    let name = name-decimal template (omega arith) in
    bind_some _ template _ _ (below-back (2 ^ 16) template _ small (omega arith) (first_word-is (decimal template) rest name))
    (bind_some _ at _ _ (ap (λ (text : List ℕ). point_of (other_words text)) (other_words-is (decimal template) rest name) ∙ point_of-point_text at is) refl)

train-back : (building template : ℕ) → building < 2 ^ 32 → template < 2 ^ 16 → train_of (decimal building ++ (codes " " ++ decimal template)) ≡ Some
    (Train building template)
unfolding train_of
train-back building template big small =
    let name = name-decimal building (omega arith) in
    bind_some _ building _ _ (ap natural_of (first_word-is (decimal building) (decimal template) name) ∙ natural_of-decimal building big)
    (bind_some _ template _ _ (below-back (2 ^ 16) template _ small (omega arith) (other_words-is (decimal building) (decimal template) name)) refl)

pub command_of-command_text : (command : Command) → CommandFits command → command_of (command_text command) ≡ Some command
unfolding command_by
command_of-command_text (Walk ids to) fits = walk-back ids to fits.0 fits.1
command_of-command_text (Stop ids) fits = ap (option_map Stop) (ids_of-ids_text ids fits.each)
command_of-command_text (Attack ids target) fits = attack-back ids target fits.0 fits.1
command_of-command_text (Delete ids) fits = ap (option_map Delete) (ids_of-ids_text ids fits.each)
command_of-command_text (Place template at) fits = place-back template at fits.0 fits.1
command_of-command_text (Train building template) fits = train-back building template fits.0 fits.1
command_of-command_text Resign fits = refl

pub order_of-text : (order : PlayerCommand) → order.player < 2 ^ 8 → CommandFits order.command
    → order_of (decimal order.player ++ (codes " " ++ command_text order.command)) ≡ Some order
unfolding order_of
order_of-text order small fits =
    let name = name-decimal order.player (omega arith) in
    let rest = command_text order.command in
    bind_some _ order.player _ _ (below-back (2 ^ 8) order.player _ small (omega arith) (first_word-is (decimal order.player) rest name))
    (bind_some _ order.command _ _ (ap command_of (other_words-is (decimal order.player) rest name) ∙ command_of-command_text order.command fits) refl)

-- ---- plain

plain-name : (text : List ℕ) → list_all is_name_byte text ≡ true → list_all is_plain text ≡ true
plain-name text name = all-weaker is_name_byte is_plain name_is_plain text name

pub plain-decimal : (n : ℕ) → n < 2 ^ 64 → list_all is_plain (decimal n) ≡ true
plain-decimal n fits = plain-name (decimal n) (name-decimal n fits)

plain-point : (p : Point) → IsPoint p → list_all is_plain (point_text p) ≡ true
plain-point p is = all-append is_plain (text_of p.x) (32 ∷ text_of p.z) (plain-name (text_of p.x) (name-text_of p.x is.x))
    (plain-name (text_of p.z) (name-text_of p.z is.z))

plain-ids : (ids : List ℕ) → IdsFit ids → list_all is_plain (ids_text ids) ≡ true
plain-ids ids fit = plain-name (ids_text ids) (name-ids_text ids fit.each)

pub plain-command : (command : Command) → CommandFits command → list_all is_plain (command_text command) ≡ true
plain-command (Walk ids to) fits = all-append is_plain (ids_text ids) (codes " to " ++ point_text to) (plain-ids ids fits.0) (plain-point to fits.1)
plain-command (Stop ids) fits = plain-ids ids fits
plain-command (Attack ids target) fits = all-append is_plain (ids_text ids) (codes " on " ++ decimal target) (plain-ids ids fits.0)
    (plain-decimal target (omega (arith, fits.1)))
plain-command (Delete ids) fits = plain-ids ids fits
plain-command (Place template at) fits = all-append is_plain (decimal template) (codes " at " ++ point_text at) (plain-decimal template (omega (arith, fits.0)))
    (plain-point at fits.1)
plain-command (Train building template) fits =
    all-append is_plain (decimal building) (codes " " ++ decimal template) (plain-decimal building (omega (arith, fits.0)))
    (plain-decimal template (omega (arith, fits.1)))
plain-command Resign fits = refl
