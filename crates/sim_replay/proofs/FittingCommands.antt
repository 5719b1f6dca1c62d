-- Numbers that are read fit, and so do commands with few ids.
use Rattle.sim_replay.proofs.Common.{[], AllByRecursion, and_parts, ap, arith, Attack, attack_of, behind_two, below, Bool, bytes_eq, codes, Command, command_by}
use Rattle.sim_replay.proofs.Common.{command_of, CommandFits, cond, Delete, digits_value, drop, false, first_word, FitsSigned, ids_in, ids_of, in_range, ints}
use Rattle.sim_replay.proofs.Common.{is_raw, IsPoint, leb, leb-true, List, ltb, ltb-true, magnitude_of, nat_eq, natural_below, natural_of, naturals_of, neg_ℤ}
use Rattle.sim_replay.proofs.Common.{negsuc, None, number_of, Option, option_and_then, option_map, order_of, other_words, Place, place_of, PlayerCommand, Point}
use Rattle.sim_replay.proofs.Common.{point_of, pos, Resign, slice_split, Some, starts_with, Stop, subst, Train, train_of, true, w32, Walk, walk_of, ℕ, ℤ, ◌++◌}
use Rattle.sim_replay.proofs.{Common.◌<◌, Common.◌==◌, Common.◌^◌, Common.◌∷◌, Common.◌≡◌, Common.◌≤◌, Cuts.bound, Cuts.mapped, Cuts.passed}

-- ---- numbers

below-fits : (limit n m : ℕ) → below limit n ≡ Some m → m < limit
below-fits limit n m e =
    let p = passed (ltb n limit) (Some n) m e in
    let same : n ≡ m = let h = p.gives in cc in
    omega (arith, same, ltb-true n limit p.yes)

natural_of-fits : (text : List ℕ) (n : ℕ) → natural_of text ≡ Some n → n < 2 ^ 32
unfolding natural_of
natural_of-fits text n e = below-fits (2 ^ 32) (digits_value 10 text) n ((passed _ (below (2 ^ 32) (digits_value 10 text)) n e).gives)

short-fits : (limit : ℕ) (text : List ℕ) (n : ℕ) → natural_below limit text ≡ Some n → n < limit
short-fits limit text n e = let b = bound (natural_of text) (below limit) n e in below-fits limit b.x n b.second

naturals-fit : (words : List (List ℕ)) (ids : List ℕ) → naturals_of words ≡ Some ids → AllByRecursion (λ id. id < 2 ^ 32) ids
naturals-fit [] ids e = let same : [] ≡ ids = cc in subst (λ (ns : List ℕ). AllByRecursion (λ id. id < 2 ^ 32) ns) same tt
naturals-fit (word ∷ words) ids e =
    let b = bound (natural_of word) (λ n. option_map (λ ns. n ∷ ns) (naturals_of words)) ids e in
    let m = mapped (naturals_of words) (λ ns. b.x ∷ ns) ids b.second in
    subst (λ (ns : List ℕ). AllByRecursion (λ id. id < 2 ^ 32) ns) m.second (natural_of-fits word b.x b.first, naturals-fit words m.x m.first)

ids_of-fit : (text ids : List ℕ) → ids_of text ≡ Some ids → AllByRecursion (λ id. id < 2 ^ 32) ids
unfolding ids_of
ids_of-fit text ids e = by (bytes_eq text (codes "-")) e
  where
    by : (b : Bool) → cond b (Some []) (naturals_of (slice_split (λ b. b == 44) text)) ≡ Some ids → AllByRecursion (λ id. id < 2 ^ 32) ids
    by true h = let same : [] ≡ ids = cc in subst (λ (ns : List ℕ). AllByRecursion (λ id. id < 2 ^ 32) ns) same tt
    by false h = naturals-fit (slice_split (λ b. b == 44) text) ids h

in_range-fits : (z y : ℤ) → in_range z ≡ Some y → FitsSigned w32 y
in_range-fits z y e =
    let p = passed (is_raw z) (Some z) y e in
    let same : z ≡ y = let h = p.gives in cc in
    subst (FitsSigned w32) same (raw_fits z p.yes)
  where
    raw_fits : (z : ℤ) → is_raw z ≡ true → FitsSigned w32 z
    raw_fits (pos n) h = omega (arith, ints, leb-true n 2147483647 h)
    raw_fits (negsuc n) h = omega (arith, ints, leb-true n 2147483647 (and_parts (leb n 2147483647) true h).0)

mapped_range : (o : Option ℕ) (f : ℕ → ℤ) (y : ℤ) → option_and_then (λ n. in_range (f n)) o ≡ Some y → FitsSigned w32 y
mapped_range None f y e = cc
mapped_range (Some n) f y e = in_range-fits (f n) y e

number_of-fits : (text : List ℕ) (y : ℤ) → number_of text ≡ Some y → FitsSigned w32 y
number_of-fits text y e = by (starts_with nat_eq text (codes "-")) e
  where
    by : (b : Bool) → cond b (option_and_then (λ n. in_range (neg_ℤ (pos n))) (magnitude_of (drop 1 text)))
        (option_and_then (λ n. in_range (pos n)) (magnitude_of text)) ≡ Some y → FitsSigned w32 y
    by true h = mapped_range (magnitude_of (drop 1 text)) (λ n. neg_ℤ (pos n)) y h
    by false h = mapped_range (magnitude_of text) pos y h

-- ---- commands

point_of-fits : (text : List ℕ) (p : Point) → point_of text ≡ Some p → IsPoint p
unfolding point_of
point_of-fits text p e =
    let b = bound (number_of (first_word text)) _ p e in
    let d = bound (number_of (other_words text)) _ p b.second in
    let same : record { x = b.x; z = d.x } ≡ p = let h = d.second in cc in
    subst IsPoint same (record { x = number_of-fits (first_word text) b.x b.first; z = number_of-fits (other_words text) d.x d.first })

-- a command whose ids are few fits
abbrev pub FitsIfFew : Command → Type 0
FitsIfFew command = ids_in command ≤ 256 → CommandFits command

walk-fits : (text : List ℕ) (command : Command) → walk_of text ≡ Some command → FitsIfFew command
unfolding walk_of
walk-fits text command e =
    let b = bound (ids_of (first_word text)) _ command e in
    let d = bound (point_of (behind_two text)) _ command b.second in
    let same : Walk b.x d.x ≡ command = let h = d.second in cc in
    subst FitsIfFew same (λ few. (record { few = few; each = ids_of-fit (first_word text) b.x b.first }, point_of-fits (behind_two text) d.x d.first))

attack-fits : (text : List ℕ) (command : Command) → attack_of text ≡ Some command → FitsIfFew command
unfolding attack_of
attack-fits text command e =
    let b = bound (ids_of (first_word text)) _ command e in
    let d = bound (natural_of (behind_two text)) _ command b.second in
    let same : Attack b.x d.x ≡ command = let h = d.second in cc in
    subst FitsIfFew same (λ few. (record { few = few; each = ids_of-fit (first_word text) b.x b.first }, natural_of-fits (behind_two text) d.x d.first))

place-fits : (text : List ℕ) (command : Command) → place_of text ≡ Some command → FitsIfFew command
unfolding place_of
place-fits text command e =
    let b = bound (natural_below (2 ^ 16) (first_word text)) _ command e in
    let d = bound (point_of (behind_two text)) _ command b.second in
    let same : Place b.x d.x ≡ command = let h = d.second in cc in
    subst FitsIfFew same (λ few. (short-fits (2 ^ 16) (first_word text) b.x b.first, point_of-fits (behind_two text) d.x d.first))

train-fits : (text : List ℕ) (command : Command) → train_of text ≡ Some command → FitsIfFew command
unfolding train_of
train-fits text command e =
    let b = bound (natural_of (first_word text)) _ command e in
    let d = bound (natural_below (2 ^ 16) (other_words text)) _ command b.second in
    let same : Train b.x d.x ≡ command = let h = d.second in cc in
    subst FitsIfFew same (λ few. (natural_of-fits (first_word text) b.x b.first, short-fits (2 ^ 16) (other_words text) d.x d.first))

stop-fits : (text : List ℕ) (command : Command) → option_map Stop (ids_of text) ≡ Some command → FitsIfFew command
stop-fits text command e =
    let m = mapped (ids_of text) Stop command e in
    subst FitsIfFew m.second (λ few. record { few = few; each = ids_of-fit text m.x m.first })

delete-fits : (text : List ℕ) (command : Command) → option_map Delete (ids_of text) ≡ Some command → FitsIfFew command
delete-fits text command e =
    let m = mapped (ids_of text) Delete command e in
    subst FitsIfFew m.second (λ few. record { few = few; each = ids_of-fit text m.x m.first })

command_by-fits : (kind text : List ℕ) (command : Command) → command_by kind text ≡ Some command → FitsIfFew command
unfolding command_by
command_by-fits kind text command e =
    by (bytes_eq kind (codes "walk")) (bytes_eq kind (codes "stop")) (bytes_eq kind (codes "attack")) (bytes_eq kind (codes "delete"))
    (bytes_eq kind (codes "place")) (bytes_eq kind (codes "train")) (bytes_eq kind (codes "resign")) e
  where
    by : (walks stops attacks deletes places trains resigns : Bool)
        → cond walks (walk_of text) (cond stops (option_map Stop (ids_of text)) (cond attacks (attack_of text) (cond deletes (option_map Delete (ids_of text))
        (cond places (place_of text) (cond trains (train_of text) (cond resigns (Some Resign) None)))))) ≡ Some command → FitsIfFew command
    by true s a d p t r h = walk-fits text command h
    by false true a d p t r h = stop-fits text command h
    by false false true d p t r h = attack-fits text command h
    by false false false true p t r h = delete-fits text command h
    by false false false false true t r h = place-fits text command h
    by false false false false false true r h = train-fits text command h
    by false false false false false false true h = let same : Resign ≡ command = cc in subst FitsIfFew same (λ few. tt)
    by false false false false false false false h = cc

pub order_of-fits : (text : List ℕ) (order : PlayerCommand) → order_of text ≡ Some order → FitsIfFew order.command
unfolding order_of
order_of-fits text order e =
    let b = bound (natural_below (2 ^ 8) (first_word text)) _ order e in
    let d = bound (command_of (other_words text)) _ order b.second in
    let same : d.x ≡ order.command = let h = d.second in ap (λ (o : Option PlayerCommand). command_or d.x o) h in
    subst FitsIfFew same (command_by-fits (first_word (other_words text)) (other_words (other_words text)) d.x d.first)
  where
    command_or : Command → Option PlayerCommand → Command
    command_or c None = c
    command_or c (Some o) = o.command
