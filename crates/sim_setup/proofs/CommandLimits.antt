-- What holds of the commands of a match file.
use Rattle.{sim_json.specs.Values.front_two, sim_setup.proofs.{CommandIds.command_of-few, Common.{All, All-cons, and_then_some, ap, arith, Bool, Command}}}
use Rattle.sim_setup.proofs.Common.{command_of, crowd, Data, eq-eqb, falls_at, false, HasFewIds, if_some, if◌then◌else◌, inl, inr, is_given, IsFrom, length}
use Rattle.sim_setup.proofs.Common.{List, list_of, map, nat_lt, natural_in, natural_in-within, next_some, None, numbered, numbered-keeps, Ok, option_and_then}
use Rattle.sim_setup.proofs.Common.{refl, slice_index, Some, subst, suc, sym, Tallies, Timed, timed_of, true, zero, ℕ, [], ◌&&◌, ◌++◌, ◌+◌, ◌<◌, ◌==◌, ◌∙◌, ◌∷◌}
use Rattle.{sim_setup.{proofs.Common.{◌≡◌, ◌≤◌, ◌⊎◌}, specs.{Crowds.{Counts, timed}, Setups.timed_from}}, std.proofs.Common.{add-zero, cond, count_by}}
use Rattle.std.proofs.{Common.{eqb-true, get_or, get_or-set_other, get_or-set_same, length-set, lt-ltb, replicate, set, ◌*◌}, lemmas.Bool.and_parts}
use Rattle.std.{proofs.lemmas.{Bool.{cases_eq, false_from_ne_true, ltb-false, ltb-true}, List.Sums.sum_by-append}, specs.List.{Sorted.IsNonDecreasing, sum_by}}

-- The table of counts, one more command at a time.

one_more : (f : Timed → ℕ) (done : List Timed) (t : Timed) → sum_by f (done ++ t ∷ []) ≡ sum_by f done + f t
one_more f done t = grind (arith, sum_by-append)

pub push_counted : (turn player : ℕ) (done : List Timed) (t : Timed) (b : Bool) → is_given turn player t ≡ b → crowd turn player (done ++ t ∷ []) ≡
    crowd turn player done + cond b 1 0
push_counted turn player done t b e = one_more (λ (c : Timed). cond (is_given turn player c) 1 0) done t ∙ ap (λ x. crowd turn player done + cond x 1 0) e

pub both_same : (a b c d : ℕ) → ((a == b) && (c == d)) ≡ true → (a ≡ b) × (c ≡ d)
both_same a b c d e = let h = and_parts (a == b) (c == d) e in (eqb-true a b h.0, eqb-true c d h.1)

both_eq : (a b c d : ℕ) → a ≡ b → c ≡ d → ((a == b) && (c == d)) ≡ true
both_eq a b c d e f = rw (eq-eqb a b e, eq-eqb c d f)

-- the entry at another place, or at this one
module _ (table : List ℕ) (done : List Timed) (turn player : ℕ) (command : Command) (tallies : Tallies table done) (small : player ≤ 8)
    (within : turn * 9 + player < length table) where
  tally_at : (turn' player' : ℕ) → player' ≤ 8 → turn' * 9 + player' < length table → (turn' * 9 + player' ≡ turn * 9 + player)
      ⊎ (turn' * 9 + player' ≡ turn * 9 + player → ⊥)
      → get_or (set table (turn * 9 + player) (crowd turn player done + 1)) (turn' * 9 + player') 0 ≡ crowd turn' player'
      (done ++ timed turn player command ∷ [])
  tally_at turn' player' small' within' (inl e) =
      let same_turn : turn ≡ turn' = omega arith in
      let same_player : player ≡ player' = omega arith in
      let counted = push_counted turn' player' done (timed turn player command) true (both_eq turn turn' player player' same_turn same_player) in
      rw (e, get_or-set_same table (turn * 9 + player) (crowd turn player done + 1) 0 within)
      (ap (λ n. crowd n player done + 1) same_turn ∙ ap (λ n. crowd turn' n done + 1) same_player ∙ sym counted)
  tally_at turn' player' small' within' (inr other) =
      get_or-set_other table (turn * 9 + player) (turn' * 9 + player') _ 0 other ∙ tallies.right turn' player' small' within'
      ∙ sym (push_counted turn' player' done (timed turn player command) false
      (false_from_ne_true _ (λ h. let p = both_same turn turn' player player' h in other (rw (p.0, p.1)))) ∙ add-zero _)

pub tally_more : (table : List ℕ) (done : List Timed) (turn player : ℕ) (command : Command) → Tallies table done → player ≤ 8 → turn * 9 + player < length table
    → Tallies (set table (turn * 9 + player) (crowd turn player done + 1)) (done ++ timed turn player command ∷ [])
tally_more table done turn player command tallies small within = record {
  right = λ turn' player' small' within'.
      tally_at table done turn player command tallies small within turn' player' small'
      (omega (arith, length-set table (turn * 9 + player) (crowd turn player done + 1))) (cases_eq (turn' * 9 + player') (turn * 9 + player));
}

-- what counting a command leaves
pub counts_one : (table : List ℕ) (turn player : ℕ) → player ≤ 8 → turn * 9 + player < length table → slice_index table (turn * 9 + player) < 64
    → (done : List Timed) → Tallies table done → Counts true turn player (set table (turn * 9 + player) (slice_index table (turn * 9 + player) + 1)) done
counts_one table turn player small within room done tallies =
    let is = tallies.right turn player small within in
    (lt-ltb _ _ (subst (λ n. n < 64) is room), λ command. rw is (tally_more table done turn player command tallies small within))

get_or-zeros : (n k : ℕ) → ◌≡◌ {A = ℕ} (get_or (replicate n 0) k 0) 0
get_or-zeros zero k = refl
get_or-zeros (suc n) zero = refl
get_or-zeros (suc n) (suc k) = get_or-zeros n k

pub no_tallies : (n : ℕ) → Tallies (replicate n 0) []
no_tallies n = record { right = λ turn player small within. get_or-zeros n (turn * 9 + player) }

-- ---- who orders, and when

pub record IsRead (turns players : ℕ) (done : List Timed) (timed : Timed) : Type 0 where
  pub turn : IsFrom 1 turns timed.turn
  pub player : IsFrom 1 players timed.order.player
  pub ids : HasFewIds timed.order.command
  pub room : crowd timed.turn timed.order.player done < 64

timed_from-is : (turns players : ℕ) (done : List Timed) (p : Data × Data × List Data) (timed : Timed) → timed_from turns players done p ≡ Some timed
    → IsRead turns players done timed
timed_from-is turns players done p timed e =
    let turn = next_some (natural_in 1 turns p.0) _ timed e in
    let player = next_some (natural_in 1 players p.1) _ timed turn.2 in
    let command = next_some (command_of p.2) _ timed player.2 in
    let kept = if_some (nat_lt (crowd turn.0 player.0 done) 64) _ timed command.2 in
    subst (IsRead turns players done) kept.1 (record {
      turn = natural_in-within 1 turns p.0 turn.0 turn.1;
      player = natural_in-within 1 players p.1 player.0 player.1;
      ids = command_of-few p.2 command.0 command.1;
      room = ltb-true (crowd turn.0 player.0 done) 64 kept.0;
    })

pub timed_of-is : (turns players : ℕ) (done : List Timed) (d : Data) (timed : Timed) → timed_of turns players done d ≡ Some timed
    → IsRead turns players done timed
unfolding timed_of
timed_of-is turns players done d timed e =
    let p = and_then_some (option_and_then front_two (list_of d)) (timed_from turns players done) timed e in
    timed_from-is turns players done p.0 timed p.2

-- ---- at most 64 of one player in one turn

abbrev NotCrowded : List Timed → Type 0
NotCrowded done = (turn player : ℕ) → crowd turn player done ≤ 64

more_crowded : (done : List Timed) (timed : Timed) → crowd timed.turn timed.order.player done < 64 → NotCrowded done → NotCrowded (done ++ timed ∷ [])
more_crowded done timed room so_far = λ turn player. by turn player (is_given turn player timed) refl
  where
    by : (turn player : ℕ) (given : Bool) → is_given turn player timed ≡ given → crowd turn player (done ++ timed ∷ []) ≤ 64
    by turn player false is = omega (arith, push_counted turn player done timed false is, so_far turn player)
    by turn player true is =
        let same = both_same timed.turn turn timed.order.player player is in
        let fewer = subst (λ n. crowd turn n done < 64) same.1 (subst (λ n. crowd n timed.order.player done < 64) same.0 room) in
        omega (arith, push_counted turn player done timed true is, fewer)

pub timeds-not_crowded : (turns players : ℕ) (ds : List Data) (commands : List Timed) → numbered (timed_of turns players) [] ds ≡ Ok commands
    → (turn player : ℕ) → count_by (is_given turn player) commands ≤ 64
timeds-not_crowded turns players ds commands e =
    numbered-keeps (timed_of turns players) (λ front done. NotCrowded done)
    (λ front done d timed is so_far. more_crowded done timed (timed_of-is turns players done d timed is).room so_far) [] [] ds commands e
    (λ turn player. omega arith)

-- ---- turns that do not fall

abbrev turns_of : List Timed → List ℕ
turns_of commands = map (λ (timed : Timed). timed.turn) commands

one_before : (n : ℕ) (ns : List ℕ) → All (λ m. n ≤ m) ns → IsNonDecreasing ns → IsNonDecreasing (n ∷ ns)
one_before n ns above so_far zero zero d before within = omega arith
one_before n ns above so_far zero (suc j) d before within = above j d (omega arith)
one_before n ns above so_far (suc i) zero d before within = absurd (omega arith)
one_before n ns above so_far (suc i) (suc j) d before within = so_far i j d (omega arith) (omega arith)

-- no number is less than one that stands before the list, nor than one before it in the list
record Rises (before : ℕ) (ns : List ℕ) : Type 0 where
  above : All (λ n. before ≤ n) ns
  each : IsNonDecreasing ns

rises : (before i : ℕ) (commands : List Timed) → falls_at before i commands ≡ None → Rises before (turns_of commands)
rises before i [] e = record { above = λ k d within. absurd (omega arith); each = λ j k d up within. absurd (omega arith) }
rises before i (timed ∷ rest) e = by (nat_lt timed.turn before) refl e (rises timed.turn (i + 1) rest)
  where
    by : (falls : Bool) → nat_lt timed.turn before ≡ falls → (if falls then Some i else falls_at timed.turn (i + 1) rest) ≡ None
        → (falls_at timed.turn (i + 1) rest ≡ None → Rises timed.turn (turns_of rest)) → Rises before (turns_of (timed ∷ rest))
    by true is e later = absurd cc
    by false is e later =
        let so_far = later e in
        let up : before ≤ timed.turn = ltb-false timed.turn before is in
        record {
          above = All-cons (λ n. before ≤ n) timed.turn (turns_of rest) up (λ k d within. omega (arith, up, so_far.above k d within));
          each = one_before timed.turn (turns_of rest) so_far.above so_far.each;
        }

pub in_order-IsNonDecreasing : (commands : List Timed) → falls_at 0 0 commands ≡ None → IsNonDecreasing (map (λ (timed : Timed). timed.turn) commands)
in_order-IsNonDecreasing commands e = (rises 0 0 commands e).each
