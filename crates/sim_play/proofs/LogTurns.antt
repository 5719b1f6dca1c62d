-- One turn of a log more, and the match's own turns as those of a log.
use Rattle.sim_play.proofs.Common.{after, after_counts_turns, All, All-cons, All-nil, ap, arith, Bend, digest, digests_after, Err, get_or, IfOk, IsOfTurns}
use Rattle.sim_play.proofs.Common.{IsOrderOf, IsSetup, last_state, length, length-map-range_with_len, List, Log, log_after, map, map-append}
use Rattle.sim_play.proofs.Common.{map-range_with_len_more, match_turns, Ok, orders_at, own_turns, Past, past_of, PlayerCommand, range_with_len, refl, Result}
use Rattle.sim_play.proofs.Common.{reverse, reverse-append, Setup, State, state_after, subst, suc, sym, take, take_all, take_more, Turn, turn, turns_in, zero}
use Rattle.{sim_play.proofs.Common.{ℕ, [], ◌++◌, ◌+◌, ◌<◌, ◌∙◌, ◌∷◌, ◌≡◌, ◌≤◌}, sim_turn.proofs.Counting.players_at, std.proofs.lemmas.List.length-take-le}

-- ---- the past of turns

pub past_more : (turns : List (List PlayerCommand)) (orders : List PlayerCommand) → past_of (turns ++ orders ∷ []) ≡ Turn orders ∷ past_of turns
past_more turns orders = ap reverse (map-append Turn turns (orders ∷ [])) ∙ reverse-append (map Turn turns) (Turn orders ∷ [])

turns_in-append : (late early : Past) → turns_in (late ++ early) ≡ turns_in late + turns_in early
turns_in-append [] early = omega arith
turns_in-append (Turn orders ∷ late) early = omega (arith, turns_in-append late early)
turns_in-append (Bend id health ∷ late) early = turns_in-append late early

turns_in-past : (turns : List (List PlayerCommand)) → turns_in (past_of turns) ≡ length turns
turns_in-past [] = refl
turns_in-past (orders ∷ turns) =
    let apart : past_of (orders ∷ turns) ≡ past_of turns ++ Turn orders ∷ [] = reverse-append (Turn orders ∷ []) (map Turn turns) in
    ap turns_in apart ∙ omega (arith, turns_in-append (past_of turns) (Turn orders ∷ []), turns_in-past turns)

-- after so many turns the state stands at that turn
pub logged_turn : (setup : Setup) (turns : List (List PlayerCommand)) → (state_after setup turns).turn ≡ length turns
logged_turn setup turns = after_counts_turns setup (past_of turns) ∙ turns_in-past turns

pub turn_at : (setup : Setup) (turns : List (List PlayerCommand)) (n : ℕ) (state : State) → n ≤ length turns → state ≡ state_after setup (take n turns)
    → state.turn ≡ n
turn_at setup turns n state within is =
    ap (λ (s : State). s.turn) is ∙ logged_turn setup (take n turns) ∙ length-take-le n turns within

-- ---- one turn more

pub state_more : (setup : Setup) (turns : List (List PlayerCommand)) (n : ℕ) (orders : List PlayerCommand) → n < length turns → orders ≡ get_or turns n orders
    → state_after setup (take (n + 1) turns) ≡ turn setup (state_after setup (take n turns)) orders
state_more setup turns n orders less is =
    ap (state_after setup) (take_more turns n orders less ∙ ap (λ (os : List PlayerCommand). take n turns ++ os ∷ []) (sym is))
    ∙ ap (after setup) (past_more (take n turns) orders)

-- the digests of the states after the first so many turns
abbrev pub digests_to : Setup → List (List PlayerCommand) → ℕ → List (List ℕ)
digests_to setup turns count = map (λ n. digest setup (state_after setup (take n turns))) (range_with_len 0 count)

pub digests_more : (setup : Setup) (turns : List (List PlayerCommand)) (n : ℕ) (state : State) (digests new : List (List ℕ))
    → state ≡ state_after setup (take n turns)
    → digests ≡ digests_to setup turns n → new ≡ digests ++ digest setup state ∷ [] → new ≡ digests_to setup turns (n + 1)
digests_more setup turns n state digests new is so_far made =
    made
    ∙ ap (λ (ds : List (List ℕ)). ds ++ digest setup state ∷ []) so_far
    ∙ ap (λ (s : State). digests_to setup turns n ++ digest setup s ∷ []) is
    ∙ sym (map-range_with_len_more (λ k. digest setup (state_after setup (take k turns))) 0 n n (omega arith))

-- all of them
pub all_digests : (setup : Setup) (turns : List (List PlayerCommand)) (n : ℕ) → n ≡ length turns → digests_to setup turns (n + 1) ≡ digests_after setup turns
all_digests setup turns n is = let all : n + 1 ≡ suc (length turns) = omega (arith, is) in ap (digests_to setup turns) all

pub whole_state : (setup : Setup) (turns : List (List PlayerCommand)) (n : ℕ) → n ≡ length turns → state_after setup (take n turns) ≡ state_after setup turns
whole_state setup turns n is = ap (state_after setup) (take_all n turns (omega (arith, is)))

-- ---- the match's own turns

own_past : (setup : Setup) (n : ℕ) → past_of (map (λ t. orders_at t setup.commands) (range_with_len 1 n)) ≡ own_turns setup 0 n
own_past setup zero = refl
own_past setup (suc n) =
    let orders : ℕ → List PlayerCommand = λ t. orders_at t setup.commands in
    let more : suc n ≡ n + 1 = omega arith in
    let next : 1 + n ≡ 0 + suc n = omega arith in
    ap (λ (k : ℕ). past_of (map orders (range_with_len 1 k))) more
    ∙ ap past_of (map-range_with_len_more orders 1 n (1 + n) refl)
    ∙ past_more (map orders (range_with_len 1 n)) (orders (1 + n))
    ∙ ap (λ (k : ℕ). Turn (orders k) ∷ past_of (map orders (range_with_len 1 n))) next
    ∙ ap (λ (p : Past). Turn (orders (0 + suc n)) ∷ p) (own_past setup n)

pub match_state : (setup : Setup) → state_after setup (match_turns setup) ≡ last_state setup
match_state setup = ap (after setup) (own_past setup setup.turns)

pub match_length : (setup : Setup) → length (match_turns setup) ≡ setup.turns
match_length setup = length-map-range_with_len (λ t. orders_at t setup.commands) 1 setup.turns

pub match_players : (setup : Setup) → IsSetup setup → All (All (IsOrderOf setup)) (match_turns setup)
match_players setup limits = by 1 setup.turns (omega arith)
  where
    by : (first n : ℕ) → 1 ≤ first → All (All (IsOrderOf setup)) (map (λ t. orders_at t setup.commands) (range_with_len first n))
    by first zero low = All-nil (All (IsOrderOf setup))
    by zero (suc n) low = absurd (omega (arith, low))
    by (suc before) (suc n) low =
        let here : before + 1 ≡ suc before = omega arith in
        All-cons (All (IsOrderOf setup)) _ _ (subst (λ (t : ℕ). All (IsOrderOf setup) (orders_at t setup.commands)) here (players_at setup before limits))
        (by (suc before + 1) n (omega arith))

-- what is known of the digests of a board of the same match
pub same_digests : {E : Type 0} (r : Result (List (List ℕ)) E) (setup same : Setup) (turns : List (List PlayerCommand)) → same ≡ setup
    → IfOk r (λ digests. digests ≡ digests_after same turns) → IfOk r (λ digests. digests ≡ digests_after setup turns)
same_digests (Err none) setup same turns e is = tt
same_digests (Ok digests) setup same turns e is = is ∙ ap (λ (s : Setup). digests_after s turns) e

-- the log of turns has as many digests as it must
pub log_of_turns : (setup : Setup) (turns : List (List PlayerCommand)) (log : Log) → length turns ≤ setup.turns → log ≡ log_after setup turns
    → IsOfTurns setup log
log_of_turns setup turns log few is =
    let same : length log.turns ≡ length turns = ap (λ (l : Log). length l.turns) is in
    let digests : length log.digests ≡ suc (length turns) =
    ap (λ (l : Log). length l.digests) is ∙ length-map-range_with_len (λ n. digest setup (state_after setup (take n turns))) 0 (suc (length turns)) in
    record { few = omega (arith, same, few); one_more = omega (arith, same, digests) }

-- so has that of the match's own turns
pub log_of_match : (setup : Setup) (log : Log) → log ≡ log_after setup (match_turns setup) → IsOfTurns setup log
log_of_match setup log is = log_of_turns setup (match_turns setup) log (omega (arith, match_length setup)) is
