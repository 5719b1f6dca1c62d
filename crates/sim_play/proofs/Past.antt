-- One turn more of a match's own past: its state and its line.
use Rattle.sim_play.proofs.Common.{Err, List, map, Ok, refl, suc, sym, true, zero, ◌*◌, ◌++◌, ◌+◌, ◌-◌, ◌||◌, ◌∙◌, ◌∷◌, ◌≡◌, ◌≤◌}
use Rattle.sim_play.proofs.Common.{[], cells_in, digest, filter, flag_in, frame_at, frames, Global, is_told, last_of, later_of, own_turns, states_to, turn_line}
use Rattle.sim_play.proofs.Common.{after, append-nil, extent_in, frame_text, is_visible, joined_at, past_lines, sight_file, told_frame, told_turns, was_visible}
use Rattle.sim_play.proofs.Common.{after_counts_turns, explored_file, explored_start, flat_map-append, range_with_len, told_from_a_file, told_from_the_start, ℕ}
use Rattle.sim_play.proofs.Common.{ap, arith, blind, Bool, codes, false, fold, from, IfOk, is_set, length, map-id, one_if, Result, Setup, State, String, Vision}
use Rattle.sim_play.proofs.Common.{append_assoc, fold-append, if◌then◌else◌, OutOfMemory, rejoin_text, resight_text, sight_lines, string_bytes, vision_after}
use Rattle.sim_play.proofs.Common.{filter_of_map_range_with_len_more, first_state, map-range_with_len_more, own_turns_are_so_many, sight_text as text_of_vision}
use Rattle.{sim_laws.proofs.Turning.first-turn, sim_play.proofs.Playing.one_turn_more, sim_play.specs.Lines.sight_text, std.specs.Prelude.flat_map}

-- after so many turns the state stands at that turn
pub own_turn : (setup : Setup) (n : ℕ) → (after setup (own_turns setup 0 n)).turn ≡ n
own_turn setup n = after_counts_turns setup (own_turns setup 0 n) ∙ own_turns_are_so_many setup 0 n

-- the turn that is played next is the match's own
pub own_more : (setup : Setup) (old new : State) (t : ℕ) → old.turn ≡ t → new ≡ from setup old (own_turns setup old.turn (t + 1 - old.turn))
    → old ≡ after setup (own_turns setup 0 t)
    → new ≡ after setup (own_turns setup 0 (t + 1))
own_more setup old new t at is so_far =
    let start = first_state setup in
    let none = first-turn setup in
    let place : t ≡ start.turn + t = omega (arith, none) in
    let more : suc t ≡ t + 1 = omega arith in
    one_turn_more setup old new t at is start t place (so_far ∙ ap (λ (k : ℕ). from setup start (own_turns setup k t)) (sym none))
    ∙ ap (λ (k : ℕ). from setup start (own_turns setup k (suc t))) none
    ∙ ap (λ (k : ℕ). after setup (own_turns setup 0 k)) more

-- the lines so far, and the line of one turn more
pub past_lines-more : (word : List ℕ) (setup : Setup) (start n t : ℕ) (old text more hash : List ℕ) → text ≡ old ++ past_lines word setup start n
    → more ≡ text ++ turn_line word t hash → t ≡ start + n
    → hash ≡ digest setup (after setup (own_turns setup 0 t)) → more ≡ old ++ past_lines word setup start (suc n)
past_lines-more word setup start n t old text more hash so_far written number is =
    let lines = past_lines word setup start n in
    written
    ∙ ap (λ (xs : List ℕ). xs ++ turn_line word t hash) so_far
    ∙ append_assoc old lines (turn_line word t hash)
    ∙ ap (λ (d : List ℕ). old ++ (lines ++ turn_line word t d)) is
    ∙ ap (λ (k : ℕ). old ++ (lines ++ turn_line word k (digest setup (after setup (own_turns setup 0 k))))) number

-- the lines of two stretches of turns, one behind the other
pub past_lines-append : (word : List ℕ) (setup : Setup) (start m n : ℕ) → past_lines word setup start m ++ past_lines word setup (start + m) n ≡ past_lines word
    setup start (m + n)
past_lines-append word setup start m zero =
    let none : m ≡ m + 0 = omega arith in
    append-nil (past_lines word setup start m) ∙ ap (past_lines word setup start) none
past_lines-append word setup start m (suc n) =
    let line = λ (k : ℕ). turn_line word k (digest setup (after setup (own_turns setup 0 k))) in
    let number : start + m + n ≡ start + (m + n) = omega arith in
    let many : suc (m + n) ≡ m + suc n = omega arith in
    sym (append_assoc (past_lines word setup start m) (past_lines word setup (start + m) n) (line (start + m + n)))
    ∙ ap (λ (xs : List ℕ). xs ++ line (start + m + n)) (past_lines-append word setup start m n)
    ∙ ap (λ (k : ℕ). past_lines word setup start (m + n) ++ line k) number
    ∙ ap (past_lines word setup start) many

-- the line of a turn, and those of the turns behind it
pub past_lines-first : (word : List ℕ) (setup : Setup) (start n : ℕ) → turn_line word start (digest setup (after setup (own_turns setup 0 start))) ++
    past_lines word setup (suc start) n ≡ past_lines word setup start (suc n)
past_lines-first word setup start n =
    let line = λ (k : ℕ). turn_line word k (digest setup (after setup (own_turns setup 0 k))) in
    let same : start ≡ start + 0 = omega arith in
    let next : suc start ≡ start + 1 = omega arith in
    let many : 1 + n ≡ suc n = omega arith in
    ap (λ (k : ℕ). line k ++ past_lines word setup (suc start) n) same
    ∙ ap (λ (k : ℕ). past_lines word setup start 1 ++ past_lines word setup k n) next
    ∙ past_lines-append word setup start 1 n
    ∙ ap (past_lines word setup start) many

-- a board that was started has no past
pub own_start : (setup : Setup) (state : State) → state ≡ first_state setup → state ≡ after setup (own_turns setup 0 state.turn)
own_start setup state is = is ∙ ap (λ (k : ℕ). after setup (own_turns setup 0 k)) (sym (ap (λ (s : State). s.turn) is ∙ first-turn setup))

-- a state after so many of the match's own turns stands at that turn
module _ (setup : Setup) (state : State) (n : ℕ) (is : state ≡ after setup (own_turns setup 0 n)) where
  pub own_at : state.turn ≡ n
  own_at = ap (λ (s : State). s.turn) is ∙ own_turn setup n

  pub own_by_turn : state ≡ after setup (own_turns setup 0 state.turn)
  own_by_turn = is ∙ ap (λ (k : ℕ). after setup (own_turns setup 0 k)) (sym own_at)

-- the line of a state, and those of the turns behind it
pub begun_lines : (word : List ℕ) (setup same : Setup) (state : State) (n : ℕ) (old middle new : List ℕ) → same ≡ setup
    → state ≡ after setup (own_turns setup 0 state.turn)
    → middle ≡ old ++ turn_line word state.turn (digest same state) → new ≡ middle ++ past_lines word same (suc state.turn) n
    → new ≡ old ++ past_lines word setup state.turn (suc n)
begun_lines word setup same state n old middle new of_same own first rest =
    rest
    ∙ ap (λ (xs : List ℕ). xs ++ past_lines word same (suc state.turn) n) first
    ∙ append_assoc old (turn_line word state.turn (digest same state)) (past_lines word same (suc state.turn) n)
    ∙ ap (λ (s : Setup). old ++ (turn_line word state.turn (digest s state) ++ past_lines word s (suc state.turn) n)) of_same
    ∙ ap (λ (s : State). old ++ (turn_line word state.turn (digest setup s) ++ past_lines word setup (suc state.turn) n)) own
    ∙ ap (λ (xs : List ℕ). old ++ xs) (past_lines-first word setup state.turn n)

-- the lines up to a turn, and those of the turns behind it
pub ended_lines : (word : List ℕ) (setup same : Setup) (at turn until : ℕ) (old middle new : List ℕ) → same ≡ setup → at ≡ turn → turn ≤ until
    → middle ≡ old ++ past_lines word setup 0 (suc turn) → new ≡ middle ++ past_lines word same (suc at) (until - at) → new ≡ old ++ past_lines word setup 0
    (suc until)
ended_lines word setup same at turn until old middle new of_same is le first rest =
    let next : suc turn ≡ 0 + suc turn = omega arith in
    let many : suc turn + (until - turn) ≡ suc until = omega (arith, le) in
    rest
    ∙ ap (λ (xs : List ℕ). xs ++ past_lines word same (suc at) (until - at)) first
    ∙ append_assoc old (past_lines word setup 0 (suc turn)) (past_lines word same (suc at) (until - at))
    ∙ ap (λ (s : Setup). old ++ (past_lines word setup 0 (suc turn) ++ past_lines word s (suc at) (until - at))) of_same
    ∙ ap (λ (k : ℕ). old ++ (past_lines word setup 0 (suc turn) ++ past_lines word setup (suc k) (until - k))) is
    ∙ ap (λ (k : ℕ). old ++ (past_lines word setup 0 (suc turn) ++ past_lines word setup k (until - turn))) next
    ∙ ap (λ (xs : List ℕ). old ++ xs) (past_lines-append word setup 0 (suc turn) (until - turn))
    ∙ ap (λ (k : ℕ). old ++ past_lines word setup 0 k) many

-- the lines of the first client, and those of the second from the turn at which it joined
pub joined_text : (setup : Setup) (at turn : ℕ) (first : List ℕ) (text : Result (String Global) OutOfMemory) → at ≡ turn
    → first ≡ past_lines (codes "first") setup 0 (suc setup.turns)
    → IfOk text (λ made. string_bytes made ≡ first ++ past_lines (codes "second") setup at (suc (setup.turns - at)))
    → IfOk text (λ made. string_bytes made ≡ rejoin_text setup turn)
joined_text setup at turn first (Err none) is lines h = tt
joined_text setup at turn first (Ok made) is lines h =
    h ∙ ap (λ (xs : List ℕ). xs ++ past_lines (codes "second") setup at (suc (setup.turns - at))) lines
    ∙ ap (λ (k : ℕ). past_lines (codes "first") setup 0 (suc setup.turns) ++ past_lines (codes "second") setup k (suc (setup.turns - k))) is

-- The frame of one turn more, if it is told.

-- one turn more is told or not
told_more : (every last n : ℕ)
    → told_turns every last (n + 1) ≡ told_turns every last n ++ (if is_told every last n then n ∷ [] else [])
told_more every last n =
    let test : ℕ → Bool = is_told every last in
    let here : 0 + n ≡ n = omega arith in
    ap (filter test) (sym (map-id (range_with_len 0 (n + 1))))
    ∙ filter_of_map_range_with_len_more test (λ (k : ℕ). k) 0 n n here
    ∙ ap (λ (ks : List ℕ). filter test ks ++ (if test n then n ∷ [] else [])) (map-id (range_with_len 0 n))

-- and its frame is there or not
frames_more : (setup : Setup) (every n : ℕ)
    → frames setup every (n + 1) ≡ frames setup every n ++ (if is_told every setup.turns n then frame_at setup n else [])
frames_more setup every n =
    let told = is_told every setup.turns n in
    ap (flat_map (frame_at setup)) (told_more every setup.turns n)
    ∙ flat_map-append (frame_at setup) (told_turns every setup.turns n) (if told then n ∷ [] else [])
    ∙ ap (λ (text : List ℕ). frames setup every n ++ text) (one told)
  where
    one : (b : Bool) → flat_map (frame_at setup) (if b then n ∷ [] else []) ≡ (if b then frame_at setup n else [])
    one true = append-nil (frame_at setup n)
    one false = refl

-- the frames so far, and what is told of the state of the next turn
pub film_more : (setup : Setup) (every n : ℕ) (state : State) (old text new : List ℕ) → state ≡ after setup (own_turns setup 0 n)
    → text ≡ old ++ frames setup every n → new ≡ text ++ told_frame every setup state → new ≡ old ++ frames setup every (n + 1)
film_more setup every n state old text new is so_far written =
    let before = frames setup every n in
    written
    ∙ ap (λ (xs : List ℕ). xs ++ told_frame every setup state) so_far
    ∙ append_assoc old before (told_frame every setup state)
    ∙ ap (λ (k : ℕ). old ++ (before ++ (if is_told every setup.turns k then frame_text setup state else []))) (own_at setup state n is)
    ∙ ap (λ (s : State). old ++ (before ++ (if is_told every setup.turns n then frame_text setup s else []))) is
    ∙ ap (λ (xs : List ℕ). old ++ xs) (sym (frames_more setup every n))

-- The states of turns, one more at the end or the first apart.

-- whatever has followed so many states of turns, after one turn more
pub followed_more : {X : Type 0} (next : X → State → X) (setup : Setup) (start state : State) (n : ℕ) (first : X) →
    state ≡ from setup start (own_turns setup start.turn (suc n)) →
    next (fold next first (later_of setup start n)) state ≡ fold next first (later_of setup start (suc n))
followed_more {X} next setup start state n first is =
    let at = λ (k : ℕ). from setup start (own_turns setup start.turn k) in
    let number : 1 + n ≡ suc n = omega arith in
    let more : n + 1 ≡ suc n = omega arith in
    ap (next (fold next first (later_of setup start n))) is
    ∙ sym (fold-append next first (later_of setup start n) (at (suc n) ∷ []))
    ∙ ap (fold next first) (sym (map-range_with_len_more at 1 n (suc n) number))
    ∙ ap (λ (k : ℕ). fold next first (later_of setup start k)) more

-- those of a match that was started
module _ {X : Type 0} (next : X → State → X) (setup same : Setup) (state : State) (of_same : same ≡ setup) (is : state ≡ first_state setup) where
  at_start : state.turn ≡ 0
  at_start = ap (λ (s : State). s.turn) is ∙ own_turn setup 0

  pub from_the_start : (turn : ℕ) (first : X) → fold next (next first state) (later_of same state (turn - state.turn)) ≡ fold next first (states_to setup turn)
  from_the_start turn first =
      ap (λ (s : Setup). fold next (next first state) (map (λ (k : ℕ). from s state (own_turns s state.turn k))
      (range_with_len 1 (turn - state.turn)))) of_same
      ∙ ap (λ (n : ℕ). fold next (next first state) (map (λ (k : ℕ). from setup state (own_turns setup n k)) (range_with_len 1 (turn - n)))) at_start
      ∙ ap (λ (s : State). fold next (next first s) (map (λ (k : ℕ). from setup s (own_turns setup 0 k)) (range_with_len 1 (turn - 0)))) is
      ∙ ap (λ (n : ℕ). fold next first (states_to setup n)) (whole turn)
    where
      whole : (n : ℕ) → n - 0 ≡ n
      whole n = omega arith

-- ---- what they come to

-- the last of the states of so many turns
last_is : (at : ℕ → State) (from n : ℕ) → last_of (at from) (map at (range_with_len (from + 1) n)) ≡ at (from + n)
last_is at from zero = ap at (let same : from ≡ from + 0 = omega arith in same)
last_is at from (suc n) = last_is at (from + 1) n ∙ ap at (let same : from + 1 + n ≡ from + suc n = omega arith in same)

last_from_0 : (at : ℕ → State) (n : ℕ) → last_of (at 0) (map at (range_with_len 1 n)) ≡ at n
last_from_0 at n = last_is at 0 n ∙ ap at (let same : 0 + n ≡ n = omega arith in same)

pub started_text : (setup : Setup) (turn : ℕ) → text_of_vision (vision_after (blind setup) (states_to setup turn)) ≡ sight_text setup turn
started_text setup turn =
    let at = λ (t : ℕ). after setup (own_turns setup 0 t) in
    told_from_the_start setup (at 0) (map at (range_with_len 1 turn))
    ∙ ap (λ (s : State). sight_lines setup (is_visible setup s.rows) (was_visible setup (states_to setup turn))) (last_from_0 at turn)

pub started_file : (setup : Setup) (turn : ℕ) → explored_file (vision_after (blind setup) (states_to setup turn)) ≡ sight_file setup turn
started_file setup turn = ap (map one_if) (explored_start setup (states_to setup turn))

resumed_text : (setup : Setup) (state : State) (bytes : List ℕ) → length bytes ≡ setup.players * cells_in setup →
    text_of_vision (vision_after (joined_at setup state bytes) (later_of setup state (setup.turns - state.turn))) ≡ resight_text setup state bytes
resumed_text setup state bytes full =
    let at = λ (k : ℕ). from setup state (own_turns setup state.turn k) in
    let n = setup.turns - state.turn in
    told_from_a_file setup state bytes (later_of setup state n) full
    ∙ ap (λ (s : State). sight_lines setup (is_visible setup s.rows) (λ player c. flag_in (extent_in setup)
    (map is_set bytes) player c || was_visible setup (later_of setup state n) player c)) (last_from_0 at n)

-- the same of a text that was made, if there was memory
pub resumed_told : (text : Result (String Global) OutOfMemory) (setup same : Setup) (state : State) (sight : Vision) → same ≡ setup →
    IfOk text (λ made. string_bytes made ≡ text_of_vision (vision_after sight (later_of same state (same.turns - state.turn)))) →
    IfOk text (λ made. (bytes : List ℕ) → sight ≡ joined_at setup state bytes → length bytes ≡ setup.players * cells_in setup →
    string_bytes made ≡ resight_text setup state bytes)
resumed_told (Err none) setup same state sight of_same told = tt
resumed_told (Ok made) setup same state sight of_same told = λ bytes joined full.
    told
    ∙ ap (λ (s : Setup). text_of_vision (vision_after sight (later_of s state (s.turns - state.turn)))) of_same
    ∙ ap (λ (v : Vision). text_of_vision (vision_after v (later_of setup state (setup.turns - state.turn)))) joined
    ∙ resumed_text setup state bytes full
