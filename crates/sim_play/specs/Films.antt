-- A film of a match: its states, so many turns apart, as text.
use Rattle.sim_play.specs.Common.{after, digest, Log, orders_at, own_turns, Past, PlayerCommand, range_with_len, Setup, show_text, State, Turn, turn_line}
use Rattle.sim_play.specs.Common.{ways_text}
use Rattle.std.specs.Prelude.{[], Bool, codes, filter, flat_map, if◌then◌else◌, length, List, map, reverse, suc, take, ℕ, ◌%◌, ◌++◌, ◌+◌, ◌==◌, ◌||◌}

-- the state of the last turn
abbrev pub last_state : Setup → State
last_state setup = after setup (own_turns setup 0 setup.turns)

-- what is told of a state: its turn and its digest, what `show` prints of it, and the ways of its rows
abbrev pub frame_text : Setup → State → List ℕ
frame_text setup state = turn_line (codes "turn") state.turn (digest setup state) ++ (show_text setup state ++ ways_text state)

-- whether a turn is told: each that so many divide, and the last one
abbrev pub is_told : ℕ → ℕ → ℕ → Bool
is_told every last turn = turn % every == 0 || turn == last

-- the first so many turns, from 0 on, without those that are not told
abbrev pub told_turns : ℕ → ℕ → ℕ → List ℕ
told_turns every last n = filter (is_told every last) (range_with_len 0 n)

-- the frame of a turn, whose state is `after` the match's own turns
abbrev pub frame_at : Setup → ℕ → List ℕ
frame_at setup turn = frame_text setup (after setup (own_turns setup 0 turn))

-- the frames of so many turns
abbrev pub frames : Setup → ℕ → ℕ → List ℕ
frames setup every n = flat_map (frame_at setup) (told_turns every setup.turns n)

-- those of all turns of a match
abbrev pub film_text : Setup → ℕ → List ℕ
film_text setup every = frames setup every (setup.turns + 1)

-- the frame of a state, if its turn is told
abbrev pub told_frame : ℕ → Setup → State → List ℕ
told_frame every setup state = if is_told every setup.turns state.turn then frame_text setup state else []

-- The log of turns of a match: their commands, and the digests of the states after the first so many of them.

-- the past in which just these turns were played, the newest first
abbrev pub past_of : List (List PlayerCommand) → Past
past_of turns = reverse (map Turn turns)

-- the state after these turns
abbrev pub state_after : Setup → List (List PlayerCommand) → State
state_after setup turns = after setup (past_of turns)

-- the digests of the states after the first 0, 1, 2 .. and all of these turns
abbrev pub digests_after : Setup → List (List PlayerCommand) → List (List ℕ)
digests_after setup turns = map (λ n. digest setup (state_after setup (take n turns))) (range_with_len 0 (suc (length turns)))

-- the log of these turns
abbrev pub log_after : Setup → List (List PlayerCommand) → Log
log_after setup turns = record { turns = turns; digests = digests_after setup turns }

-- the match's own turns, from 1 to the last
abbrev pub match_turns : Setup → List (List PlayerCommand)
match_turns setup = map (λ t. orders_at t setup.commands) (range_with_len 1 setup.turns)
