-- The lines of a match that is played.
use Rattle.sim_play.specs.Common.{after, all_seen, digest, extent_in, first_state, flag_in, from, is_set, is_visible, line_end, one_if, own_turns}
use Rattle.sim_play.specs.Common.{range_with_len, Setup, sight_lines, spaced_number, State, turn_line, was_visible}
use Rattle.std.specs.Prelude.{[], codes, length, List, map, suc, zero, ℕ, ◌++◌, ◌+◌, ◌-◌, ◌||◌}

-- So many lines from a state on that stands at a turn: the digest of each is that of the turn function, folded from that
-- state over the match's own turns.
abbrev pub turn_lines : Setup → State → ℕ → ℕ → List ℕ
turn_lines setup state start zero = []
turn_lines setup state start (suc n) =
    turn_lines setup state start n ++ turn_line (codes "turn") (start + n) (digest setup (from setup state (own_turns setup start n)))

-- the lines of a whole match
abbrev pub play_text : Setup → List ℕ
play_text setup = turn_lines setup (first_state setup) 0 (suc setup.turns)

-- the lines from a stored state to the end of its match
abbrev pub resume_text : Setup → State → List ℕ
resume_text setup state = turn_lines setup state state.turn (suc (setup.turns - state.turn))

-- the state at the end of a match that is played from a state on
abbrev pub end_from : Setup → State → State
end_from setup state = from setup state (own_turns setup state.turn (setup.turns - state.turn))

-- So many lines of a match from a turn on, that begin with a word: the digest of each is that of the state after the match's
-- own turns.
abbrev pub past_lines : List ℕ → Setup → ℕ → ℕ → List ℕ
past_lines word setup start zero = []
past_lines word setup start (suc n) =
    past_lines word setup start n ++ turn_line word (start + n) (digest setup (after setup (own_turns setup 0 (start + n))))

-- the lines of a first client that plays a whole match, and of a second that plays on from the first one's state of a turn
abbrev pub rejoin_text : Setup → ℕ → List ℕ
rejoin_text setup turn = past_lines (codes "first") setup 0 (suc setup.turns) ++ past_lines (codes "second") setup turn (suc (setup.turns - turn))

-- what is printed of a trial: the numbers that it was made of, how many rows there are at its end, and their digest
abbrev pub trial_line : ℕ → ℕ → ℕ → Setup → State → List ℕ
trial_line seed units turns setup state =
    codes "trial" ++ (spaced_number seed ++ (spaced_number units ++ (spaced_number turns ++
    (codes " alive" ++ (spaced_number (length state.rows) ++ line_end (digest setup state))))))

-- The states of turns of a match.

-- the states of turns 0 to this one
abbrev pub states_to : Setup → ℕ → List State
states_to setup turn = map (λ t. after setup (own_turns setup 0 t)) (range_with_len 0 (suc turn))

-- the states of so many turns behind a state
abbrev pub later_of : Setup → State → ℕ → List State
later_of setup state n = map (λ k. from setup state (own_turns setup state.turn k)) (range_with_len 1 n)

-- What the players of a match see, and have explored, at a turn of it.

-- a line for each player: the cells that he sees at a turn, and those that were visible in one of the states up to it
abbrev pub sight_text : Setup → ℕ → List ℕ
sight_text setup turn = sight_lines setup (is_visible setup (after setup (own_turns setup 0 turn)).rows) (was_visible setup (states_to setup turn))

-- the file of explored cells at a turn
abbrev pub sight_file : Setup → ℕ → List ℕ
sight_file setup turn = map one_if (all_seen setup (states_to setup turn))

-- a line for each player at the end of a match, from a stored state on and the explored cells of a file
abbrev pub resight_text : Setup → State → List ℕ → List ℕ
resight_text setup state bytes =
    sight_lines setup (is_visible setup (end_from setup state).rows)
    (λ player c. flag_in (extent_in setup) (map is_set bytes) player c || was_visible setup (later_of setup state (setup.turns - state.turn)) player c)
