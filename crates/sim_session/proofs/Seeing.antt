-- What is seen of clients that have states is what is told of those that have pasts.
use Rattle.sim_plain_session.specs.Clients as plain
use Rattle.{sim_pipes.specs.Pipes.AreFrames, sim_plain_session.proofs.PlayerLemmas.same_turn}
use Rattle.sim_session.proofs.{Telling.told_same, TextCommon.{ap, append_assoc, beside_seen, clients_apart, codes, end_line, end_of, end_seen, ending_seen}}
use Rattle.sim_session.proofs.TextCommon.{ends_seen, event_line, events_after, flat_map-append, Joining, Life, life_of, lines_of, List, Lives, map, Off, On}
use Rattle.sim_session.proofs.TextCommon.{opened, pair_apart, pipe_in, pipe_line, pipes_seen, refl, Seen, Session, session_of, session_text, Setup, Some}
use Rattle.sim_session.proofs.TextCommon.{StandsFor, start_events, State, state_at, state_of, StepList, told_of, ℕ, [], ◌++◌, ◌<◌, ◌∙◌, ◌∷◌, ◌≡◌, ◌≤◌}
use Rattle.sim_session.specs.{Endings.{down_frames, end_lines, pipe_lines, pipes_of, up_frames}, Laws.{apart_lines, ending_lines}}
use Rattle.{sim_session.specs.Seen.{AllLive, EndingsAreSeen, pairs_seen}, sim_wire.specs.Reading.{down_frame, IsDownFrame, IsUpFrame, up_frame}}

pub end_same : (setup : Setup) (life : Life) (phase : plain.Phase) → Lives setup life phase → end_seen setup life ≡ end_of setup phase
end_same setup Off plain.Off lives = refl
end_same setup Off plain.Joining lives = absurd lives
end_same setup Off (plain.On seat) lives = absurd lives
end_same setup Joining plain.Off lives = absurd lives
end_same setup Joining plain.Joining lives = refl
end_same setup Joining (plain.On seat) lives = absurd lives
end_same setup (On player) plain.Off lives = absurd lives
end_same setup (On player) plain.Joining lives = absurd lives
end_same setup (On player) (plain.On seat) lives = let same = same_turn setup player seat lives in let turn = same.0 in let shown = same.1 in cc

pub state_same : (setup : Setup) (life : Life) (phase : plain.Phase) → Lives setup life phase → state_of life ≡ state_at setup phase
state_same setup Off plain.Off lives = refl
state_same setup Off plain.Joining lives = absurd lives
state_same setup Off (plain.On seat) lives = absurd lives
state_same setup Joining plain.Off lives = absurd lives
state_same setup Joining plain.Joining lives = refl
state_same setup Joining (plain.On seat) lives = absurd lives
state_same setup (On player) plain.Off lives = absurd lives
state_same setup (On player) plain.Joining lives = absurd lives
state_same setup (On player) (plain.On seat) lives = ap (λ (s : State). Some s) lives.state

pub ends_same : (setup : Setup) (lives : ℕ → Life) (s : Session) → AllLive setup lives s → ends_seen setup lives setup.players ≡ end_lines setup s
ends_same setup lives s live =
    told_same (λ c. end_line c (end_seen setup (lives c))) (λ c. end_line c (end_of setup (s.client c))) setup.players
    (λ c low high. ap (end_line c) (end_same setup (lives c) (s.client c) (live c low high)))

pub pairs_same : (setup : Setup) (lives : ℕ → Life) (s : Session) → AllLive setup lives s → pairs_seen lives setup.players ≡ apart_lines setup s
pairs_same setup lives s live =
    told_same (beside_seen lives setup.players) (λ a. told_of (clients_apart setup s a) setup.players) setup.players
    (λ a low high. told_same (λ b. pair_apart a b (state_of (lives a)) (state_of (lives b))) (clients_apart setup s a) setup.players
    (λ b low' high'.
    let left = state_same setup (lives a) (s.client a) (live a low high) in
    let right = state_same setup (lives b) (s.client b) (live b low' high') in
    cc))

-- the frames of messages are those that are made of them
pub frames_are : {M : Type 0} (IsFrame : List ℕ → M → Type 0) (frame_of : M → List ℕ) → ((bytes : List ℕ) (m : M) → IsFrame bytes m → bytes ≡ frame_of m)
    → (frames : List (List ℕ)) (messages : List M) → AreFrames IsFrame frames messages → frames ≡ map frame_of messages
frames_are IsFrame frame_of framed [] [] are = refl
frames_are IsFrame frame_of framed [] (m ∷ ms) are = absurd are
frames_are IsFrame frame_of framed (f ∷ fs) [] are = absurd are
frames_are IsFrame frame_of framed (f ∷ fs) (m ∷ ms) are =
    let first = framed f m are.0 in
    let rest = frames_are IsFrame frame_of framed fs ms are.1 in
    cc

pub pipes_same : (setup : Setup) (ups downs : ℕ → List (List ℕ)) (s : Session)
    → ((c : ℕ) → 0 < c → c ≤ setup.players → ups c ≡ up_frames setup s c) → ((c : ℕ) → 0 < c → c ≤ setup.players → downs c ≡ down_frames setup s c)
    → pipes_seen ups downs setup.players ≡ pipe_lines setup s
pipes_same setup ups downs s ups_are downs_are =
    told_same (λ c. pipe_line c (codes "up") (ups c) ++ pipe_line c (codes "down") (downs c)) (pipes_of setup s) setup.players
    (λ c low high. let up = ups_are c low high in let down = downs_are c low high in cc)

pub endings_same : EndingsAreSeen
endings_same setup lives held s live conveys =
    let server = conveys.server in
    let pairs = pairs_same setup lives s live in
    let ends = ends_same setup lives s live in
    let pipes = pipes_same setup (pipe_in held.ups) (pipe_in held.downs) s
    (λ c low high. frames_are IsUpFrame up_frame (λ bytes m is. is.framed) _ _ (conveys.ups c low high))
    (λ c low high. frames_are IsDownFrame down_frame (λ bytes m is. is.framed) _ _ (conveys.downs c low high)) in
    cc

-- All that is printed of a session.

-- its beginning, its steps and what it has come to, one behind the other
pub told_whole : (setup : Setup) (list : StepList) (seen : Seen) (n : ℕ) (old begun made new : List ℕ) → n ≡ setup.players
    → StandsFor setup seen (session_of setup list)
    → begun ≡ old ++ lines_of (start_events setup list.clients)
    → made ≡ begun ++ lines_of (events_after setup (opened setup list.clients) list.steps)
    → new ≡ made ++ ending_seen setup (life_of seen.lives) seen.held n
    → new ≡ old ++ session_text setup list
told_whole setup list seen n old begun made new count stands first second third =
    let starts : List ℕ = lines_of (start_events setup list.clients) in
    let steps : List ℕ = lines_of (events_after setup (opened setup list.clients) list.steps) in
    let ending : List ℕ = ending_lines setup (session_of setup list) in
    let seen_is : ending_seen setup (life_of seen.lives) seen.held n ≡ ending =
    ap (ending_seen setup (life_of seen.lives) seen.held) count ∙ endings_same setup (life_of seen.lives) seen.held (session_of setup list) stands.lives
    stands.held in
    let lines = flat_map-append event_line (start_events setup list.clients) (events_after setup (opened setup list.clients) list.steps) in
    let one : (old ++ starts) ++ steps ≡ old ++ (starts ++ steps) = append_assoc old starts steps in
    let two : (old ++ (starts ++ steps)) ++ ending ≡ old ++ ((starts ++ steps) ++ ending) = append_assoc old (starts ++ steps) ending in
    cc
