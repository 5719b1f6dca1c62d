-- Protocols that are wrong, each with the law whose words it breaks: a few steps lead it to a session of which the law is false.
use Rattle.sim_session_laws.proofs.Common.{[], ◌++◌, ◌∷◌, ◌≡◌, ◌≤◌, Acted, acts, after_steps, All-head, arith, begun, BehindStateAreKept, DonesAreNear}
use Rattle.sim_session_laws.proofs.Common.{DonesAreTurns, Down, idle, In, inl, inr, IsOrderOf, Joining, keeps, KeptAreOfPlayers, KnownAndComingAreKept, List}
use Rattle.sim_session_laws.proofs.Common.{max, min, Off, OffIsOut, On, opened, order, Out, Phase, played, PlayerCommand, put, refl, Resign, Seat, Server}
use Rattle.sim_session_laws.proofs.Common.{Session, session, Setup, Status, Step, stepped, three, told, Turn, TurnsAreReleased, two, UnbentAreKept, Waiting, ℕ}
use Rattle.sim_base.specs.declared.step.Step.TheVariants as step
use Rattle.sim_plain.specs.declared.message.DownOf.TheVariants as down
use Rattle.sim_plain.specs.declared.message.UpOf.TheVariants as up

abbrev resigns : ℕ → PlayerCommand
resigns player = order player Resign

-- ---- a server that releases when most of three clients are done

-- the turns that a client is done with, where it is in
abbrev done_of : Status → ℕ
done_of Out = 0
done_of (Waiting donor) = 0
done_of (In done) = done

-- the middle one of three numbers
abbrev middle : ℕ → ℕ → ℕ → ℕ
middle a b c = max (min a b) (max (min b c) (min a c))

-- released are the turns that two of three clients are done with
abbrev released_by_most : Server → Server
released_by_most s = record s { released = max s.released (middle (done_of (s.status 1)) (done_of (s.status 2)) (done_of (s.status 3))) }

abbrev hasty : Session → List Step → Session
hasty s [] = s
hasty s (x ∷ xs) = let next = stepped three s x in hasty (record next { server = released_by_most next.server }) xs

-- clients 1 and 2 are done with turn 3, and client 3 is not
abbrev two_are_done : List Step
two_are_done = step.Play 1 ∷ step.Up 1 ∷ step.Up 1 ∷ step.Play 2 ∷ step.Up 2 ∷ step.Up 2 ∷ []

-- it releases a turn of which not all are done
hasty_is_ahead : DonesAreTurns three (hasty (opened three 3) two_are_done) → ⊥
hasty_is_ahead law = let low : 3 ≤ 2 = (law 3 2 refl).0 in omega arith

-- and so a command of a released turn comes, and what is kept of it is not final
hasty_is_not_final : let s = hasty (opened three 3) two_are_done in let more = hasty (opened three 3) (two_are_done ++ step.Order 3 Resign ∷ step.Up 3 ∷ []) in
    ((t : ℕ) → t ≤ s.server.released → more.server.kept t ≡ s.server.kept t) → ⊥
hasty_is_not_final law = let taken : resigns 3 ∷ [] ≡ [] = law 3 (omega arith) in cc

-- ---- a server that hands a state on without the commands that it kept above its turn

abbrev without_commands : List Down → List Down
without_commands [] = []
without_commands (down.Ask j ∷ downs) = down.Ask j ∷ without_commands downs
without_commands (down.State done past ∷ downs) = down.State done past ∷ without_commands downs
without_commands (down.Command t x ∷ downs) = without_commands downs
without_commands (down.Release t ∷ downs) = down.Release t ∷ without_commands downs
without_commands (down.Notice t j ∷ downs) = down.Notice t j ∷ without_commands downs
without_commands (down.Refused code ∷ downs) = down.Refused code ∷ without_commands downs

-- client 1 has given a command of turn 3 as client 3 joins, and its state for client 3 has arrived
abbrev loading : List Step
loading = step.Order 1 Resign ∷ step.Up 1 ∷ step.Join 3 ∷ step.Up 3 ∷ step.Down 1 ∷ step.Down 1 ∷ step.Up 1 ∷ []

abbrev bare : Session
bare = let s = session three 2 loading in record s { downs = put 3 (without_commands (s.downs 3)) s.downs }

-- the command of turn 3 is not behind the state
bare_misses : BehindStateAreKept three bare → ⊥
bare_misses law = let missed : [] ≡ resigns 1 ∷ [] = law 3 2 3 [] (down.Release 2 ∷ []) refl refl (omega arith) in cc

-- and the client that has loaded neither knows it nor is told of it
bare_never_knows : KnownAndComingAreKept three (after_steps three bare (step.Down 3 ∷ step.Down 3 ∷ [])) → ⊥
bare_never_knows law = let missed : [] ≡ resigns 1 ∷ [] = law 3 3 (begun 2 2 []) refl (omega arith) in cc

-- ---- a client that plays a turn before its release

abbrev plays_ahead : Setup → ℕ → Phase → Acted
plays_ahead setup c Off = idle Off
plays_ahead setup c Joining = idle Joining
plays_ahead setup c (On seat) = told setup c (played seat)

-- client 1 has played the two released turns, and plays the third
abbrev impatient : Session
impatient = let s = session two 2 (step.Play 1 ∷ step.Play 1 ∷ []) in acts 1 (plays_ahead two 1 (s.client 1)) s

abbrev seat_of : Phase → Seat
seat_of Off = begun 0 0 []
seat_of Joining = begun 0 0 []
seat_of (On seat) = seat

impatient_is_ahead : TurnsAreReleased two impatient → ⊥
impatient_is_ahead law = let ahead : 3 ≤ 2 = (law 1 (seat_of (impatient.client 1)) refl).0 in omega arith

-- a command of that turn comes then, and its past is not what the server keeps
abbrev overtaken : Session
overtaken = after_steps two impatient (step.Order 2 Resign ∷ step.Up 2 ∷ [])

impatient_differs : UnbentAreKept two overtaken → ⊥
impatient_differs law =
    let same : Turn [] ∷ Turn [] ∷ Turn [] ∷ [] ≡ Turn (resigns 2 ∷ []) ∷ Turn [] ∷ Turn [] ∷ [] = law (Turn [] ∷ Turn [] ∷ Turn [] ∷ [])
    (inl (1, seat_of (overtaken.client 1), refl, refl)) refl in cc

-- ---- a client that keeps what it knew at a load

-- client 2 knows of a command, is cut, and loads again
abbrev reloading : List Step
reloading =
    step.Order 1 Resign ∷ step.Up 1 ∷ step.Down 2 ∷ step.Cut 2 ∷ step.Join 2 ∷ step.Up 2 ∷ step.Down 1 ∷ step.Down 1 ∷ step.Up 1 ∷ step.Down 2 ∷ []

abbrev remembers : Seat → Phase → Phase
remembers old Off = Off
remembers old Joining = Joining
remembers old (On seat) = On (record seat { known = old.known })

abbrev mindful : Session
mindful =
    let old = seat_of ((session two 2 (step.Order 1 Resign ∷ step.Up 1 ∷ step.Down 2 ∷ [])).client 2) in
    let s = session two 2 reloading in
    record s { client = put 2 (remembers old (s.client 2)) s.client }

-- the command is known, and comes once more
mindful_knows_twice : KnownAndComingAreKept two mindful → ⊥
mindful_knows_twice law =
    let twice : resigns 1 ∷ resigns 1 ∷ [] ≡ resigns 1 ∷ [] = law 2 3 (seat_of (mindful.client 2)) refl (omega arith) in cc

-- ---- a cut after which old messages still come

abbrev dangling : Session
dangling =
    let s = session two 2 (step.Order 1 Resign ∷ step.Up 1 ∷ []) in
    record (stepped two s (step.Cut 2)) { downs = s.downs }

dangling_is_not_out : OffIsOut two dangling → ⊥
dangling_is_not_out law = let old : down.Command 3 (resigns 1) ∷ [] ≡ [] = (law 2 refl).1 in cc

-- ---- a client that is done with more turns than the delay allows

abbrev eager : Session
eager =
    let s = session two 2 [] in
    acts 1 (record (idle (s.client 1)) { says = up.Done 3 ∷ up.Done 4 ∷ up.Done 5 ∷ [] }) s

eager_is_too_far : DonesAreNear two eager → ⊥
eager_is_too_far law = let near : 5 ≤ 4 = (law 1 5 (inr (inr (inl refl)))).1 in omega arith

-- ---- a server that takes a client's word for who gives a command

abbrev trusting : Session
trusting = let s = session two 2 [] in record s { server = keeps 3 (resigns 9) s.server }

trusting_keeps_a_stranger : KeptAreOfPlayers two trusting → ⊥
trusting_keeps_a_stranger law = let low : 9 ≤ 2 = (All-head (IsOrderOf two) (resigns 9) [] (law 3)).1 in omega arith
