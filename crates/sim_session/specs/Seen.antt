-- What is printed of a session in the end, as it is seen of clients that have states and of pipes of frames.
use Rattle.sim_client.specs.ClientWords as client
use Rattle.sim_session.specs.declared.ending.End.TheVariants as ends
use Rattle.{sim_base.specs.{declared.setup.Setup.Setup, Spelling.digest}, sim_client.specs.{ClientWords.state_of, declared.client.Client.Client}}
use Rattle.{sim_client.specs.Lives.{Joining, Life, Lives, Off, On}, sim_pipes.specs.Pipes.{Conveys, Held, pipe_in}, sim_plain_session.specs.Sessions.Session}
use Rattle.{sim_server.specs.Standing.server_of, sim_session.specs.{declared.ending.End.End, Endings.{end_line, pipe_line, told_of}}}
use Rattle.{sim_session.specs.Laws.{ending_lines, pair_apart, server_lines}, sim_system.specs.declared.system.System.Ghosts}
use Rattle.std.specs.Prelude.{All, codes, length, List, map, slice_index_or, ℕ, ◌++◌, ◌-◌, ◌<◌, ◌≡◌, ◌≤◌}

-- what a client is that has a state
abbrev pub end_seen : Setup → Life → End
end_seen setup Off = ends.Off
end_seen setup Joining = ends.Joining
end_seen setup (On player) = ends.On player.state.turn (digest setup player.state)

-- what each client is
abbrev pub ends_seen : Setup → (ℕ → Life) → ℕ → List ℕ
ends_seen setup lives = told_of (λ c. end_line c (end_seen setup (lives c)))

-- a client beside each other one
abbrev pub beside_seen : (ℕ → Life) → ℕ → ℕ → List ℕ
beside_seen lives n a = told_of (λ b. pair_apart a b (state_of (lives a)) (state_of (lives b))) n

-- all pairs
abbrev pub pairs_seen : (ℕ → Life) → ℕ → List ℕ
pairs_seen lives n = told_of (beside_seen lives n) n

-- both pipes of each client
abbrev pub pipes_seen : (ℕ → List (List ℕ)) → (ℕ → List (List ℕ)) → ℕ → List ℕ
pipes_seen ups downs = told_of (λ c. pipe_line c (codes "up") (ups c) ++ pipe_line c (codes "down") (downs c))

-- what a session has come to
abbrev pub ending_seen : Setup → (ℕ → Life) → Held → ℕ → List ℕ
ending_seen setup lives held n =
    server_lines setup (server_of held.server) ++ (pairs_seen lives n ++ (ends_seen setup lives n ++ pipes_seen (pipe_in held.ups) (pipe_in held.downs) n))

-- what the client of a number is, where client 1 is the first
abbrev pub life_at : {Y X : Type 0} {G : Y → Type 0} {F : X → Type 0} {M : _} → List (Client Y X G F M) → ℕ → Life
life_at clients c = slice_index_or (map (λ x. client.life x) clients) (c - 1) Off

-- a client of this match, whose calls may be made
pub record IsMember {Y X : Type 0} {G : Y → Type 0} {F : X → Type 0} {M : _} (setup : Setup) (sys : (i : X) → Ghosts (F i)) (c : Client Y X G F M) :
    Type 0 where
  pub sound : client.IsSound c sys
  pub same : client.setup_in c ≡ setup

-- all are such clients, and no more than a match may have
pub record MayBeTold {Y X : Type 0} {G : Y → Type 0} {F : X → Type 0} {M : _} (setup : Setup) (sys : (i : X) → Ghosts (F i))
    (clients : List (Client Y X G F M)) : Type 0 where
  pub members : All (IsMember setup sys) clients
  pub few : length clients ≤ 8

-- each client of a match stands for that of a session
abbrev pub AllLive : Setup → (ℕ → Life) → Session → Type 0
AllLive setup lives s = (c : ℕ) → 0 < c → c ≤ setup.players → Lives setup (lives c) (s.client c)

-- what is seen of clients and of an exchange that stand for a session is what is told of that session
abbrev pub EndingsAreSeen : Type 0
EndingsAreSeen =
    (setup : Setup) (lives : ℕ → Life) (held : Held) (s : Session) → AllLive setup lives s → Conveys setup held s
    → ending_seen setup lives held setup.players ≡ ending_lines setup s
