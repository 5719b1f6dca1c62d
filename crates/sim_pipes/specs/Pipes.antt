-- What lies in a pipe, and in the pipes of all clients.
use Rattle.sim_pipes.specs.Common.{Arrival, carry_down, Down, DownOf, downs_of, heard, IsDownFrame, IsSmallServer, IsUpFrame, posts, put, rules_of, server_of}
use Rattle.sim_pipes.specs.Common.{Session, Setup, spelled, ups_of, View}
use Rattle.std.specs.Prelude.{[], length, List, None, Option, slice_index_or, Some, suc, ℕ, ◌++◌, ◌<◌, ◌∷◌, ◌≡◌, ◌≤◌}

-- a frame is taken from the front, or there is none
abbrev pub Takes : List (List ℕ) → Option (List ℕ) → List (List ℕ) → Type 0
Takes old None new = (old ≡ []) × (new ≡ [])
Takes old (Some frame) new = old ≡ frame ∷ new

-- each of these bytes is the frame of the message in its place
abbrev pub AreFrames : {M : Type 0} → (List ℕ → M → Type 0) → List (List ℕ) → List M → Type 0
AreFrames IsFrame [] [] = Unit {0}
AreFrames IsFrame [] (message ∷ messages) = ⊥
AreFrames IsFrame (frame ∷ frames) [] = ⊥
AreFrames IsFrame (frame ∷ frames) (message ∷ messages) = IsFrame frame message × AreFrames IsFrame frames messages

-- what waits in the pipe of a client, by its number
abbrev pub pipe_in : List (List (List ℕ)) → ℕ → List (List ℕ)
pipe_in pipes c = slice_index_or pipes c []

-- there are so many pipes, and each is empty
pub record AreEmpty (many : ℕ) (pipes : List (List (List ℕ))) : Type 0 where
  pub count : length pipes ≡ many
  pub empty : (c : ℕ) → pipe_in pipes c ≡ []

-- the first of these messages is read, and the frames of the rest stay; or there is none
abbrev pub Reads : List (List ℕ) → List (DownOf (List ℕ)) → Option (DownOf (List ℕ)) → Type 0
Reads pipe [] read = (read ≡ None) × (pipe ≡ [])
Reads pipe (message ∷ rest) read = (read ≡ Some message) × AreFrames IsDownFrame pipe rest

-- an arrival makes of one server the other, and what the server says of it goes behind what waits in the pipe of each client
pub record Sends (old : View) (before : List (List (List ℕ))) (a : Arrival (List ℕ)) (new : View) (pipes : List (List (List ℕ))) : Type 0 where
  pub server : server_of new ≡ heard old.rules (server_of old) a
  pub told : (c : ℕ) (messages : List (DownOf (List ℕ))) → 0 < c → c ≤ old.rules.clients → AreFrames IsDownFrame (pipe_in before c) messages
      → AreFrames IsDownFrame (pipe_in pipes c) (messages ++ posts old.rules (server_of old) a c)

-- What an exchange is, and the sessions whose server and pipes it has.

-- the frames in the pipes up and down, by the number of the client, and the server
pub record Held : Type 0 where
  pub ups : List (List (List ℕ))
  pub downs : List (List (List ℕ))
  pub server : View

-- there are two pipes for each number of a client, and all that the server keeps has frames
pub record IsReady (held : Held) : Type 0 where
  pub ups : length held.ups ≡ suc held.server.rules.clients
  pub downs : length held.downs ≡ suc held.server.rules.clients
  pub small : IsSmallServer (server_of held.server)

-- the server is that of the session, and each pipe holds the frames of the messages in it, a past being spelled as its state
pub record Conveys (setup : Setup) (held : Held) (s : Session) : Type 0 where
  pub rules : held.server.rules ≡ rules_of setup
  pub server : server_of held.server ≡ s.server
  pub ups : (c : ℕ) → 0 < c → c ≤ setup.players → AreFrames IsUpFrame (pipe_in held.ups c) (ups_of setup s c)
  pub downs : (c : ℕ) → 0 < c → c ≤ setup.players → AreFrames IsDownFrame (pipe_in held.downs c) (downs_of setup s c)

-- the first of these messages is read from the pipe of a client, and the rest stay in it; or there is none
abbrev pub Falls : Setup → Held → ℕ → Session → List Down → Option (DownOf (List ℕ)) → Type 0
Falls setup new c s [] read = (read ≡ None) × Conveys setup new s
Falls setup new c s (said ∷ rest) read = (read ≡ Some (carry_down (spelled setup) said)) × Conveys setup new (record s { downs = put c rest s.downs })
