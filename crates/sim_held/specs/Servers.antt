-- What a server that is held is to its callers, and what a call makes of it.
use Rattle.sim_held.specs.declared.stage.Went.TheVariants as went
use Rattle.{sim_base.specs.declared.{memory.OutOfMemory.OutOfMemory, setup.Setup.Setup}, sim_held.specs.declared.stage.Went.{TheVariants.Idle, Went}}
use Rattle.{sim_pipes.specs.Posts.told_to, sim_plain.specs.{declared.message.{DownOf.DownOf, PostOf.PostOf, UpOf.UpOf}, Messages.{Arrival, Cut, Heard}}}
use Rattle.{sim_plain.specs.Server.{heard, posts}, sim_server.specs.Standing.{IsSmallServer, server_of, StandsFor, View}}
use Rattle.{sim_wire.specs.Reading.{down_frame, IsSmallDown, IsUpFrame}, std.specs.{List.flat_map, Prelude.{All, Bool, Err, false}}}
use Rattle.std.specs.Prelude.{if◌then◌else◌, List, nat_le, nat_lt, None, Ok, Option, Result, Some, true, ℕ, [], ◌&&◌, ◌++◌, ◌<◌, ◌==◌, ◌∷◌, ◌≡◌, ◌≤◌}

-- the server, and what it has said to clients that have not taken it yet: one list for each arrival, the oldest first
pub record ServerView : Type 0 where
  pub server : View
  pub said : List (List (PostOf (List ℕ)))

-- all that waits has frames
abbrev pub AreSmall : List (List (PostOf (List ℕ))) → Type 0
AreSmall said = All (All (λ post. IsSmallDown post.down)) said

-- what waits for a client, in order
abbrev pub waiting : List (List (PostOf (List ℕ))) → ℕ → List (DownOf (List ℕ))
waiting said c = flat_map (told_to c) said

-- a client of the match
abbrev pub is_client : View → ℕ → Bool
is_client v c = nat_lt 0 c && nat_le c v.rules.clients

-- nothing waits for a number that is no client's
abbrev pub WaitsForClients : View → List (List (PostOf (List ℕ))) → Type 0
WaitsForClients v said = (d : ℕ) → is_client v d ≡ false → waiting said d ≡ []

-- there are so many clients; all that waits, and all that is kept, has frames; and what waits is for clients
pub record IsReady (clients : ℕ) (server : View) (said : List (List (PostOf (List ℕ)))) : Type 0 where
  pub count : clients ≡ server.rules.clients
  pub keeps : IsSmallServer (server_of server)
  pub waits : AreSmall said
  pub own : WaitsForClients server said

-- there is a post in a list
abbrev pub has_some : List (PostOf (List ℕ)) → Bool
has_some [] = false
has_some (post ∷ rest) = true

-- the frames of what waits for a client, one behind another
abbrev pub frames_for : List (List (PostOf (List ℕ))) → ℕ → List ℕ
frames_for said c = flat_map down_frame (waiting said c)

-- an arrival makes of the server what it makes by the definition, and what is said of it to each client waits behind the rest
pub record Hears (a : Arrival (List ℕ)) (old new : ServerView) : Type 0 where
  pub rules : new.server.rules ≡ old.server.rules
  pub server : server_of new.server ≡ heard old.server.rules (server_of old.server) a
  pub said : (d : ℕ) → 0 < d → d ≤ old.server.rules.clients
      → waiting new.said d ≡ waiting old.said d ++ posts old.server.rules (server_of old.server) a d

-- the end of a client's connection
abbrev pub gone : ℕ → Arrival (List ℕ)
gone c = Cut c

-- a client is cut off: what waits for it is dropped, and the server sees it gone
pub record CutsOff (c : ℕ) (old new : ServerView) : Type 0 where
  pub rules : new.server.rules ≡ old.server.rules
  pub server : server_of new.server ≡ heard old.server.rules (server_of old.server) (gone c)
  pub said : (d : ℕ) → 0 < d → d ≤ old.server.rules.clients
      → waiting new.said d ≡ (if d == c then [] else waiting old.said d) ++ posts old.server.rules (server_of old.server) (gone c) d

-- nothing has changed
pub record Stays (old new : ServerView) : Type 0 where
  pub rules : new.server.rules ≡ old.server.rules
  pub server : server_of new.server ≡ server_of old.server
  pub said : new.said ≡ old.said

-- a call of a client of the match answers so, and this becomes of the server; one of nobody is idle; where memory was refused nothing has changed
abbrev pub Answers : Bool → Went → (ServerView → ServerView → Type 0) → ServerView → Result Went OutOfMemory → ServerView → Type 0
Answers true went Changes old (Ok answer) new = (answer ≡ went) × Changes old new
Answers false went Changes old (Ok answer) new = (answer ≡ Idle) × Stays old new
Answers there went Changes old (Err e) new = Stays old new

-- a server hears the frame of a message, or bytes that are none, for which it cuts the client off
pub record HearsFrame (from : ℕ) (bytes : List ℕ) (old : ServerView) (answer : Result Went OutOfMemory) (new : ServerView) : Type 0 where
  pub frame : (message : UpOf (List ℕ)) → IsUpFrame bytes message → Answers (is_client old.server from) went.Done (Hears (Heard from message)) old answer new
  pub other : ((message : UpOf (List ℕ)) → IsUpFrame bytes message → ⊥) → Answers (is_client old.server from) went.Refused (CutsOff from) old answer new
  pub nobody : is_client old.server from ≡ false → answer ≡ Ok went.Idle

-- the connection of a client has ended
pub record HasLost (client : ℕ) (old : ServerView) (answer : Result Went OutOfMemory) (new : ServerView) : Type 0 where
  pub cuts : Answers (is_client old.server client) went.Done (CutsOff client) old answer new
  pub nobody : is_client old.server client ≡ false → answer ≡ Ok went.Idle

-- what waits for one client is taken, and what waits for others is as it was
pub record Leaves (c : ℕ) (old new : ServerView) : Type 0 where
  pub server : new.server ≡ old.server
  pub said : (d : ℕ) → waiting new.said d ≡ (if d == c then [] else waiting old.said d)

-- a new server has heard nothing yet, and nothing waits; or there are more than 8 clients, or more begin than there are
abbrev pub IsServer : ℕ → ℕ → ℕ → ℕ → Option ServerView → Type 0
IsServer clients active delay turns None = (clients ≤ 8) → (active ≤ clients) → ⊥
IsServer clients active delay turns (Some s) =
    (s.server.rules ≡ record { clients = clients; delay = delay; turns = turns }) × StandsFor s.server active [] × (s.said ≡ [])

-- the same with the numbers of a match
abbrev pub IsServerOf : Setup → ℕ → Option ServerView → Type 0
IsServerOf setup active server = IsServer setup.players active setup.delay setup.turns server
