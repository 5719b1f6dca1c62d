-- For which server of the definitions a server in memory stands, and what a call makes of it.
use Rattle.sim_plain.specs.declared.message.UpOf.TheVariants as up
use Rattle.sim_server.specs.Common.{AllByRecursion, Arrival, Ask, asked, Cut, differs, done_fault, HasFewIds, heard, Heard, In, is_out, IsSmallDown, IsSmallUp}
use Rattle.sim_server.specs.Common.{least_in, Out, OutOfMemory, PlayerCommand, posted_to, PostOf, Posts, posts, posts_of, raised, Refused, release}
use Rattle.sim_server.specs.Common.{report_fault, Rules, Server, server_after, Status, takes_state, up_to, UpOf, waits_for, with_status}
use Rattle.std.specs.Prelude.{[], Bool, Err, false, filter, if◌then◌else◌, length, List, None, not, Ok, Option, Result, slice_index_or, Some, ℕ, ◌++◌, ◌<◌, ◌∷◌}
use Rattle.std.specs.Prelude.{◌≡◌, ◌≤◌}

-- What the lists of a server in memory say, as functions of a client's number and of a turn.

-- who is not listed is out
abbrev pub status_in : List Status → ℕ → Status
status_in seats c = slice_index_or seats c Out

-- no command was kept of a turn that is not listed
abbrev pub kept_in : List (List PlayerCommand) → ℕ → List PlayerCommand
kept_in kept t = slice_index_or kept t []

-- nothing was reported of a turn that is not listed
abbrev pub reference_in : List (Option (List ℕ)) → ℕ → Option (List ℕ)
reference_in references t = slice_index_or references t None

-- one that waited for c becomes another
abbrev pub moved : ℕ → Status → Status → Status
moved c other status = if waits_for c status then other else status

-- what is said for one client that wants to join
abbrev pub asked_one : {B : Type 0} → Option ℕ → ℕ → List (PostOf B)
asked_one None c = posted_to c (Refused 4 ∷ [])
asked_one (Some k) c = posted_to k (Ask c ∷ [])

-- what is said as c goes
abbrev pub cut_said : {B : Type 0} → List Status → ℕ → ℕ → ℕ → ℕ → Posts B
cut_said seats clients released risen c = λ d.
    release (status_in seats) released risen d
    ++ asked (least_in (status_in seats) clients) (filter (λ j. waits_for c (status_in seats j)) (up_to clients)) (λ j. waits_for c (status_in seats j)) d

-- what contracts see of a server: what clients are, by number, and lists by turn
pub record View : Type 0 where
  pub rules : Rules
  pub seats : List Status
  pub released : ℕ
  pub kept : List (List PlayerCommand)
  pub references : List (Option (List ℕ))

-- the server of the definitions for which it stands
abbrev pub server_of : View → Server
server_of v = record { status = status_in v.seats; released = v.released; kept = kept_in v.kept; reference = reference_in v.references }

-- a number of a client
abbrev pub IsClient : View → ℕ → Type 0
IsClient v c = (0 < c) × (c ≤ v.rules.clients)

-- there is a seat for each number up to 8, and who is no client is out
pub record IsSeated (rules : Rules) (seats : List Status) : Type 0 where
  pub few : rules.clients ≤ 8
  pub nine : length seats ≡ 9
  pub outside : (c : ℕ) → (0 < c → c ≤ rules.clients → ⊥) → status_in seats c ≡ Out

-- and each client that is in has given its commands of all released turns
pub record IsWhole (rules : Rules) (seats : List Status) (released : ℕ) : Type 0 where
  pub seated : IsSeated rules seats
  pub ahead : (c done : ℕ) → 0 < c → c ≤ rules.clients → status_in seats c ≡ In done → released ≤ done

-- an arrival makes of one server the other, and is answered by these posts
pub record Made (old : View) (a : Arrival (List ℕ)) (posts : List (PostOf (List ℕ))) (new : View) : Type 0 where
  pub rules : new.rules ≡ old.rules
  pub server : server_of new ≡ heard old.rules (server_of old) a
  pub said : posts ≡ posts_of old.rules (server_of old) a

-- the server is as it was
pub record Same (old new : View) : Type 0 where
  pub rules : new.rules ≡ old.rules
  pub server : server_of new ≡ server_of old

-- a call makes of a server what the arrival makes of it, or leaves it
abbrev pub Makes : View → Arrival (List ℕ) → Result (List (PostOf (List ℕ))) OutOfMemory → View → Type 0
Makes old a (Ok posts) new = Made old a posts new
Makes old a (Err e) new = Same old new

-- a server stands for a list of arrivals, the newest first
abbrev pub StandsFor : View → ℕ → List (Arrival (List ℕ)) → Type 0
StandsFor v active h = server_of v ≡ server_after v.rules active h

-- a server that stood for a list stands for it with one arrival more, and says what the definition says; or stands for it still
abbrev pub Answers : View → ℕ → List (Arrival (List ℕ)) → Arrival (List ℕ) → Result (List (PostOf (List ℕ))) OutOfMemory → View → Type 0
Answers old active h a (Ok posts) new = StandsFor new active (a ∷ h) × (posts ≡ posts_of old.rules (server_after old.rules active h) a)
Answers old active h a (Err e) new = StandsFor new active h

-- what a client says has no effect and no answer: it would join and is not out, or hands on a state that nobody waits for
abbrev pub is_dropped : Server → ℕ → UpOf (List ℕ) → Bool
is_dropped s from up.Join = not (is_out (s.status from))
is_dropped s from (up.Command turn command) = false
is_dropped s from (up.Done turn) = false
is_dropped s from (up.Report turn digest) = false
is_dropped s from (up.State client turn bytes) = not (takes_state s.released from turn (s.status client))

-- commands of one player are added behind those that were kept
pub record Adds (player : ℕ) (old new : List PlayerCommand) : Type 0 where
  pub more : List PlayerCommand
  pub whole : new ≡ old ++ more
  pub own : AllByRecursion (λ order. order.player ≡ player) more

-- released turns do not fall, what was kept of them stays, and commands are added by their own player alone
pub record IsLater (player : ℕ) (old new : Server) : Type 0 where
  pub rises : old.released ≤ new.released
  pub final : (t : ℕ) → t ≤ old.released → new.kept t ≡ old.kept t
  pub added : (t : ℕ) → Adds player (old.kept t) (new.kept t)

-- Arrivals at which nobody is told anything and nothing is kept, so that no memory is wanted.

-- a done that is taken and releases nothing
pub record ReleasesNothing (rules : Rules) (s : Server) (c t : ℕ) : Type 0 where
  pub taken : done_fault rules s.released t (s.status c) ≡ None
  pub stays : (raised rules (with_status c (In t) s)).released ≡ s.released

-- a report that is taken and says what the first one of its turn said
pub record SaysTheSame (s : Server) (c t : ℕ) (digest : List ℕ) : Type 0 where
  pub taken : report_fault s.released t (s.status c) ≡ None
  pub same : s.reference t ≡ Some digest

-- a report that is taken, is not another than the first, and whose turn stands in the list of references
pub record IsNoted (v : View) (c t : ℕ) (digest : List ℕ) : Type 0 where
  pub taken : report_fault v.released t (status_in v.seats c) ≡ None
  pub same : differs (reference_in v.references t) digest ≡ false
  pub listed : t < length v.references

-- a client says this by a report that is noted so
abbrev pub SaysNoted : View → ℕ → UpOf (List ℕ) → Type 0
SaysNoted v c up.Join = ⊥
SaysNoted v c (up.Command t command) = ⊥
SaysNoted v c (up.Done t) = ⊥
SaysNoted v c (up.Report t digest) = IsNoted v c t digest
SaysNoted v c (up.State j t carried) = ⊥

-- a client that goes, for whom nobody waits, and nothing is released
pub record GoesUnseen (rules : Rules) (s : Server) (c : ℕ) : Type 0 where
  pub stays : (raised rules (with_status c Out s)).released ≡ s.released
  pub alone : (j : ℕ) → waits_for c ((with_status c Out s).status j) ≡ false

-- who is not out would join; a done or a report changes nothing for others; a state is for nobody who waits; a client goes unseen
abbrev pub IsSilent : Rules → Server → Arrival (List ℕ) → Type 0
IsSilent rules s (Heard c up.Join) = is_out (s.status c) ≡ false
IsSilent rules s (Heard c (up.Command t command)) = ⊥
IsSilent rules s (Heard c (up.Done t)) = ReleasesNothing rules s c t
IsSilent rules s (Heard c (up.Report t digest)) = SaysTheSame s c t digest
IsSilent rules s (Heard c (up.State j t carried)) = takes_state s.released c t (s.status j) ≡ false
IsSilent rules s (Cut c) = GoesUnseen rules s c

-- Which messages and servers have frames for all that is said.

-- what arrives has few ids and a short state
abbrev pub IsSmallArrival : Arrival (List ℕ) → Type 0
IsSmallArrival (Heard c said) = IsSmallUp said
IsSmallArrival (Cut c) = Unit {0}

-- each kept command has few ids
abbrev pub IsSmallServer : Server → Type 0
IsSmallServer s = (t : ℕ) → AllByRecursion (λ order. HasFewIds order.command) (s.kept t)

-- a small arrival leaves a server small
abbrev pub ServersStaySmall : Type 0
ServersStaySmall = (rules : Rules) (s : Server) (a : Arrival (List ℕ)) → IsSmallServer s → IsSmallArrival a → IsSmallServer (heard rules s a)

-- and what a small server says has frames
abbrev pub PostsAreSmall : Type 0
PostsAreSmall = (rules : Rules) (s : Server) (a : Arrival (List ℕ)) (d : ℕ) → IsSmallServer s → IsSmallArrival a
    → AllByRecursion IsSmallDown (posts rules s a d)
