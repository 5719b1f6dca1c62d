-- What is printed of what a client says, and of what it hears.
use Rattle.sim_base.specs.declared.step.Event.TheVariants as event
use Rattle.sim_plain.specs.declared.message.DownOf.TheVariants as down
use Rattle.sim_plain.specs.declared.message.UpOf.TheVariants as up
use Rattle.sim_base.specs.{declared.{setup.Setup.Setup, step.Event.Event}, Spelling.digest}
use Rattle.sim_client.specs.{declared.did.Did.{Did, TheVariants.{Done, Idle}}, Lives.{Joining, Life, Off, On, Said, shows, Told}}
use Rattle.std.specs.Prelude.{Bool, false, if◌then◌else◌, List, None, Option, Some, true, ℕ, [], ◌&&◌, ◌∷◌}

-- a wish to join or an order, each by the first message that it sends
abbrev pub said_events : ℕ → List Said → List Event
said_events c [] = []
said_events c (up.Join ∷ rest) = event.Join c ∷ []
said_events c (up.Command t command ∷ rest) = event.Order c t ∷ []
said_events c (up.Done t ∷ rest) = []
said_events c (up.Report t hash ∷ rest) = []
said_events c (up.State j t bytes ∷ rest) = []

-- the turn and the digest of a client that is on
abbrev pub shown_of : Setup → Life → Option (ℕ × List ℕ)
shown_of setup Off = None
shown_of setup Joining = None
shown_of setup (On player) = Some (player.state.turn, digest setup player.state)

-- the turn that a client has played, where it has
abbrev pub played_events : Setup → ℕ → Life → Bool → List Event
played_events setup c now did = if did then shows setup (event.Play c) now else []

-- a client neither is on nor waits for a state
abbrev pub is_off : Life → Bool
is_off Off = true
is_off Joining = false
is_off (On player) = false

-- why something is refused, in a message that says so
abbrev pub refusal_in : Told → Option ℕ
refusal_in (down.Ask j) = None
refusal_in (down.State done bytes) = None
refusal_in (down.Command t order) = None
refusal_in (down.Release t) = None
refusal_in (down.Notice t j) = None
refusal_in (down.Refused code) = Some code

-- a message hands on a state
abbrev pub is_state : Told → Bool
is_state (down.Ask j) = false
is_state (down.State done bytes) = true
is_state (down.Command t order) = false
is_state (down.Release t) = false
is_state (down.Notice t j) = false
is_state (down.Refused code) = false

-- something happened
abbrev pub has_happened : Did → Bool
has_happened Idle = false
has_happened (Done ups) = true

-- what is printed of a message, where the client is this afterwards
abbrev pub heard_events : Setup → ℕ → Life → Option ℕ → Bool → Bool → List Event
heard_events setup c now (Some code) state did = event.Refused c code ∷ []
heard_events setup c now None state did = if did && state then shows setup (event.Load c) now else []
