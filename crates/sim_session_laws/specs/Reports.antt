-- What the reports of a session say, and so what a notice shows.
use Rattle.sim_base.specs.declared.step.Step.TheVariants as step
use Rattle.sim_plain.specs.declared.message.UpOf.TheVariants as up
use Rattle.sim_base.specs.{Spelling.is_full_turn, Spelling.quick, Turn.turns_in, declared.setup.Setup.Setup, declared.step.Step.Step}
use Rattle.sim_plain_session.specs.{Clients.On, Clients.Seat, Clients.digest_of, Clients.mark_of, Clients.state_of, Pasts.rules_of, Sessions.Carries}
use Rattle.std.specs.Prelude.{Bool, List, [], false, true, ℕ, ◌++◌, ◌≡◌, ◌≤◌}
use Rattle.{sim_plain.specs.Messages.Heard, sim_plain.specs.Server.notices, sim_plain_session.specs.Sessions.session, std.specs.Prelude.All}

-- after some of the steps a client was on, in this seat
pub record WasOn (setup : Setup) (active : ℕ) (steps : List Step) (c : ℕ) (seat : Seat) : Type 0 where
  pub before : List Step
  pub rest : List Step
  pub steps_are : before ++ rest ≡ steps
  pub on : (session setup active before).client c ≡ On seat

-- these 16 bytes were the mark of a client as it was on at this turn
pub record WasMark (setup : Setup) (active : ℕ) (steps : List Step) (c t : ℕ) (g : List ℕ) : Type 0 where
  pub seat : Seat
  pub was : WasOn setup active steps c seat
  pub turn : t ≡ turns_in seat.past
  pub mark : g ≡ mark_of setup seat

-- each report that has arrived was the mark of its sender
abbrev pub ReportsAreMarks : Type 0
ReportsAreMarks =
    (setup : Setup) (active : ℕ) (steps : List Step) (c t : ℕ) (g : List ℕ)
    → Carries (session setup active steps).arrivals (Heard c (up.Report t g)) → WasMark setup active steps c t g

-- at this turn a client and another one were apart: in the digest where the turn is full, and elsewhere in the clock or the places
pub record WereApart (setup : Setup) (active : ℕ) (steps : List Step) (t c : ℕ) : Type 0 where
  pub other : ℕ
  pub first : Seat
  pub own : Seat
  pub first_was : WasOn setup active steps other first
  pub own_was : WasOn setup active steps c own
  pub first_turn : t ≡ turns_in first.past
  pub own_turn : t ≡ turns_in own.past
  pub full : is_full_turn t ≡ true → digest_of setup first ≡ digest_of setup own → ⊥
  pub others : is_full_turn t ≡ false → quick (state_of setup first) ≡ quick (state_of setup own) → ⊥

-- each notice is of a client that was apart from another one at that turn
abbrev pub NoticesShowDifferences : Type 0
NoticesShowDifferences =
    (setup : Setup) (active : ℕ) (steps : List Step) (t c : ℕ)
    → Carries (notices (rules_of setup) active (session setup active steps).arrivals) (t, c) → WereApart setup active steps t c

-- a step that bends a client
abbrev pub is_bend : Step → Bool
is_bend (step.Order c command) = false
is_bend (step.Up c) = false
is_bend (step.Down c) = false
is_bend (step.Play c) = false
is_bend (step.Join c) = false
is_bend (step.Cut c) = false
is_bend (step.Bend c id health) = true

-- where nobody is bent there is no notice
abbrev pub NoticesNeedBends : Type 0
NoticesNeedBends =
    (setup : Setup) (active : ℕ) (steps : List Step) → active ≤ setup.players → All (λ x. is_bend x ≡ false) steps
    → notices (rules_of setup) active (session setup active steps).arrivals ≡ []
