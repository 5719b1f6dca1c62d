-- What a client of a session hears loads as the state that was meant, and what it does then is what the definition says, over
-- plain values.
use Rattle.{sim_client.proofs.Spelled.states_are_short, sim_session.proofs.Beside.{acts_beside, done_by, kept_built, said_small}}
use Rattle.sim_session.proofs.Common.{Act, Acted, acts, after, All, All-cons, All-nil, Answers, ap, AreBuiltIf, AreBuiltOnceAtMost, AreKept, Bool, carry_down}
use Rattle.sim_session.proofs.Common.{carry_up, Conveys, Did, Done, Down, Event, fall_events, Falls, falls, false, Follows, has_happened, has_load}
use Rattle.sim_session.proofs.Common.{HasValidStates, heard_events, hearing_follows, hearing_shown, hears, Held, Idle, if◌then◌else◌, inl, is_client, is_state}
use Rattle.sim_session.proofs.Common.{IsSetup, IsSmallUp, IsValid, Joining, Life, List, Lives, LoadsAs, LoadsFrom, Makes, map, may_load, nat_lt, None}
use Rattle.sim_session.proofs.Common.{none-some, Off, Ok, On, Option, Past, Phase, put, refl, refusal_in, said_by, says_of, Session, Setup, shows, shows_after}
use Rattle.sim_session.proofs.Common.{Some, spelled, spelling, StandBeside, State, subst, sym, Systems, Told, true, ℕ, [], ◌&&◌, ◌++◌, ◌==◌, ◌∙◌, ◌∷◌, ◌≡◌}
use Rattle.sim_base.specs.declared.step.Event.TheVariants as event
use Rattle.sim_base.specs.declared.step.Step.TheVariants as step
use Rattle.sim_plain.specs.declared.message.DownOf.TheVariants as down
use Rattle.sim_plain.specs.declared.message.UpOf.TheVariants as up
use Rattle.sim_plain_session.specs.Clients as plain

-- the state that a message means
abbrev loaded_of : Setup → Down → Option State
loaded_of setup (down.Ask j) = None
loaded_of setup (down.State done past) = Some (after setup past)
loaded_of setup (down.Command t order) = None
loaded_of setup (down.Release t) = None
loaded_of setup (down.Notice t j) = None
loaded_of setup (down.Refused code) = None

loads_from : (setup : Setup) (s : Session) (c : ℕ) (said : Down) (rest : List Down) → HasValidStates setup c s → s.downs c ≡ said ∷ rest
    → LoadsFrom setup (carry_down (spelled setup) said) (loaded_of setup said)
loads_from setup s c (down.Ask j) rest valid first = tt
loads_from setup s c (down.State done past) rest valid first = record { valid = valid.heard done past rest first; spelled = inl refl }
loads_from setup s c (down.Command t order) rest valid first = tt
loads_from setup s c (down.Release t) rest valid first = tt
loads_from setup s c (down.Notice t j) rest valid first = tt
loads_from setup s c (down.Refused code) rest valid first = tt

loads_as : (setup : Setup) (phase : Phase) (said : Down) → LoadsAs setup (loaded_of setup said) phase said
loads_as setup plain.Off said = tt
loads_as setup (plain.On seat) said = tt
loads_as setup plain.Joining (down.Ask j) = tt
loads_as setup plain.Joining (down.State done past) = refl
loads_as setup plain.Joining (down.Command t order) = tt
loads_as setup plain.Joining (down.Release t) = tt
loads_as setup plain.Joining (down.Notice t j) = tt
loads_as setup plain.Joining (down.Refused code) = tt

none : All IsSmallUp []
none = All-nil IsSmallUp

hear_small : (setup : Setup) (loaded : Option State) (said : Told) (l : Life) (phase : Phase) → IsSetup setup → Lives setup l phase
    → ((seat : plain.Seat) → phase ≡ plain.On seat → IsValid setup (after setup seat.past)) → All IsSmallUp (says_of (hears setup loaded said l))
hear_small setup loaded said Off phase limits lives valid = none
hear_small setup loaded (down.Ask j) Joining phase limits lives valid = none
hear_small setup None (down.State done bytes) Joining phase limits lives valid = none
hear_small setup (Some state) (down.State done bytes) Joining phase limits lives valid = none
hear_small setup loaded (down.Command t order) Joining phase limits lives valid = none
hear_small setup loaded (down.Release t) Joining phase limits lives valid = none
hear_small setup loaded (down.Notice t j) Joining phase limits lives valid = none
hear_small setup loaded (down.Refused code) Joining phase limits lives valid = by (code == 4)
  where
    by : (b : Bool) → All IsSmallUp (says_of (if b then Some (record { life = Off; says = [] }) else None))
    by true = none
    by false = none
hear_small setup loaded (down.Ask j) (On player) plain.Off limits lives valid = absurd lives
hear_small setup loaded (down.Ask j) (On player) plain.Joining limits lives valid = absurd lives
hear_small setup loaded (down.Ask j) (On player) (plain.On seat) limits lives valid =
    All-cons IsSmallUp (up.State j player.state.turn (spelling setup player.state)) []
    (states_are_short setup player.state limits (subst (IsValid setup) (sym lives.state) (valid seat refl))) none
hear_small setup loaded (down.State done bytes) (On player) phase limits lives valid = none
hear_small setup loaded (down.Command t order) (On player) phase limits lives valid = by (nat_lt player.state.turn t && is_client setup order.player)
  where
    by : (b : Bool) → All IsSmallUp
        (says_of (if b then Some (record { life = On (record player { known = put t (player.known t ++ order ∷ []) player.known }); says = [] }) else None))
    by true = none
    by false = none
hear_small setup loaded (down.Release t) (On player) phase limits lives valid = by (nat_lt player.released t)
  where
    by : (b : Bool) → All IsSmallUp (says_of (if b then Some (record { life = On (record player { released = t }); says = [] }) else None))
    by true = none
    by false = none
hear_small setup loaded (down.Notice t j) (On player) phase limits lives valid = none
hear_small setup loaded (down.Refused code) (On player) phase limits lives valid = none

-- ---- the first message in a pipe

-- this message lay first in the pipe to a client, and the rest of it lies there now
record IsHead (setup : Setup) (c : ℕ) (s : Session) (down : Told) (mid : Held) : Type 0 where
  said : Down
  rest : List Down
  first : s.downs c ≡ said ∷ rest
  down_is : down ≡ carry_down (spelled setup) said
  held : Conveys setup mid (record s { downs = put c rest s.downs })

head : (setup : Setup) (c : ℕ) (s : Session) (down : Told) (mid : Held) → Falls setup mid c s (s.downs c) (Some down) → IsHead setup c s down mid
head setup c s down mid = by (s.downs c) refl
  where
    by : (downs : List Down) → s.downs c ≡ downs → Falls setup mid c s downs (Some down) → IsHead setup c s down mid
    by [] e h = absurd (none-some down (sym h.0))
    by (said ∷ rest) e h = record { said = said; rest = rest; first = e; down_is = (let e = h.0 in cc); held = h.1 }

-- ---- what a client does that hears it

-- it does what the definition says of every state that the message may load as
abbrev pub DoesHear : Setup → Told → Life → Did → Life → Type 0
DoesHear setup down old did new = (loaded : Option State) → LoadsFrom setup down loaded → Answers (hears setup loaded down old) old (Ok did) new

-- the message is taken out of the pipe, in every session
abbrev pub IsTaken : Setup → ℕ → Held → Told → Held → Type 0
IsTaken setup c before down mid = (s : Session) → Conveys setup before s → Falls setup mid c s (s.downs c) (Some down)

answered : (setup : Setup) (c : ℕ) (s : Session) → HasValidStates setup c s → (down : Told) (mid : Held) (h : IsHead setup c s down mid) (old : Life)
    (did : Did) (new : Life) → DoesHear setup down old did new
    → Answers (hears setup (loaded_of setup h.said) down old) old (Ok did) new
answered setup c s valid down mid h old did new does =
    does (loaded_of setup h.said) (subst (λ (d : Told). LoadsFrom setup d (loaded_of setup h.said)) (sym h.down_is)
    (loads_from setup s c h.said h.rest valid h.first))

-- what it says has frames
pub heard_small : (setup : Setup) (c : ℕ) (s : Session) (old : Life) (down : Told) (did : Did) (new : Life) (before mid : Held) → IsSetup setup
    → HasValidStates setup c s → StandBeside setup c old before s
    → IsTaken setup c before down mid → DoesHear setup down old did new → All IsSmallUp (said_by did)
heard_small setup c s old down did new before mid limits valid at taken does =
    let h = head setup c s down mid (taken s at.held) in
    said_small (hears setup (loaded_of setup h.said) down old) old did new (answered setup c s valid down mid h old did new does)
    (hear_small setup (loaded_of setup h.said) down old (s.client c) limits at.lives valid.own)

-- ---- what is printed of it

nothing : (b : Bool) (events : List Event) → (if b && false then events else []) ≡ []
nothing true events = refl
nothing false events = refl

heard_shown : (setup : Setup) (c : ℕ) (down : Told) (act : Option Act) (old : Life) (did : Did) (new : Life) → Answers act old (Ok did) new
    → heard_events setup c new (refusal_in down) (is_state down) (has_happened did) ≡ hearing_shown setup c down act
heard_shown setup c (down.Ask j) act old did new answers = nothing (has_happened did) (shows setup (event.Load c) new)
heard_shown setup c (down.State done bytes) act old did new answers = by act did answers
  where
    by : (act : Option Act) (did : Did) → Answers act old (Ok did) new → heard_events setup c new None true (has_happened did) ≡ shows_after setup
        (event.Load c) act
    by None Idle h = refl
    by None (Done ups) h = absurd h
    by (Some act) Idle h = absurd h
    by (Some act) (Done ups) h = ap (shows setup (event.Load c)) h.0
heard_shown setup c (down.Command t order) act old did new answers = nothing (has_happened did) (shows setup (event.Load c) new)
heard_shown setup c (down.Release t) act old did new answers = nothing (has_happened did) (shows setup (event.Load c) new)
heard_shown setup c (down.Notice t j) act old did new answers = nothing (has_happened did) (shows setup (event.Load c) new)
heard_shown setup c (down.Refused code) act old did new answers = refl

-- ---- systems are built only by a load

load_built : (setup : Setup) (c : ℕ) (said : Down) (old : Life) (it : Told) (did : Did) (new : Life) (S T : Systems) → it ≡ carry_down (spelled setup) said
    → Answers (hears setup (loaded_of setup said) it old) old (Ok did) new → (may_load old it ≡ false → AreKept S T) → AreBuiltOnceAtMost S T
    → AreBuiltIf (has_load (heard_events setup c new (refusal_in it) (is_state it) (has_happened did))) S T
load_built setup c said old it did new S T is =
    subst (λ (d : Told). Answers (hears setup (loaded_of setup said) d old) old (Ok did) new → (may_load old d ≡ false → AreKept S T) → AreBuiltOnceAtMost S T
    → AreBuiltIf (has_load (heard_events setup c new (refusal_in d) (is_state d) (has_happened did))) S T) (sym is) (by old said)
  where
    loads : (done : ℕ) (past : Past) (did : Did) → Answers (hears setup (Some (after setup past)) (down.State done (spelled setup past)) Joining) Joining
        (Ok did) new → AreBuiltOnceAtMost S T
        → AreBuiltIf (has_load (heard_events setup c new None true (has_happened did))) S T
    loads done past Idle answers most = absurd answers
    loads done past (Done ups) answers most = subst (λ (l : Life). AreBuiltIf (has_load (shows setup (event.Load c) l)) S T) (sym answers.0) most

    by : (old : Life) (said : Down) → Answers (hears setup (loaded_of setup said) (carry_down (spelled setup) said) old) old (Ok did) new
        → (may_load old (carry_down (spelled setup) said) ≡ false → AreKept S T) → AreBuiltOnceAtMost S T
        → AreBuiltIf (has_load (heard_events setup c new (refusal_in (carry_down (spelled setup) said)) (is_state (carry_down (spelled setup) said))
        (has_happened did))) S T
    by Off said answers kept most =
        kept_built (has_load (heard_events setup c new (refusal_in (carry_down (spelled setup) said)) (is_state (carry_down (spelled setup) said))
        (has_happened did))) S T (kept refl)
    by (On player) said answers kept most =
        kept_built (has_load (heard_events setup c new (refusal_in (carry_down (spelled setup) said)) (is_state (carry_down (spelled setup) said))
        (has_happened did))) S T (kept refl)
    by Joining (down.Ask j) answers kept most = kept_built (has_load (heard_events setup c new None false (has_happened did))) S T (kept refl)
    by Joining (down.State done past) answers kept most = loads done past did answers most
    by Joining (down.Command t order) answers kept most = kept_built (has_load (heard_events setup c new None false (has_happened did))) S T (kept refl)
    by Joining (down.Release t) answers kept most = kept_built (has_load (heard_events setup c new None false (has_happened did))) S T (kept refl)
    by Joining (down.Notice t j) answers kept most = kept_built (has_load (heard_events setup c new None false (has_happened did))) S T (kept refl)
    by Joining (down.Refused code) answers kept most = kept_built false S T (kept refl)

-- they are where the definition of the session has a load, whatever came of it
load_kept : (setup : Setup) (c : ℕ) (said : Down) (it : Told) (S T : Systems) → it ≡ carry_down (spelled setup) said → (old : Life) (phase : Phase)
    → Lives setup old phase
    → (may_load old it ≡ false → AreKept S T) → AreBuiltOnceAtMost S T → AreBuiltIf (has_load (plain.hears setup c phase said).events) S T
load_kept setup c said it S T is old phase lives kept most = by old phase said lives (subst (λ (d : Told). may_load old d ≡ false → AreKept S T) is kept)
  where
    idle : (phase : Phase) (said : Down) → AreKept S T → AreBuiltIf (has_load (plain.hears setup c phase said).events) S T
    idle phase said = kept_built (has_load (plain.hears setup c phase said).events) S T

    by : (old : Life) (phase : Phase) (said : Down) → Lives setup old phase → (may_load old (carry_down (spelled setup) said) ≡ false → AreKept S T)
        → AreBuiltIf (has_load (plain.hears setup c phase said).events) S T
    by Off phase said lives kept = idle phase said (kept refl)
    by (On player) phase said lives kept = idle phase said (kept refl)
    by Joining plain.Off said lives kept = absurd lives
    by Joining (plain.On seat) said lives kept = absurd lives
    by Joining plain.Joining (down.Ask j) lives kept = idle plain.Joining (down.Ask j) (kept refl)
    by Joining plain.Joining (down.State done past) lives kept = most
    by Joining plain.Joining (down.Command t order) lives kept = idle plain.Joining (down.Command t order) (kept refl)
    by Joining plain.Joining (down.Release t) lives kept = idle plain.Joining (down.Release t) (kept refl)
    by Joining plain.Joining (down.Notice t j) lives kept = idle plain.Joining (down.Notice t j) (kept refl)
    by Joining plain.Joining (down.Refused code) lives kept = idle plain.Joining (down.Refused code) (kept refl)

pub heard_loads : (setup : Setup) (c : ℕ) (s : Session) (old : Life) (down : Told) (before mid : Held) (S T : Systems) → StandBeside setup c old before s
    → IsTaken setup c before down mid
    → (may_load old down ≡ false → AreKept S T) → AreBuiltOnceAtMost S T → AreBuiltIf (has_load (fall_events setup c (s.client c) (s.downs c))) S T
heard_loads setup c s old down before mid S T at taken kept most =
    let h = head setup c s down mid (taken s at.held) in
    subst (λ (downs : List Down). AreBuiltIf (has_load (fall_events setup c (s.client c) downs)) S T) (sym h.first)
    (load_kept setup c h.said down S T h.down_is old (s.client c) at.lives kept most)

-- ---- the whole of it

module _ (setup : Setup) (c : ℕ) (old : Life) (down : Told) (did : Did) (new : Life) (before mid behind : Held) (events : List Event)
    (taken : IsTaken setup c before down mid) (does : DoesHear setup down old did new)
    (told : events ≡ heard_events setup c new (refusal_in down) (is_state down) (has_happened did)) where
  -- it follows the client of the session
  follows : (s : Session) (valid : HasValidStates setup c s) (at : StandBeside setup c old before s) (h : IsHead setup c s down mid)
      → Follows setup old (hears setup (loaded_of setup h.said) down old) (hearing_shown setup c down (hears setup (loaded_of setup h.said) down old))
      (plain.hears setup c (s.client c) h.said)
  follows s valid at h =
      subst (λ (d : Told). Follows setup old (hears setup (loaded_of setup h.said) d old) (hearing_shown setup c d (hears setup (loaded_of setup h.said) d old))
      (plain.hears setup c (s.client c) h.said))
      (sym h.down_is) (hearing_follows setup c (loaded_of setup h.said) h.said old (s.client c) at.lives (loads_as setup (s.client c) h.said))

  pub heard_makes : ((s : Session) (acted : Acted) → Conveys setup mid s → said_by did ≡ map (carry_up (spelled setup)) acted.says
      → Conveys setup behind (acts c acted s))
      → Makes setup (step.Down c) old before new behind events
  heard_makes sent = record {
    stand = λ s valid at.
        let h = head setup c s down mid (taken s at.held) in
        let act = hears setup (loaded_of setup h.said) down old in
        let done = done_by act old did new (answered setup c s valid down mid h old did new does) in
        let as_plain = follows s valid at h in
        let acted = plain.hears setup c (s.client c) h.said in
        let left : Session = record s { downs = put c h.rest s.downs } in
        subst (λ (downs : List Down). StandBeside setup c new behind (falls setup c downs s)) (sym h.first)
        (acts_beside setup c left old new act (hearing_shown setup c down act) acted behind as_plain done.0 (sent left acted h.held (done.1 ∙ as_plain.said)));
    printed = λ s valid at.
        let h = head setup c s down mid (taken s at.held) in
        let act = hears setup (loaded_of setup h.said) down old in
        told ∙ heard_shown setup c down act old did new (answered setup c s valid down mid h old did new does) ∙ (follows s valid at h).printed
        ∙ sym (ap (fall_events setup c (s.client c)) h.first);
  }

  -- systems were built only by a load
  pub heard_built : (s : Session) (S T : Systems) → HasValidStates setup c s → StandBeside setup c old before s → (may_load old down ≡ false → AreKept S T)
      → AreBuiltOnceAtMost S T
      → AreBuiltIf (has_load events) S T
  heard_built s S T valid at kept most =
      let h = head setup c s down mid (taken s at.held) in
      subst (λ (es : List Event). AreBuiltIf (has_load es) S T) (sym told)
      (load_built setup c h.said old down did new S T h.down_is (answered setup c s valid down mid h old did new does) kept most)

-- there is no message
pub none_makes : (setup : Setup) (c : ℕ) (life : Life) (before mid : Held) → ((s : Session) → Conveys setup before s → Falls setup mid c s (s.downs c) None)
    → Makes setup (step.Down c) life before life mid []
none_makes setup c life before mid taken = record {
  stand = λ s valid at. (by s at (s.downs c) (taken s at.held)).0;
  printed = λ s valid at. (by s at (s.downs c) (taken s at.held)).1;
}
  where
    by : (s : Session) → StandBeside setup c life before s → (downs : List Down) → Falls setup mid c s downs None
        → StandBeside setup c life mid (falls setup c downs s) × ([] ≡ fall_events setup c (s.client c) downs)
    by s at [] h = (record { lives = at.lives; held = h.1 }, refl)
    by s at (said ∷ rest) h = absurd (none-some (carry_down (spelled setup) said) h.0)
