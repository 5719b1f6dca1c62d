-- A session's server is what its arrivals make it, and its notices are theirs.
use Rattle.sim_base.specs.declared.step.Event.TheVariants as event
use Rattle.sim_base.specs.declared.step.Step.TheVariants as step
use Rattle.sim_plain.specs.declared.message.DownOf.TheVariants as down
use Rattle.sim_plain.proofs.Calm.{put_same}
use Rattle.sim_plain_session.proofs.Common.{Acted, bends, Event, falls, false, Heard, heard, hears, joins, Phase, played, plays, posts, rises, row_of, Server}
use Rattle.sim_plain_session.proofs.Common.{Arrival, Command, events, Joining, leaves, noticed, opened, orders, Session, session, spelled, state_of, stepped, ℕ}
use Rattle.sim_plain_session.proofs.Common.{Bool, Down, List, map, Off, On, Past, refl, Rules, Setup, Step, sym, true, Up, ℤ, ◌++◌, ◌∙◌, ◌∷◌, ◌≡◌}
use Rattle.sim_plain_session.proofs.Common.{BytesGoUp, carry_up, client_of, downs_of, events_by, is_client, may_bend, may_order, may_play, rules_of, stepped_by}
use Rattle.sim_plain_session.proofs.Common.{[], carry_arrival, if◌then◌else◌, NoticesAreOfArrivals, ServerHearsBytes, ServerIsAfterArrivals, ServerIsAfterBytes}
use Rattle.sim_plain_session.proofs.Common.{after_steps, append_assoc, BytesGoDown, Cut, events_after, leave_events, may_tell_done, notices_given, server_after}
use Rattle.sim_plain_session.proofs.Common.{ap, append-nil, carry_down, fall_events, heard_carry, map-append, notices_are, notices_in, posts_carry, rise_events}

-- the server is the one after the arrivals
abbrev Arrived : Setup → ℕ → Session → Type 0
Arrived setup active s = s.server ≡ server_after (rules_of setup) active s.arrivals

arrived_rises : (setup : Setup) (active c : ℕ) (ups : List Up) (s : Session) → Arrived setup active s → Arrived setup active (rises setup c ups s)
arrived_rises setup active c [] s h = h
arrived_rises setup active c (x ∷ rest) s h = ap (λ (y : Server). heard (rules_of setup) y (Heard c x)) h

arrived_falls : (setup : Setup) (active c : ℕ) (downs : List Down) (s : Session) → Arrived setup active s
    → Arrived setup active (falls setup c downs s)
arrived_falls setup active c [] s h = h
arrived_falls setup active c (x ∷ rest) s h = h

arrived_leaves : (setup : Setup) (active c : ℕ) (ph : Phase) (s : Session) → Arrived setup active s → Arrived setup active (leaves setup c ph s)
arrived_leaves setup active c Off s h = h
arrived_leaves setup active c Joining s h = ap (λ (y : Server). heard {B = Past} (rules_of setup) y (Cut c)) h
arrived_leaves setup active c (On o) s h = ap (λ (y : Server). heard {B = Past} (rules_of setup) y (Cut c)) h

arrived_by : (setup : Setup) (active : ℕ) (s : Session) (x : Step) → Arrived setup active s → Arrived setup active (stepped_by setup s x)
arrived_by setup active s (step.Order c x) h = h
arrived_by setup active s (step.Up c) h = arrived_rises setup active c (s.ups c) s h
arrived_by setup active s (step.Down c) h = arrived_falls setup active c (s.downs c) s h
arrived_by setup active s (step.Play c) h = h
arrived_by setup active s (step.Join c) h = h
arrived_by setup active s (step.Cut c) h = arrived_leaves setup active c (s.client c) s h
arrived_by setup active s (step.Bend c e g) h = h

arrived_stepped : (setup : Setup) (active : ℕ) (s : Session) (x : Step) → Arrived setup active s → Arrived setup active (stepped setup s x)
arrived_stepped setup active s x h = by (is_client setup (client_of x))
  where
    by : (b : Bool) → Arrived setup active (if b then stepped_by setup s x else s)
    by true = arrived_by setup active s x h
    by false = h

arrived_after : (setup : Setup) (active : ℕ) (s : Session) (xs : List Step) → Arrived setup active s → Arrived setup active (after_steps setup s xs)
arrived_after setup active s [] h = h
arrived_after setup active s (x ∷ xs) h = arrived_after setup active (stepped setup s x) xs (arrived_stepped setup active s x h)

pub server_is_after_arrivals : ServerIsAfterArrivals
server_is_after_arrivals setup active steps = arrived_after setup active (opened setup active) steps refl

-- ---- notices

-- events without a notice
abbrev Quiet : List Event → Type 0
Quiet events = notices_in events ≡ []

-- one of two without notices
quiet_if : (b : Bool) (x y : Acted) → Quiet x.events → Quiet y.events → Quiet (if b then x else y).events
quiet_if true x y h k = h
quiet_if false x y h k = k

quiet_orders : (setup : Setup) (c : ℕ) (x : Command) (ph : Phase) → Quiet (orders setup c x ph).events
quiet_orders setup c x Off = refl
quiet_orders setup c x Joining = refl
quiet_orders setup c x (On o) = quiet_if (may_order setup o) _ _ refl refl

quiet_plays : (setup : Setup) (c : ℕ) (ph : Phase) → Quiet (plays setup c ph).events
quiet_plays setup c Off = refl
quiet_plays setup c Joining = refl
quiet_plays setup c (On o) = quiet_if (may_play setup o) _ _ (quiet_if (may_tell_done setup (played o)) _ _ refl refl) refl

quiet_joins : (c : ℕ) (ph : Phase) → Quiet (joins c ph).events
quiet_joins c Off = refl
quiet_joins c Joining = refl
quiet_joins c (On o) = refl

quiet_bends : (setup : Setup) (c e : ℕ) (h : ℤ) (ph : Phase) → Quiet (bends setup c e h ph).events
quiet_bends setup c e h Off = refl
quiet_bends setup c e h Joining = refl
quiet_bends setup c e h (On o) = quiet_if (may_bend setup h (row_of (state_of setup o) e)) _ _ refl refl

quiet_hears : (setup : Setup) (c : ℕ) (ph : Phase) (x : Down) → Quiet (hears setup c ph x).events
quiet_hears setup c Off (down.Ask j) = refl
quiet_hears setup c Off (down.State done past) = refl
quiet_hears setup c Off (down.Command t x) = refl
quiet_hears setup c Off (down.Release t) = refl
quiet_hears setup c Off (down.Notice t j) = refl
quiet_hears setup c Off (down.Refused code) = refl
quiet_hears setup c Joining (down.Ask j) = refl
quiet_hears setup c Joining (down.State done past) = refl
quiet_hears setup c Joining (down.Command t x) = refl
quiet_hears setup c Joining (down.Release t) = refl
quiet_hears setup c Joining (down.Notice t j) = refl
quiet_hears setup c Joining (down.Refused code) = refl
quiet_hears setup c (On o) (down.Ask j) = refl
quiet_hears setup c (On o) (down.State done past) = refl
quiet_hears setup c (On o) (down.Command t x) = refl
quiet_hears setup c (On o) (down.Release t) = refl
quiet_hears setup c (On o) (down.Notice t j) = refl
quiet_hears setup c (On o) (down.Refused code) = refl

-- the notices among the events of an arrival are its notices
noticed_are : (ns : List (ℕ × ℕ)) → notices_in (map (λ (n : ℕ × ℕ). event.Notice n.0 n.1) ns) ≡ ns
noticed_are [] = refl
noticed_are (n ∷ ns) = ap (λ (l : List (ℕ × ℕ)). n ∷ l) (noticed_are ns)

-- a step gives the notices that its arrival gives
notices_by : (setup : Setup) (active : ℕ) (s : Session) (x : Step) → Arrived setup active s →
    notices_given (rules_of setup) active (stepped_by setup s x).arrivals ≡ notices_given (rules_of setup) active s.arrivals ++ notices_in (events_by setup s x)
notices_by setup active s (step.Order c x) h = sym (append-nil _) ∙ ap (λ l. notices_given (rules_of setup) active s.arrivals ++ l)
    (sym (quiet_orders setup c x (s.client c)))
notices_by setup active s (step.Up c) h = by (s.ups c)
  where
    by : (ups : List Up)
        → notices_given (rules_of setup) active (rises setup c ups s).arrivals ≡ notices_given (rules_of setup) active s.arrivals ++
        notices_in (rise_events setup s.server c ups)
    by [] = sym (append-nil _)
    by (x ∷ rest) =
        ap (λ l. notices_given (rules_of setup) active s.arrivals ++ l)
        (ap (λ (y : Server). noticed (rules_of setup) y (Heard c x)) (sym h) ∙ sym (noticed_are (noticed (rules_of setup) s.server (Heard c x))))
notices_by setup active s (step.Down c) h = by (s.downs c)
  where
    by : (downs : List Down)
        → notices_given (rules_of setup) active (falls setup c downs s).arrivals ≡ notices_given (rules_of setup) active s.arrivals ++
        notices_in (fall_events setup c (s.client c) downs)
    by [] = sym (append-nil _)
    by (x ∷ rest) = sym (append-nil _) ∙ ap (λ l. notices_given (rules_of setup) active s.arrivals ++ l) (sym (quiet_hears setup c (s.client c) x))
notices_by setup active s (step.Play c) h = sym (append-nil _) ∙ ap (λ l. notices_given (rules_of setup) active s.arrivals ++ l)
    (sym (quiet_plays setup c (s.client c)))
notices_by setup active s (step.Join c) h = sym (append-nil _) ∙ ap (λ l. notices_given (rules_of setup) active s.arrivals ++ l)
    (sym (quiet_joins c (s.client c)))
notices_by setup active s (step.Cut c) h = by (s.client c)
  where
    by : (ph : Phase)
        → notices_given (rules_of setup) active (leaves setup c ph s).arrivals ≡ notices_given (rules_of setup) active s.arrivals ++
        notices_in (leave_events c ph)
    by Off = sym (append-nil _)
    by Joining = refl
    by (On o) = refl
notices_by setup active s (step.Bend c e g) h = sym (append-nil _) ∙ ap (λ l. notices_given (rules_of setup) active s.arrivals ++ l)
    (sym (quiet_bends setup c e g (s.client c)))

notices_in-append : (xs ys : List Event) → notices_in (xs ++ ys) ≡ notices_in xs ++ notices_in ys
notices_in-append [] ys = refl
notices_in-append (event.Start c g ∷ es) ys = notices_in-append es ys
notices_in-append (event.Order c t ∷ es) ys = notices_in-append es ys
notices_in-append (event.Play c t g ∷ es) ys = notices_in-append es ys
notices_in-append (event.Join c ∷ es) ys = notices_in-append es ys
notices_in-append (event.Load c t g ∷ es) ys = notices_in-append es ys
notices_in-append (event.Refused c code ∷ es) ys = notices_in-append es ys
notices_in-append (event.Cut c ∷ es) ys = notices_in-append es ys
notices_in-append (event.Bend c t g ∷ es) ys = notices_in-append es ys
notices_in-append (event.Notice t c ∷ es) ys = ap (λ (l : List (ℕ × ℕ)). (t, c) ∷ l) (notices_in-append es ys)

notices_stepped : (setup : Setup) (active : ℕ) (s : Session) (x : Step) → Arrived setup active s →
    notices_given (rules_of setup) active (stepped setup s x).arrivals ≡ notices_given (rules_of setup) active s.arrivals ++ notices_in (events setup s x)
notices_stepped setup active s x h = by (is_client setup (client_of x))
  where
    by : (b : Bool)
        → notices_given (rules_of setup) active (if b then stepped_by setup s x else s).arrivals ≡ notices_given (rules_of setup) active s.arrivals ++
        notices_in (if b then events_by setup s x else [])
    by true = notices_by setup active s x h
    by false = sym (append-nil _)

notices_after : (setup : Setup) (active : ℕ) (s : Session) (xs : List Step) → Arrived setup active s →
    notices_given (rules_of setup) active (after_steps setup s xs).arrivals ≡ notices_given (rules_of setup) active s.arrivals ++
    notices_in (events_after setup s xs)
notices_after setup active s [] h = sym (append-nil _)
notices_after setup active s (x ∷ xs) h =
    notices_after setup active (stepped setup s x) xs (arrived_stepped setup active s x h)
    ∙ ap (λ l. l ++ notices_in (events_after setup (stepped setup s x) xs)) (notices_stepped setup active s x h)
    ∙ append_assoc (notices_given (rules_of setup) active s.arrivals) (notices_in (events setup s x)) (notices_in (events_after setup (stepped setup s x) xs))
    ∙ ap (λ l. notices_given (rules_of setup) active s.arrivals ++ l) (sym (notices_in-append (events setup s x) (events_after setup (stepped setup s x) xs)))

pub notices_are_of_arrivals : NoticesAreOfArrivals
notices_are_of_arrivals setup active steps =
    sym (notices_after setup active (opened setup active) steps refl) ∙ notices_are (rules_of setup) active (session setup active steps).arrivals

-- A session in bytes.

server_after-carried : {A B : Type 0} (f : A → B) (rules : Rules) (active : ℕ) (h : List (Arrival A))
    → server_after rules active (map (carry_arrival f) h) ≡ server_after rules active h
server_after-carried f rules active [] = refl
server_after-carried f rules active (a ∷ h) =
    heard_carry f rules (server_after rules active (map (carry_arrival f) h)) a ∙ ap (λ (s : Server). heard rules s a) (server_after-carried f rules active h)

pub server_hears_bytes : ServerHearsBytes
server_hears_bytes setup s a = sym (heard_carry (spelled setup) (rules_of setup) s.server a)

pub server_is_after_bytes : ServerIsAfterBytes
server_is_after_bytes setup active steps =
    server_is_after_arrivals setup active steps ∙ sym (server_after-carried (spelled setup) (rules_of setup) active (session setup active steps).arrivals)

pub bytes_go_down : BytesGoDown
bytes_go_down setup s a c =
    map-append (carry_down (spelled setup)) (s.downs c) (posts (rules_of setup) s.server a c)
    ∙ ap (λ l. downs_of setup s c ++ l) (sym (posts_carry (spelled setup) (rules_of setup) s.server a c))

pub bytes_go_up : BytesGoUp
bytes_go_up setup s c acted =
    ap (λ (l : List Up). map (carry_up (spelled setup)) l) (put_same c (s.ups c ++ acted.says) s.ups) ∙ map-append (carry_up (spelled setup)) (s.ups c)
    acted.says
