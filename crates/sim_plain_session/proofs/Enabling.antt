-- An event of a step is of that step, and a step that an event is of has just that one.
use Rattle.sim_base.specs.declared.step.Event.TheVariants as event
use Rattle.sim_base.specs.declared.step.Step.TheVariants as step
use Rattle.sim_plain.specs.declared.message.DownOf.TheVariants as down
use Rattle.sim_plain.specs.declared.message.UpOf.TheVariants as up
use Rattle.{sim_plain.proofs.Calm.put_same, sim_plain_session.proofs.Common.{Acted, acts, after, and_from, and_parts, ap, arith, begun, bend_event, bends}}
use Rattle.sim_plain_session.proofs.Common.{bent_seat, Bool, CanBend, CanLoad, CanOrder, CanPlay, Carries, client_of, Command, cond-true, differs, digest, Down}
use Rattle.sim_plain_session.proofs.Common.{Event, events_by, EventsAreOfSteps, EventsAreShown, fall_events, falls, false, filter, Heard, hears, idle}
use Rattle.sim_plain_session.proofs.Common.{if◌then◌else◌, inl, inr, is_accepted, is_active, is_client, is_none, IsAt, IsOfStep, IsShown, Joining, joins}
use Rattle.sim_plain_session.proofs.Common.{le-leb, leave_events, leaves, List, lt-ltb, ltb-true, map, map-append, may_bend, may_order, may_play, may_tell_done}
use Rattle.sim_plain_session.proofs.Common.{min, nat_lt, None, Off, On, opened, Option, ordered, orders, Past, Phase, play_event, played, plays, put, refl}
use Rattle.sim_plain_session.proofs.Common.{Report, report_fault, ReportsOther, rise_events, rises, row_of, rules_of, Seat, Session, Setup, shows_bend, Some}
use Rattle.sim_plain_session.proofs.Common.{start_events, StartsAreShown, state_of, Step, stepped_by, StepsHaveEvents, subst, suc, sym, told, told_alone}
use Rattle.sim_plain_session.proofs.Common.{told_with_done, true, Turn, turns_in, Up, up_to, zero, ℕ, ℤ, [], ◌++◌, ◌∙◌, ◌∷◌, ◌≡◌, ◌≤◌, ◌⊎◌}

-- ---- an event of a step is of that step

-- what holds of the one event that is there holds of each
of_one : (setup : Setup) (s : Session) (x : Step) (own e : Event) → IsOfStep setup s x own → Carries (own ∷ []) e → IsOfStep setup s x e
of_one setup s x own e of (inl same) = subst (λ (y : Event). IsOfStep setup s x y) same of
of_one setup s x own e of (inr none) = absurd none

of_order : (setup : Setup) (s : Session) (c : ℕ) (command : Command) (e : Event) (ph : Phase) → s.client c ≡ ph → Carries (orders setup c command ph).events e
    → IsOfStep setup s (step.Order c command) e
of_order setup s c command e Off is has = absurd has
of_order setup s c command e Joining is has = absurd has
of_order setup s c command e (On seat) is has = by (may_order setup seat) refl has
  where
    by : (b : Bool) → may_order setup seat ≡ b → Carries (if b then ordered c command seat else idle (On seat)).events e
        → IsOfStep setup s (step.Order c command) e
    by true may has =
        let parts = and_parts (nat_lt seat.done setup.turns) (nat_lt seat.orders 64) may in
        let can : CanOrder setup s c seat = record { on = is; turn = ltb-true _ _ parts.0; few = ltb-true _ _ parts.1 } in
        of_one setup s (step.Order c command) (event.Order c (suc seat.done)) e (refl, seat, can, refl) has
    by false may has = absurd has

-- the event of a turn that was played, whether or not the client is done with one turn more
told_one : (setup : Setup) (c : ℕ) (seat : Seat) (b : Bool)
    → (if b then told_with_done setup c seat else told_alone setup c seat).events ≡ play_event setup c seat ∷ []
told_one setup c seat true = refl
told_one setup c seat false = refl

of_play : (setup : Setup) (s : Session) (c : ℕ) (e : Event) (ph : Phase) → s.client c ≡ ph → Carries (plays setup c ph).events e
    → IsOfStep setup s (step.Play c) e
of_play setup s c e Off is has = absurd has
of_play setup s c e Joining is has = absurd has
of_play setup s c e (On seat) is has = by (may_play setup seat) refl has
  where
    by : (b : Bool) → may_play setup seat ≡ b → Carries (if b then told setup c (played seat) else idle (On seat)).events e → IsOfStep setup s (step.Play c) e
    by true may has =
        let parts = and_parts (nat_lt (turns_in seat.past) setup.turns) (nat_lt (turns_in seat.past) seat.released) may in
        let can : CanPlay setup s c seat = record { on = is; turn = ltb-true _ _ parts.0; released = ltb-true _ _ parts.1 } in
        of_one setup s (step.Play c) (play_event setup c (played seat)) e (refl, seat, can, refl, refl)
        (subst (λ (es : List Event). Carries es e) (told_one setup c (played seat) (may_tell_done setup (played seat))) has)
    by false may has = absurd has

of_join : (setup : Setup) (s : Session) (c : ℕ) (e : Event) (ph : Phase) → s.client c ≡ ph → Carries (joins c ph).events e → IsOfStep setup s (step.Join c) e
of_join setup s c e Off is has = of_one setup s (step.Join c) (event.Join c) e (refl, is) has
of_join setup s c e Joining is has = absurd has
of_join setup s c e (On seat) is has = absurd has

joining_is_not_off : Joining ≡ Off → ⊥
joining_is_not_off same = cc

on_is_not_off : (seat : Seat) → On seat ≡ Off → ⊥
on_is_not_off seat same = cc

of_cut : (setup : Setup) (s : Session) (c : ℕ) (e : Event) (ph : Phase) → s.client c ≡ ph → Carries (leave_events c ph) e → IsOfStep setup s (step.Cut c) e
of_cut setup s c e Off is has = absurd has
of_cut setup s c e Joining is has = of_one setup s (step.Cut c) (event.Cut c) e (refl, λ off. joining_is_not_off (sym is ∙ off)) has
of_cut setup s c e (On seat) is has = of_one setup s (step.Cut c) (event.Cut c) e (refl, λ off. on_is_not_off seat (sym is ∙ off)) has

of_bend : (setup : Setup) (s : Session) (c id : ℕ) (health : ℤ) (e : Event) (ph : Phase) → s.client c ≡ ph → Carries (bends setup c id health ph).events e
    → IsOfStep setup s (step.Bend c id health) e
of_bend setup s c id health e Off is has = absurd has
of_bend setup s c id health e Joining is has = absurd has
of_bend setup s c id health e (On seat) is has = by (may_bend setup health (row_of (after setup seat.past) id)) refl has
  where
    by : (b : Bool) → may_bend setup health (row_of (after setup seat.past) id) ≡ b
        → Carries (if b then shows_bend setup c (bent_seat id health seat) else idle (On seat)).events e → IsOfStep setup s (step.Bend c id health) e
    by true may has =
        let can : CanBend setup s c id health seat = record { on = is; may = may } in
        of_one setup s (step.Bend c id health) (bend_event setup c (bent_seat id health seat)) e (refl, seat, can, refl, refl) has
    by false may has = absurd has

of_refusal : (setup : Setup) (s : Session) (c code : ℕ) (e : Event) (rest : List Down) → s.downs c ≡ down.Refused code ∷ rest
    → Carries (event.Refused c code ∷ []) e → IsOfStep setup s (step.Down c) e
of_refusal setup s c code e rest next has = of_one setup s (step.Down c) (event.Refused c code) e (refl, record { rest = rest; next = next }) has

of_fall : (setup : Setup) (s : Session) (c : ℕ) (e : Event) (ph : Phase) (downs : List Down) → s.client c ≡ ph → s.downs c ≡ downs
    → Carries (fall_events setup c ph downs) e → IsOfStep setup s (step.Down c) e
of_fall setup s c e ph [] is next has = absurd has
of_fall setup s c e Joining (down.State done past ∷ rest) is next has =
    let can : CanLoad s c past = record { joining = is; done = done; rest = rest; next = next } in
    of_one setup s (step.Down c) (event.Load c (turns_in past) (digest setup (after setup past))) e (refl, past, can, refl, refl) has
of_fall setup s c e Off (down.Refused code ∷ rest) is next has = of_refusal setup s c code e rest next has
of_fall setup s c e Joining (down.Refused code ∷ rest) is next has = of_refusal setup s c code e rest next has
of_fall setup s c e (On seat) (down.Refused code ∷ rest) is next has = of_refusal setup s c code e rest next has
of_fall setup s c e ph (x ∷ rest) is next has = absurd has

-- a notice of each of these reports
abbrev noticed_of : List Report → List Event
noticed_of rs = map (λ (n : ℕ × ℕ). event.Notice n.0 n.1) (map (λ (r : Report). (r.0, r.1.0)) rs)

-- and of those that differ from the first one of their turn
abbrev notices_of : Session → List Report → List Event
notices_of s rs = noticed_of (filter (λ (r : Report). differs (s.server.reference r.0) r.1.1) rs)

-- what has no report gives none
no_notice : (s : Session) (b : Bool) (e : Event) → Carries (notices_of s (if b then [] else [])) e → ⊥
no_notice s true e has = has
no_notice s false e has = has

of_report : (setup : Setup) (s : Session) (c t : ℕ) (g : List ℕ) (rest : List Up) (e : Event) → s.ups c ≡ up.Report t g ∷ rest
    → Carries (notices_of s (if is_none (report_fault s.server.released t (s.server.status c)) then (t, (c, g)) ∷ [] else [])) e
    → IsOfStep setup s (step.Up c) e
of_report setup s c t g rest e next has = heard (report_fault s.server.released t (s.server.status c)) refl has
  where
    other : (b : Bool) → report_fault s.server.released t (s.server.status c) ≡ None → differs (s.server.reference t) g ≡ b
        → Carries (noticed_of (if b then (t, (c, g)) ∷ [] else [])) e → IsOfStep setup s (step.Up c) e
    other true accepted differ has =
        let reports : ReportsOther s c t = record { mark = g; rest = rest; next = next; accepted = accepted; other = differ } in
        of_one setup s (step.Up c) (event.Notice t c) e (refl, reports) has
    other false accepted differ has = absurd has

    heard : (fault : Option ℕ) → report_fault s.server.released t (s.server.status c) ≡ fault
        → Carries (notices_of s (if is_none fault then (t, (c, g)) ∷ [] else [])) e → IsOfStep setup s (step.Up c) e
    heard None accepted has = other (differs (s.server.reference t) g) accepted refl has
    heard (Some code) fault has = absurd has

of_rise : (setup : Setup) (s : Session) (c : ℕ) (e : Event) (ups : List Up) → s.ups c ≡ ups → Carries (rise_events setup s.server c ups) e
    → IsOfStep setup s (step.Up c) e
of_rise setup s c e [] next has = absurd has
of_rise setup s c e (up.Report t g ∷ rest) next has = of_report setup s c t g rest e next has
of_rise setup s c e (said ∷ rest) next has = absurd (no_notice s (is_accepted (rules_of setup) s.server (Heard c said)) e has)

of_step : (setup : Setup) (s : Session) (x : Step) (e : Event) → Carries (events_by setup s x) e → IsOfStep setup s x e
of_step setup s (step.Order c command) e has = of_order setup s c command e (s.client c) refl has
of_step setup s (step.Up c) e has = of_rise setup s c e (s.ups c) refl has
of_step setup s (step.Down c) e has = of_fall setup s c e (s.client c) (s.downs c) refl refl has
of_step setup s (step.Play c) e has = of_play setup s c e (s.client c) refl has
of_step setup s (step.Join c) e has = of_join setup s c e (s.client c) refl has
of_step setup s (step.Cut c) e has = of_cut setup s c e (s.client c) refl has
of_step setup s (step.Bend c id health) e has = of_bend setup s c id health e (s.client c) refl has

pub events_are_of_steps : EventsAreOfSteps
events_are_of_steps setup s x e has = by (is_client setup (client_of x)) has
  where
    by : (b : Bool) → Carries (if b then events_by setup s x else []) e → IsOfStep setup s x e
    by true has = of_step setup s x e has
    by false has = absurd has

-- ---- a step that an event is of has just that one

has_order : (setup : Setup) (s : Session) (c : ℕ) (command : Command) (seat : Seat) → CanOrder setup s c seat
    → events_by setup s (step.Order c command) ≡ event.Order c (suc seat.done) ∷ []
has_order setup s c command seat can =
    let may : may_order setup seat ≡ true = and_from _ _ (lt-ltb _ _ can.turn) (lt-ltb _ _ can.few) in
    ap (λ (ph : Phase). (orders setup c command ph).events) can.on ∙ ap (λ b. (if b then ordered c command seat else idle (On seat)).events) may

has_play : (setup : Setup) (s : Session) (c : ℕ) (seat : Seat) → CanPlay setup s c seat
    → events_by setup s (step.Play c) ≡ play_event setup c (played seat) ∷ []
has_play setup s c seat can =
    let may : may_play setup seat ≡ true = and_from _ _ (lt-ltb _ _ can.turn) (lt-ltb _ _ can.released) in
    ap (λ (ph : Phase). (plays setup c ph).events) can.on
    ∙ ap (λ b. (if b then told setup c (played seat) else idle (On seat)).events) may
    ∙ told_one setup c (played seat) (may_tell_done setup (played seat))

has_bend : (setup : Setup) (s : Session) (c id : ℕ) (health : ℤ) (seat : Seat) → CanBend setup s c id health seat
    → events_by setup s (step.Bend c id health) ≡ bend_event setup c (bent_seat id health seat) ∷ []
has_bend setup s c id health seat can =
    ap (λ (ph : Phase). (bends setup c id health ph).events) can.on
    ∙ ap (λ b. (if b then shows_bend setup c (bent_seat id health seat) else idle (On seat)).events) can.may

has_cut : (c : ℕ) (ph : Phase) → (ph ≡ Off → ⊥) → leave_events c ph ≡ event.Cut c ∷ []
has_cut c Off on = absurd (on refl)
has_cut c Joining on = refl
has_cut c (On seat) on = refl

has_load : (setup : Setup) (s : Session) (c : ℕ) (past : Past) → CanLoad s c past
    → events_by setup s (step.Down c) ≡ event.Load c (turns_in past) (digest setup (after setup past)) ∷ []
has_load setup s c past can =
    ap (λ (ph : Phase). fall_events setup c ph (s.downs c)) can.joining ∙ ap (fall_events setup c Joining) can.next

has_refusal : (setup : Setup) (c code : ℕ) (rest : List Down) (ph : Phase) → fall_events setup c ph (down.Refused code ∷ rest) ≡ event.Refused c code ∷ []
has_refusal setup c code rest Off = refl
has_refusal setup c code rest Joining = refl
has_refusal setup c code rest (On seat) = refl

has_notice : (setup : Setup) (s : Session) (c t : ℕ) → ReportsOther s c t → events_by setup s (step.Up c) ≡ event.Notice t c ∷ []
has_notice setup s c t reports =
    ap (rise_events setup s.server c) reports.next
    ∙ ap (λ fault. notices_of s (if is_none fault then (t, (c, reports.mark)) ∷ [] else [])) reports.accepted
    ∙ ap (λ b. noticed_of (if b then (t, (c, reports.mark)) ∷ [] else [])) reports.other

-- one event with the same parts
same_play : (c d t u : ℕ) (g h : List ℕ) → c ≡ d → u ≡ t → h ≡ g → event.Play c t g ∷ [] ≡ event.Play d u h ∷ []
same_play c d t u g h client turn shown = cc

has_event : (setup : Setup) (s : Session) (x : Step) (e : Event) → IsOfStep setup s x e → events_by setup s x ≡ e ∷ []
has_event setup s (step.Order c command) (event.Order d t) (same, seat, can, turn) = let events = has_order setup s c command seat can in cc
has_event setup s (step.Up c) (event.Notice t d) (same, reports) = let events = has_notice setup s c t reports in cc
has_event setup s (step.Down c) (event.Load d t g) (same, past, can, turn, shown) = let events = has_load setup s c past can in cc
has_event setup s (step.Down c) (event.Refused d code) (same, refused) =
    let events = ap (fall_events setup c (s.client c)) refused.next ∙ has_refusal setup c code refused.rest (s.client c) in cc
has_event setup s (step.Play c) (event.Play d t g) (same, seat, can, turn, shown) =
    has_play setup s c seat can
    ∙ same_play c d (suc (turns_in seat.past)) t (digest setup (after setup (played seat).past)) g same turn
    (shown ∙ ap (λ u. digest setup (after setup (Turn (seat.known u) ∷ seat.past))) turn)
has_event setup s (step.Join c) (event.Join d) (same, off) = let events = ap (λ (ph : Phase). (joins c ph).events) off in cc
has_event setup s (step.Cut c) (event.Cut d) (same, on) = let events = has_cut c (s.client c) on in cc
has_event setup s (step.Bend c id health) (event.Bend d t g) (same, seat, can, turn, shown) = let events = has_bend setup s c id health seat can in cc
has_event setup s x e of = absurd of

pub steps_have_events : StepsHaveEvents
steps_have_events setup s x e client of = cond-true (is_client setup (client_of x)) (events_by setup s x) [] client ∙ has_event setup s x e of

-- What is printed of a state is that of the client's past.

-- a client that is this is at a turn, and its state has this digest
abbrev AtPhase : Setup → Phase → ℕ → List ℕ → Type 0
AtPhase setup Off t g = ⊥
AtPhase setup Joining t g = ⊥
AtPhase setup (On o) t g = (t ≡ turns_in o.past) × (g ≡ digest setup (after setup o.past))

-- what an event shows of a client that is this
abbrev ShownBy : Setup → ℕ → Phase → Event → Type 0
ShownBy setup c ph (event.Start d g) = ⊥
ShownBy setup c ph (event.Order d t) = Unit {0}
ShownBy setup c ph (event.Play d t g) = (c ≡ d) × AtPhase setup ph t g
ShownBy setup c ph (event.Join d) = Unit {0}
ShownBy setup c ph (event.Load d t g) = (c ≡ d) × AtPhase setup ph t g
ShownBy setup c ph (event.Refused d code) = Unit {0}
ShownBy setup c ph (event.Cut d) = Unit {0}
ShownBy setup c ph (event.Bend d t g) = (c ≡ d) × AtPhase setup ph t g
ShownBy setup c ph (event.Notice t d) = Unit {0}

abbrev AllShown : Setup → ℕ → Phase → List Event → Type 0
AllShown setup c ph [] = Unit {0}
AllShown setup c ph (e ∷ es) = ShownBy setup c ph e × AllShown setup c ph es

one_shown : (setup : Setup) (c : ℕ) (ph : Phase) (es : List Event) (e : Event) → AllShown setup c ph es → Carries es e → ShownBy setup c ph e
one_shown setup c ph [] e h has = absurd has
one_shown setup c ph (x ∷ es) e h (inl same) = subst (λ (y : Event). ShownBy setup c ph y) same h.0
one_shown setup c ph (x ∷ es) e h (inr has) = one_shown setup c ph es e h.1 has

at_phase : (setup : Setup) (s : Session) (c t : ℕ) (g : List ℕ) (ph : Phase) → s.client c ≡ ph → AtPhase setup ph t g → IsAt setup s c t g
at_phase setup s c t g Off is h = absurd h
at_phase setup s c t g Joining is h = absurd h
at_phase setup s c t g (On o) is h = (o, is, h.0, h.1)

at_client : (setup : Setup) (s : Session) (c d t : ℕ) (g : List ℕ) (ph : Phase) → s.client c ≡ ph → (c ≡ d) × AtPhase setup ph t g
    → IsAt setup s d t g
at_client setup s c d t g ph is h = subst (λ x. IsAt setup s x t g) h.0 (at_phase setup s c t g ph is h.1)

shown_at : (setup : Setup) (s : Session) (c : ℕ) (ph : Phase) (e : Event) → s.client c ≡ ph → ShownBy setup c ph e → IsShown setup s e
shown_at setup s c ph (event.Start d g) is h = absurd h
shown_at setup s c ph (event.Order d t) is h = tt
shown_at setup s c ph (event.Play d t g) is h = at_client setup s c d t g ph is h
shown_at setup s c ph (event.Join d) is h = tt
shown_at setup s c ph (event.Load d t g) is h = at_client setup s c d t g ph is h
shown_at setup s c ph (event.Refused d code) is h = tt
shown_at setup s c ph (event.Cut d) is h = tt
shown_at setup s c ph (event.Bend d t g) is h = at_client setup s c d t g ph is h
shown_at setup s c ph (event.Notice t d) is h = tt

-- ---- what a client does

abbrev Shows : Setup → ℕ → Acted → Type 0
Shows setup c acted = AllShown setup c acted.phase acted.events

shows_if : (setup : Setup) (c : ℕ) (b : Bool) (x y : Acted) → Shows setup c x → Shows setup c y → Shows setup c (if b then x else y)
shows_if setup c true x y h k = h
shows_if setup c false x y h k = k

shows_orders : (setup : Setup) (c : ℕ) (x : Command) (ph : Phase) → Shows setup c (orders setup c x ph)
shows_orders setup c x Off = tt
shows_orders setup c x Joining = tt
shows_orders setup c x (On o) = shows_if setup c (may_order setup o) _ _ (tt, tt) tt

shows_plays : (setup : Setup) (c : ℕ) (ph : Phase) → Shows setup c (plays setup c ph)
shows_plays setup c Off = tt
shows_plays setup c Joining = tt
shows_plays setup c (On o) = shows_if setup c (may_play setup o) _ _ (shows_if setup c (may_tell_done setup (played o)) _ _ ((refl, (refl, refl)), tt)
    ((refl, (refl, refl)), tt)) tt

shows_joins : (setup : Setup) (c : ℕ) (ph : Phase) → Shows setup c (joins c ph)
shows_joins setup c Off = (tt, tt)
shows_joins setup c Joining = tt
shows_joins setup c (On o) = tt

shows_bends : (setup : Setup) (c e : ℕ) (h : ℤ) (ph : Phase) → Shows setup c (bends setup c e h ph)
shows_bends setup c e h Off = tt
shows_bends setup c e h Joining = tt
shows_bends setup c e h (On o) = shows_if setup c (may_bend setup h (row_of (state_of setup o) e)) _ _ ((refl, (refl, refl)), tt) tt

shows_hears : (setup : Setup) (c : ℕ) (ph : Phase) (x : Down) → Shows setup c (hears setup c ph x)
shows_hears setup c Off (down.Ask j) = tt
shows_hears setup c Off (down.State done past) = tt
shows_hears setup c Off (down.Command t x) = tt
shows_hears setup c Off (down.Release t) = tt
shows_hears setup c Off (down.Notice t j) = tt
shows_hears setup c Off (down.Refused code) = (tt, tt)
shows_hears setup c Joining (down.Ask j) = tt
shows_hears setup c Joining (down.State done past) = ((refl, (refl, refl)), tt)
shows_hears setup c Joining (down.Command t x) = tt
shows_hears setup c Joining (down.Release t) = tt
shows_hears setup c Joining (down.Notice t j) = tt
shows_hears setup c Joining (down.Refused code) = (tt, tt)
shows_hears setup c (On o) (down.Ask j) = tt
shows_hears setup c (On o) (down.State done past) = tt
shows_hears setup c (On o) (down.Command t x) = tt
shows_hears setup c (On o) (down.Release t) = tt
shows_hears setup c (On o) (down.Notice t j) = tt
shows_hears setup c (On o) (down.Refused code) = (tt, tt)

acts_shown : (setup : Setup) (s : Session) (c : ℕ) (acted : Acted) (e : Event) → Shows setup c acted → Carries acted.events e
    → IsShown setup (acts c acted s) e
acts_shown setup s c acted e h has = shown_at setup (acts c acted s) c acted.phase e (put_same c acted.phase s.client)
    (one_shown setup c acted.phase acted.events e h has)

-- ---- a step

notices_shown : (setup : Setup) (s : Session) (ns : List (ℕ × ℕ)) (e : Event) → Carries (map (λ (n : ℕ × ℕ). event.Notice n.0 n.1) ns) e
    → IsShown setup s e
notices_shown setup s [] e has = absurd has
notices_shown setup s (n ∷ ns) e (inl same) = subst (λ (y : Event). IsShown setup s y) same tt
notices_shown setup s (n ∷ ns) e (inr has) = notices_shown setup s ns e has

shown_by : (setup : Setup) (s : Session) (x : Step) (e : Event) → Carries (events_by setup s x) e → IsShown setup (stepped_by setup s x) e
shown_by setup s (step.Order c x) e has = acts_shown setup s c (orders setup c x (s.client c)) e (shows_orders setup c x (s.client c)) has
shown_by setup s (step.Up c) e has = by (s.ups c) has
  where
    by : (ups : List Up) → Carries (rise_events setup s.server c ups) e → IsShown setup (rises setup c ups s) e
    by [] has = absurd has
    by (x ∷ rest) has = notices_shown setup (rises setup c (x ∷ rest) s) _ e has
shown_by setup s (step.Down c) e has = by (s.downs c) has
  where
    by : (downs : List Down) → Carries (fall_events setup c (s.client c) downs) e → IsShown setup (falls setup c downs s) e
    by [] has = absurd has
    by (x ∷ rest) has = acts_shown setup (record s { downs = put c rest s.downs }) c (hears setup c (s.client c) x) e (shows_hears setup c (s.client c) x) has
shown_by setup s (step.Play c) e has = acts_shown setup s c (plays setup c (s.client c)) e (shows_plays setup c (s.client c)) has
shown_by setup s (step.Join c) e has = acts_shown setup s c (joins c (s.client c)) e (shows_joins setup c (s.client c)) has
shown_by setup s (step.Cut c) e has = by (s.client c) has
  where
    by : (ph : Phase) → Carries (leave_events c ph) e → IsShown setup (leaves setup c ph s) e
    by Off has = absurd has
    by Joining (inl same) = subst (λ (y : Event). IsShown setup (leaves setup c Joining s) y) same tt
    by Joining (inr none) = absurd none
    by (On o) (inl same) = subst (λ (y : Event). IsShown setup (leaves setup c (On o) s) y) same tt
    by (On o) (inr none) = absurd none
shown_by setup s (step.Bend c id h) e has = acts_shown setup s c (bends setup c id h (s.client c)) e (shows_bends setup c id h (s.client c)) has

pub events_are_shown : EventsAreShown
events_are_shown setup s x e has = by (is_client setup (client_of x)) has
  where
    by : (b : Bool) → Carries (if b then events_by setup s x else []) e → IsShown setup (if b then stepped_by setup s x else s) e
    by true has = shown_by setup s x e has
    by false has = absurd has

-- ---- the beginning

pub carries_either : (xs ys : List Event) (e : Event) → Carries (xs ++ ys) e → Carries xs e ⊎ Carries ys e
carries_either [] ys e has = inr has
carries_either (x ∷ xs) ys e (inl same) = inl (inl same)
carries_either (x ∷ xs) ys e (inr has) = by (carries_either xs ys e has)
  where
    by : Carries xs e ⊎ Carries ys e → Carries (x ∷ xs) e ⊎ Carries ys e
    by (inl a) = inl (inr a)
    by (inr b) = inr b

map_up_to : (f : ℕ → Event) (n : ℕ) → map f (up_to (suc n)) ≡ map f (up_to n) ++ f (suc n) ∷ []
map_up_to f n = map-append f (up_to n) (suc n ∷ [])

starts_to : (setup : Setup) (active n : ℕ) (e : Event) → n ≤ active → Carries (start_events setup n) e → IsShown setup (opened setup active) e
starts_to setup active zero e le has = absurd has
starts_to setup active (suc n) e le has =
    by (carries_either (start_events setup n) (first ∷ []) e
    (subst (λ (l : List Event). Carries l e) (map_up_to (λ c. event.Start c (digest setup (after setup []))) n) has))
    (λ (more : Carries (start_events setup n) e). starts_to setup active n e (omega arith) more)
  where
    first : Event
    first = event.Start (suc n) (digest setup (after setup []))

    here : is_active active (suc n) ≡ true
    here = and_from _ _ (lt-ltb 0 (suc n) (omega arith)) (le-leb (suc n) active le)

    shown : IsShown setup (opened setup active) first
    shown = (begun (min setup.turns setup.delay) (min setup.turns setup.delay) [], cond-true _ _ _ here, refl, refl)

    by : Carries (start_events setup n) e ⊎ Carries (first ∷ []) e → (Carries (start_events setup n) e → IsShown setup (opened setup active) e)
        → IsShown setup (opened setup active) e
    by (inl more) rec = rec more
    by (inr (inl same)) rec = subst (λ (y : Event). IsShown setup (opened setup active) y) same shown
    by (inr (inr none)) rec = absurd none

pub starts_are_shown : StartsAreShown
starts_are_shown setup active e has = starts_to setup active active e (omega arith) has
