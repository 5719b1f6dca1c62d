-- A client that acts beside the exchange makes just what the definition of a session says, over plain values.
use Rattle.sim_base.specs.declared.step.Event.TheVariants as event
use Rattle.sim_base.specs.declared.step.Step.TheVariants as step
use Rattle.sim_plain.specs.declared.message.UpOf.TheVariants as up
use Rattle.sim_plain_session.specs.Clients as plain
use Rattle.{sim_board.proofs.Counting.not_built, sim_client.proofs.Small.{orders_small, plays_small}}
use Rattle.sim_session.proofs.Common.{Act, Acted, acts, ActsBy, All, All-cons, All-nil, Answers, ap, append-nil, AreBuilt, AreBuiltIf, AreFrames, AreKept}
use Rattle.sim_session.proofs.Common.{arith, bending_follows, bends, bent, Bool, carry_up, cases_eq, Client, client_of, Command, cond-false, cond-true, Conveys}
use Rattle.sim_session.proofs.Common.{cut, Did, Done, eq-eqb, Err, Event, events_by, false, false≢true, Follows, has_happened, has_load, HasFewIds, Held, Idle}
use Rattle.sim_session.proofs.Common.{IfOk, if◌then◌else◌, inl, inr, is_off, IsBuiltOnceAtMost, IsSmallUp, IsUpFrame, join_shown, Joining, joining_follows}
use Rattle.sim_session.proofs.Common.{joins, leave_events, leaves, Life, life_after, List, Lives, LoadsBy, Makes, map, may_bend, may_order, Meaning, ne_eqb}
use Rattle.sim_session.proofs.Common.{None, Off, Ok, On, OnOk, Option, order_shown, ordered, ordering_follows, orders, OutOfMemory, Phase, pipe_in}
use Rattle.sim_session.proofs.Common.{played_events, playing_follows, plays, put, put_same, refl, Result, rise_events, rises, row_of, Said, said_by}
use Rattle.sim_session.proofs.Common.{said_events, says_of, Session, Setup, shows, shows_after, Some, spelled, StandBeside, Step, stepped_by, subst, sym}
use Rattle.sim_session.proofs.{Common.{Systems, systems_on, Tells, told, true, Up, ℕ, ℤ, [], ◌++◌, ◌∙◌, ◌∷◌, ◌≡◌, ◌⊎◌}, Stepping.rises_stay}

-- ---- answers

-- what follows from a value that was answered
pub then_ok : {V E : Type 0} {P Q : V → Type 0} (result : Result V E) → ((v : V) → P v → Q v) → IfOk result P → IfOk result Q
then_ok (Ok v) follows p = follows v p
then_ok (Err e) follows p = tt

pub then_on : {V E : Type 0} {P Q : Type 0} (result : Result V E) → (P → Q) → OnOk result P → OnOk result Q
then_on (Ok v) follows p = follows p
then_on (Err e) follows p = tt

-- ---- systems that were kept

once : (m n : Meaning) → n.rebuilds ≡ m.rebuilds → IsBuiltOnceAtMost m n
once m n same = record { low = omega (arith, same); high = omega (arith, same) }

pub kept_most : (s t : Systems) → AreKept s t → AreBuilt s t
kept_most s t kept = record {
  kinds = kept.kinds;
  most = record {
    ground = once s.ground t.ground kept.rebuilds.ground;
    range = once s.range t.range kept.rebuilds.range;
    watch = once s.watch t.watch kept.rebuilds.watch;
    census = once s.census t.census kept.rebuilds.census;
  };
}

pub kept_built : (b : Bool) (s t : Systems) → AreKept s t → AreBuiltIf b s t
kept_built true s t kept = (kept_most s t kept).most
kept_built false s t kept = kept.rebuilds

pub unbuilt : (b : Bool) (s : Systems) → AreBuiltIf b s s
unbuilt true s = record { ground = not_built s.ground; range = not_built s.range; watch = not_built s.watch; census = not_built s.census }
unbuilt false s = record { ground = refl; range = refl; watch = refl; census = refl }

-- ---- what a client did

pub done_by : (act : Option Act) (old : Life) (did : Did) (new : Life) → Answers act old (Ok did) new → (new ≡ life_after act old) × (said_by did ≡ says_of act)
done_by None old Idle new h = (h, refl)
done_by None old (Done ups) new h = absurd h
done_by (Some act) old Idle new h = absurd h
done_by (Some act) old (Done ups) new h = (h.0, h.1)

told_by : (setup : Setup) (make : ℕ → List ℕ → Event) (act : Option Act) (old : Life) (b : Bool) (new : Life) → Tells act old b new
    → (new ≡ life_after act old) × ((if b then shows setup make new else []) ≡ shows_after setup make act)
told_by setup make None old b new h = (h.1, ap (λ (b : Bool). if b then shows setup make new else []) h.0)
told_by setup make (Some act) old b new h = (h.1, ap (λ (b : Bool). if b then shows setup make new else []) h.0 ∙ ap (shows setup make) h.1)

-- ---- what is printed of what a client says is what is seen of it

order_printed : (setup : Setup) (c : ℕ) (command : Command) (l : Life) → said_events c (says_of (orders setup command l)) ≡ order_shown c
    (says_of (orders setup command l))
order_printed setup c command Off = refl
order_printed setup c command Joining = refl
order_printed setup c command (On player) = by (may_order setup player)
  where
    by : (b : Bool) → said_events c (says_of (if b then Some (ordered command player) else None)) ≡ order_shown c
        (says_of (if b then Some (ordered command player) else None))
    by true = refl
    by false = refl

join_printed : (c : ℕ) (l : Life) → said_events c (says_of (joins l)) ≡ join_shown c (joins l)
join_printed c Off = refl
join_printed c Joining = refl
join_printed c (On player) = refl

-- a client that did something is seen as it is then
happened_shown : (setup : Setup) (make : ℕ → List ℕ → Event) (act : Option Act) (old : Life) (did : Did) (new : Life) → Answers act old (Ok did) new
    → (if has_happened did then shows setup make new else []) ≡ shows_after setup make act
happened_shown setup make None old Idle new h = refl
happened_shown setup make None old (Done ups) new h = absurd h
happened_shown setup make (Some act) old Idle new h = absurd h
happened_shown setup make (Some act) old (Done ups) new h = ap (shows setup make) h.0

-- ---- what a client says has frames

joins_small : (l : Life) → All IsSmallUp (says_of (joins l))
joins_small Off = All-cons IsSmallUp up.Join [] tt (All-nil IsSmallUp)
joins_small Joining = All-nil IsSmallUp
joins_small (On player) = All-nil IsSmallUp

-- what was said has frames, where what is to be said has them
pub said_small : (act : Option Act) (old : Life) (did : Did) (new : Life) → Answers act old (Ok did) new → All IsSmallUp (says_of act)
    → All IsSmallUp (said_by did)
said_small act old did new answers small = subst (All IsSmallUp) (sym (done_by act old did new answers).1) small

pub order_small : (setup : Setup) (command : Command) (old : Life) (did : Did) (new : Life) → HasFewIds command → Answers (orders setup command old) old
    (Ok did) new → All IsSmallUp (said_by did)
order_small setup command old did new few answers = said_small (orders setup command old) old did new answers (orders_small setup command old few)

pub join_small : (old : Life) (did : Did) (new : Life) → Answers (joins old) old (Ok did) new → All IsSmallUp (said_by did)
join_small old did new answers = said_small (joins old) old did new answers (joins_small old)

pub play_small : (setup : Setup) (old : Life) (did : Did) (new : Life) → Answers (plays setup old) old (Ok did) new → All IsSmallUp (said_by did)
play_small setup old did new answers = said_small (plays setup old) old did new answers (plays_small setup old)

-- ---- each kind of step

-- a client has acted, and what it said has gone up
pub acts_beside : (setup : Setup) (c : ℕ) (s : Session) (old new : Life) (act : Option Act) (shown : List Event) (acted : Acted) (behind : Held)
    → Follows setup old act shown acted → new ≡ life_after act old → Conveys setup behind (acts c acted s) → StandBeside setup c new behind (acts c acted s)
acts_beside setup c s old new act shown acted behind follows is conveys = record {
  lives = subst (Lives setup new) (sym (put_same c acted.phase s.client)) (subst (λ (l : Life). Lives setup l acted.phase) (sym is) follows.lives);
  held = conveys;
}

-- what it said has gone up, or memory was refused
abbrev pub IsSent : Setup → ℕ → Held → List Said → Result (List Event) OutOfMemory → Held → Type 0
IsSent setup c before said result behind =
    (s : Session) (acted : Acted) → Conveys setup before s → said ≡ map (carry_up (spelled setup)) acted.says
    → OnOk result (Conveys setup behind (acts c acted s))

told_makes : (setup : Setup) (x : Step) (old new : Life) (before behind : Held) (did : Did) (result : Result (List Event) OutOfMemory)
    (act : Option Act) (shown : List Event) (acted : Phase → Acted)
    → ((s : Session) → stepped_by setup s x ≡ acts (client_of x) (acted (s.client (client_of x))) s)
    → ((s : Session) → events_by setup s x ≡ (acted (s.client (client_of x))).events)
    → ((phase : Phase) → Lives setup old phase → Follows setup old act shown (acted phase))
    → Answers act old (Ok did) new → IsSent setup (client_of x) before (said_by did) result behind → IfOk result (λ events. events ≡ shown)
    → IfOk result (λ events. Makes setup x old before new behind events)
told_makes setup x old new before behind did (Err e) act shown acted stepped printed law answers sent told = tt
told_makes setup x old new before behind did (Ok events) act shown acted stepped printed law answers sent told =
    let c = client_of x in
    let done = done_by act old did new answers in
    record {
      stand = λ s valid at.
          let follows = law (s.client c) at.lives in
          subst (StandBeside setup c new behind) (sym (stepped s))
          (acts_beside setup c s old new act shown (acted (s.client c)) behind follows done.0 (sent s (acted (s.client c)) at.held (done.1 ∙ follows.said)));
      printed = λ s valid at. told ∙ (law (s.client c) at.lives).printed ∙ sym (printed s);
    }

-- what is printed of what was said is what is seen of it
said_seen : (c : ℕ) (act : Option Act) (old new : Life) (did : Did) (result : Result (List Event) OutOfMemory) (shown : List Event)
    → Answers act old (Ok did) new → said_events c (says_of act) ≡ shown → IfOk result (λ events. events ≡ said_events c (said_by did))
    → IfOk result (λ events. events ≡ shown)
said_seen c act old new did result shown answers seen = then_ok result (λ events told. told ∙ ap (said_events c) (done_by act old did new answers).1 ∙ seen)

pub order_makes : (setup : Setup) (c : ℕ) (command : Command) (old new : Life) (before behind : Held) (did : Did) (result : Result (List Event) OutOfMemory)
    → Answers (orders setup command old) old (Ok did) new → IsSent setup c before (said_by did) result behind
    → IfOk result (λ events. events ≡ said_events c (said_by did)) → IfOk result (λ events. Makes setup (step.Order c command) old before new behind events)
order_makes setup c command old new before behind did result answers sent told =
    let act = orders setup command old in
    let shown = order_shown c (says_of act) in
    told_makes setup (step.Order c command) old new before behind did result act shown (plain.orders setup c command) (λ s. refl) (λ s. refl)
    (ordering_follows setup c command old) answers sent (said_seen c act old new did result shown answers (order_printed setup c command old) told)

pub play_makes : (setup : Setup) (c : ℕ) (old new : Life) (before behind : Held) (did : Did) (events : List Event)
    → Answers (plays setup old) old (Ok did) new
    → ((s : Session) (acted : Acted) → Conveys setup before s → said_by did ≡ map (carry_up (spelled setup)) acted.says → Conveys setup behind (acts c acted s))
    → events ≡ played_events setup c new (has_happened did) → Makes setup (step.Play c) old before new behind events
play_makes setup c old new before behind did events answers sent told =
    told_makes setup (step.Play c) old new before behind did (Ok events) (plays setup old) (shows_after setup (event.Play c) (plays setup old))
    (plain.plays setup c) (λ s. refl) (λ s. refl) (playing_follows setup c old) answers sent
    (told ∙ happened_shown setup (event.Play c) (plays setup old) old did new answers)

pub join_makes : (setup : Setup) (c : ℕ) (old new : Life) (before behind : Held) (did : Did) (result : Result (List Event) OutOfMemory)
    → Answers (joins old) old (Ok did) new → IsSent setup c before (said_by did) result behind → IfOk result (λ events. events ≡ said_events c (said_by did))
    → IfOk result (λ events. Makes setup (step.Join c) old before new behind events)
join_makes setup c old new before behind did result answers sent told =
    let act = joins old in
    let shown = join_shown c act in
    told_makes setup (step.Join c) old new before behind did result act shown (plain.joins c) (λ s. refl) (λ s. refl) (joining_follows setup c old) answers sent
    (said_seen c act old new did result shown answers (join_printed c old) told)

-- a client that says nothing leaves all pipes as they are
silent : (setup : Setup) (held : Held) (s : Session) (c : ℕ) (acted : Acted) → acted.says ≡ [] → Conveys setup held s → Conveys setup held (acts c acted s)
silent setup held s c acted none conveys = record {
  rules = conveys.rules;
  server = conveys.server;
  ups = λ d low high. subst (λ (said : List Up). AreFrames IsUpFrame (pipe_in held.ups d) (map (carry_up (spelled setup)) said)) (sym (at d (cases_eq d c)))
      (conveys.ups d low high);
  downs = conveys.downs;
}
  where
    at : (d : ℕ) → (d ≡ c) ⊎ (d ≡ c → ⊥) → put c (s.ups c ++ acted.says) s.ups d ≡ s.ups d
    at d (inl e) = cond-true _ (s.ups c ++ acted.says) (s.ups d) (eq-eqb d c e) ∙ ap (λ l. s.ups c ++ l) none ∙ append-nil (s.ups c) ∙ ap s.ups (sym e)
    at d (inr apart) = cond-false _ (s.ups c ++ acted.says) (s.ups d) (ne_eqb d c apart)

nothing_said : (setup : Setup) (ups : List Up) → [] ≡ map (carry_up (spelled setup)) ups → ups ≡ []
nothing_said setup [] none = refl
nothing_said setup (said ∷ rest) none = absurd (cc)

bends_silent : (setup : Setup) (id : ℕ) (health : ℤ) (l : Life) → says_of (bends setup id health l) ≡ []
bends_silent setup id health Off = refl
bends_silent setup id health Joining = refl
bends_silent setup id health (On player) = by (may_bend setup health (row_of player.state id))
  where
    by : (b : Bool) → says_of (if b then Some (record { life = On (record player { state = bent setup player.state id health }); says = [] }) else None) ≡ []
    by true = refl
    by false = refl

pub bend_makes : (setup : Setup) (c id : ℕ) (health : ℤ) (old new : Life) (held : Held) (b : Bool) (events : List Event)
    → Tells (bends setup id health old) old b new → events ≡ (if b then shows setup (event.Bend c) new else []) → Makes setup (step.Bend c id health) old held
    new held events
bend_makes setup c id health old new held b events tells told =
    let act = bends setup id health old in
    let done = told_by setup (event.Bend c) act old b new tells in
    record {
      stand = λ s valid at.
          let acted = plain.bends setup c id health (s.client c) in
          let follows = bending_follows setup c id health old (s.client c) at.lives in
          let none = nothing_said setup acted.says (sym (bends_silent setup id health old) ∙ follows.said) in
          acts_beside setup c s old new act (shows_after setup (event.Bend c) act) acted held follows done.0 (silent setup held s c acted none at.held);
      printed = λ s valid at. told ∙ done.1 ∙ (bending_follows setup c id health old (s.client c) at.lives).printed;
    }

-- the server hears what was said
pub up_makes : (setup : Setup) (c : ℕ) (life : Life) (before behind : Held) (result : Result (List Event) OutOfMemory)
    → ((s : Session) → Conveys setup before s → OnOk result (Conveys setup behind (rises setup c (s.ups c) s)))
    → ((s : Session) → Conveys setup before s → IfOk result (λ events. events ≡ rise_events setup s.server c (s.ups c)))
    → IfOk result (λ events. Makes setup (step.Up c) life before life behind events)
up_makes setup c life before behind (Err e) stands printed = tt
up_makes setup c life before behind (Ok events) stands printed = record {
  stand = λ s valid at. record { lives = subst (Lives setup life) (sym (rises_stay setup c (s.ups c) s c)) at.lives; held = stands s at.held };
  printed = λ s valid at. printed s at.held;
}

-- a client that is off cannot be cut
off_phase : (setup : Setup) (l : Life) (phase : Phase) → Lives setup l phase → is_off l ≡ true → phase ≡ plain.Off
off_phase setup Off plain.Off lives off = refl
off_phase setup Off plain.Joining lives off = absurd lives
off_phase setup Off (plain.On seat) lives off = absurd lives
off_phase setup Joining phase lives off = absurd (false≢true off)
off_phase setup (On player) phase lives off = absurd (false≢true off)

pub off_makes : (setup : Setup) (c : ℕ) (life : Life) (held : Held) → is_off life ≡ true → Makes setup (step.Cut c) life held life held []
off_makes setup c life held off = record {
  stand = λ s valid at.
      subst (λ (phase : Phase). StandBeside setup c life held (leaves setup c phase s)) (sym (off_phase setup life (s.client c) at.lives off)) at;
  printed = λ s valid at. sym (ap (leave_events c) (off_phase setup life (s.client c) at.lives off));
}

-- any other is off then
pub cut_makes : (setup : Setup) (c : ℕ) (old new : Life) (before behind : Held) (events : List Event) → is_off old ≡ false → new ≡ Off
    → events ≡ event.Cut c ∷ []
    → ((s : Session) → Conveys setup before s → Conveys setup behind (cut setup c s)) → Makes setup (step.Cut c) old before new behind events
cut_makes setup c old new before behind events on is told stands = record {
  stand = λ s valid at. (by s (at.held) old on (s.client c) at.lives).0;
  printed = λ s valid at. told ∙ sym (by s (at.held) old on (s.client c) at.lives).1;
}
  where
    gone : (s : Session) → Conveys setup before s → StandBeside setup c new behind (cut setup c s)
    gone s held = record {
      lives = subst (Lives setup new) (sym (put_same c plain.Off s.client)) (subst (λ (l : Life). Lives setup l plain.Off) (sym is) tt);
      held =
          stands s held;
    }

    by : (s : Session) → Conveys setup before s → (l : Life) → is_off l ≡ false → (phase : Phase) → Lives setup l phase
        → StandBeside setup c new behind (leaves setup c phase s) × (leave_events c phase ≡ event.Cut c ∷ [])
    by s held Off on phase lives = absurd (false≢true (sym on))
    by s held Joining on plain.Off lives = absurd lives
    by s held Joining on plain.Joining lives = (gone s held, refl)
    by s held Joining on (plain.On seat) lives = absurd lives
    by s held (On player) on plain.Off lives = absurd lives
    by s held (On player) on plain.Joining lives = absurd lives
    by s held (On player) on (plain.On seat) lives = (gone s held, refl)

-- A client that acts without loading a state does what one may that loads one.

each : {V E : Type 0} {Q : V → Type 0} (result : Result V E) → ((v : V) → Q v) → IfOk result Q
each (Ok v) all = all v
each (Err e) all = tt

pub acted : {Y X : Type 0} {G : Y → Type 0} {F : X → Type 0} {M : _} {E : Type 0} (m : (i : X) → F i → Meaning) (x : Step) (Nothing : Type 0)
    (result : Result (List Event) E) (old : Client Y X G F M) (before : Held) (new : Client Y X G F M) (behind : Held)
    → ActsBy m x Nothing result old before new behind → LoadsBy m x result old before new behind
acted m x Nothing result old before new behind acts =
    let were = systems_on old.board m in
    let are = systems_on new.board m in
    record {
      made = acts.made;
      sound = acts.sound;
      built = each result (λ events. kept_built (has_load events) were are acts.kept);
      most = kept_most were are acts.kept;
      loads = λ s at. kept_built (has_load (events_by old.setup.now s x)) were are acts.kept;
      setup = acts.setup;
      rules = acts.rules;
    }
