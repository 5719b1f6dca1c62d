-- A load among the events of a step is one of its client.
use Rattle.sim_base.specs.declared.step.Event.TheVariants as event
use Rattle.sim_base.specs.declared.step.Step.TheVariants as step
use Rattle.sim_plain.specs.declared.message.DownOf.TheVariants as down
use Rattle.{sim_base.specs.{Rows.row_of, Turn.may_bend}, sim_plain.specs.{Messages.Heard, Server.noticed}}
use Rattle.sim_plain_session.specs.Clients.{Acted, bends, bent_seat, Down, hears, idle, Joining, joins, may_order, may_play, may_tell_done, Off, On, ordered}
use Rattle.sim_plain_session.specs.{Clients.{orders, played, plays, shows_bend, state_of, told_alone, told_with_done, Up}, Pasts.rules_of}
use Rattle.{sim_plain_session.specs.Sessions.{events_by, fall_events, leave_events, rise_events}, sim_session.proofs.TextCommon.{after, arith, Bool, client_of}}
use Rattle.sim_session.proofs.TextCommon.{digest, eq-eqb, Event, events, false, has_load, if◌then◌else◌, is_client, List, loads_in, map, Phase, refl, Session}
use Rattle.{sim_session.proofs.TextCommon.{Setup, Step, subst, sym, true, turns_in, ℕ, [], ◌+◌, ◌==◌, ◌∙◌, ◌∷◌, ◌≡◌, ◌≤◌}, std.proofs.lemmas.Bool.true≢false}

-- where one of these events is a load, one of them is a load of this client
abbrev OwnLoads : ℕ → List Event → Type 0
OwnLoads c es = has_load es ≡ true → 1 ≤ loads_in es c

-- none is a load
none : (c : ℕ) (es : List Event) → has_load es ≡ false → OwnLoads c es
none c es idle_is load_is = absurd (true≢false (sym load_is ∙ idle_is))

-- either way
either : (c : ℕ) (b : Bool) (one other : Acted) → OwnLoads c one.events → OwnLoads c other.events → OwnLoads c (if b then one else other).events
either c true one other p q = p
either c false one other p q = q

ordering : (setup : Setup) (c : ℕ) (command : _) (phase : Phase) → OwnLoads c (orders setup c command phase).events
ordering setup c command Off = none c [] refl
ordering setup c command Joining = none c [] refl
ordering setup c command (On seat) = either c (may_order setup seat) (ordered c command seat) (idle (On seat)) (none c (ordered c command seat).events refl)
    (none c [] refl)

playing : (setup : Setup) (c : ℕ) (phase : Phase) → OwnLoads c (plays setup c phase).events
playing setup c Off = none c [] refl
playing setup c Joining = none c [] refl
playing setup c (On seat) =
    let next = played seat in
    either c (may_play setup seat) (if may_tell_done setup next then told_with_done setup c next else told_alone setup c next) (idle (On seat))
    (either c (may_tell_done setup next) (told_with_done setup c next) (told_alone setup c next) (none c (told_with_done setup c next).events refl)
    (none c (told_alone setup c next).events refl)) (none c [] refl)

joining : (c : ℕ) (phase : Phase) → OwnLoads c (joins c phase).events
joining c Off = none c (joins c Off).events refl
joining c Joining = none c [] refl
joining c (On seat) = none c [] refl

bending : (setup : Setup) (c id : ℕ) (health : _) (phase : Phase) → OwnLoads c (bends setup c id health phase).events
bending setup c id health Off = none c [] refl
bending setup c id health Joining = none c [] refl
bending setup c id health (On seat) =
    either c (may_bend setup health (row_of (state_of setup seat) id)) (shows_bend setup c (bent_seat id health seat)) (idle (On seat))
    (none c (shows_bend setup c (bent_seat id health seat)).events refl) (none c [] refl)

leaving : (c : ℕ) (phase : Phase) → OwnLoads c (leave_events c phase)
leaving c Off = none c [] refl
leaving c Joining = none c (event.Cut c ∷ []) refl
leaving c (On seat) = none c (event.Cut c ∷ []) refl

-- the one load that there is
loading : (c turn : ℕ) (shown : List ℕ) → OwnLoads c (event.Load c turn shown ∷ [])
loading c turn shown load_is =
    let own : (c == c) ≡ true = eq-eqb c c refl in
    subst (λ (b : Bool). 1 ≤ 0 + (if b then 1 else 0)) (sym own) (omega arith)

hearing : (setup : Setup) (c : ℕ) (phase : Phase) (said : Down) → OwnLoads c (hears setup c phase said).events
hearing setup c Off (down.Ask j) = none c [] refl
hearing setup c Off (down.State done past) = none c [] refl
hearing setup c Off (down.Command t order) = none c [] refl
hearing setup c Off (down.Release t) = none c [] refl
hearing setup c Off (down.Notice t j) = none c [] refl
hearing setup c Off (down.Refused code) = none c (event.Refused c code ∷ []) refl
hearing setup c Joining (down.Ask j) = none c [] refl
hearing setup c Joining (down.State done past) = loading c (turns_in past) (digest setup (after setup past))
hearing setup c Joining (down.Command t order) = none c [] refl
hearing setup c Joining (down.Release t) = none c [] refl
hearing setup c Joining (down.Notice t j) = none c [] refl
hearing setup c Joining (down.Refused code) = none c (event.Refused c code ∷ []) refl
hearing setup c (On seat) (down.Ask j) = none c [] refl
hearing setup c (On seat) (down.State done past) = none c [] refl
hearing setup c (On seat) (down.Command t order) = none c [] refl
hearing setup c (On seat) (down.Release t) = none c [] refl
hearing setup c (On seat) (down.Notice t j) = none c [] refl
hearing setup c (On seat) (down.Refused code) = none c (event.Refused c code ∷ []) refl

-- notices are none
noticing : (ns : List (ℕ × ℕ)) → has_load (map (λ (n : ℕ × ℕ). event.Notice n.0 n.1) ns) ≡ false
noticing [] = refl
noticing (n ∷ ns) = noticing ns

rising : (setup : Setup) (s : Session) (c : ℕ) (ups : List Up) → OwnLoads c (rise_events setup s.server c ups)
rising setup s c [] = none c [] refl
rising setup s c (said ∷ rest) = none c (rise_events setup s.server c (said ∷ rest)) (noticing (noticed (rules_of setup) s.server (Heard c said)))

falling : (setup : Setup) (c : ℕ) (phase : Phase) (downs : List Down) → OwnLoads c (fall_events setup c phase downs)
falling setup c phase [] = none c [] refl
falling setup c phase (said ∷ rest) = hearing setup c phase said

by_kind : (setup : Setup) (s : Session) (x : Step) → OwnLoads (client_of x) (events_by setup s x)
by_kind setup s (step.Order c command) = ordering setup c command (s.client c)
by_kind setup s (step.Up c) = rising setup s c (s.ups c)
by_kind setup s (step.Down c) = falling setup c (s.client c) (s.downs c)
by_kind setup s (step.Play c) = playing setup c (s.client c)
by_kind setup s (step.Join c) = joining c (s.client c)
by_kind setup s (step.Cut c) = leaving c (s.client c)
by_kind setup s (step.Bend c id health) = bending setup c id health (s.client c)

-- the same of every step
pub loads_are_own : (setup : Setup) (s : Session) (x : Step) → has_load (events setup s x) ≡ true → 1 ≤ loads_in (events setup s x) (client_of x)
loads_are_own setup s x = by (is_client setup (client_of x))
  where
    by : (b : Bool) → OwnLoads (client_of x) (if b then events_by setup s x else [])
    by true = by_kind setup s x
    by false = none (client_of x) [] refl
