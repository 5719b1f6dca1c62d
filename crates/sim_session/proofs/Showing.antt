-- An event of a session shows what the steps up to its own led to, and each step has the events that are of it.
use Rattle.sim_base.specs.declared.step.Event.TheVariants as event
use Rattle.sim_base.specs.declared.step.Step.TheVariants as step
use Rattle.sim_session.specs.declared.ending.End.TheVariants as ends
use Rattle.{sim_base.specs.{declared.command.PlayerCommand.PlayerCommand, Limits.IsFrom, Turn.Turn}, sim_lists.specs.StepLists.IsStepList}
use Rattle.sim_plain_session.proofs.{Enabling.{carries_either, events_are_shown, starts_are_shown, steps_have_events}, GoingOn.session_goes_on}
use Rattle.sim_plain_session.specs.{Clients.{begun, digest_of, Joining, Off, On}, Pasts.kept_turns, Sessions.{Carries, IsAt, IsShown}}
use Rattle.sim_session.proofs.TextCommon.{after, All, ap, append-nil, append_assoc, arith, client_of, cond-true, digest, end_of, Event, events_after}
use Rattle.sim_session.proofs.TextCommon.{holds_session, inl, is_active, is_client, IsStep, le-leb, List, lt-ltb, min, opened, Phase, refl, Session, session}
use Rattle.sim_session.proofs.TextCommon.{session_of, Setup, start_events, Step, StepList, stepped, subst, suc, sym, true, turns_in, zero, ℕ, [], ◌++◌, ◌∙◌}
use Rattle.sim_session.{proofs.TextCommon.{◌∷◌, ◌≡◌, ◌≤◌}, specs.Laws.{EndsShowPasts, events_of, EventsShowPasts, IsStepAt, PlaysAreTold, session_at}}
use Rattle.sim_session.specs.Laws.{ShowsPast, StandsAt, StartsShowPasts, step_events, StepsAreTold, StepsShowPasts}
use Rattle.sim_session_laws.proofs.{Basics.all_right, Fitting.{released_are_final, turns_are_released, unbent_are_kept}}
use Rattle.std.proofs.{Common.{inr, ◌⊎◌}, lemmas.{Bool.and_from, List.Elements.All-head}}

-- ---- the commands of released turns stay

same_turns : (f g : ℕ → List PlayerCommand) (n : ℕ) → ((t : ℕ) → t ≤ n → f t ≡ g t) → kept_turns f n ≡ kept_turns g n
same_turns f g zero same = refl
same_turns f g (suc n) same =
    let last : f (suc n) ≡ g (suc n) = same (suc n) (omega arith) in
    let rest : kept_turns f n ≡ kept_turns g n = same_turns f g n (λ t within. same t (omega (arith, within))) in
    cc

final_turns : (setup : Setup) (active : ℕ) (before rest all : List Step) (n : ℕ) → active ≤ setup.players → before ++ rest ≡ all
    → n ≤ (session setup active before).server.released
    → kept_turns (session setup active before).server.kept n ≡ kept_turns (session setup active all).server.kept n
final_turns setup active before rest all n few whole released =
    subst (λ (steps : List Step). kept_turns (session setup active before).server.kept n ≡ kept_turns (session setup active steps).server.kept n) whole
    (same_turns (session setup active before).server.kept (session setup active (before ++ rest)).server.kept n
    (λ t within. sym (released_are_final setup active before rest t few (omega (arith, within, released)))))

-- ---- a client that is on after some of the steps

stands : (setup : Setup) (list : StepList) (before rest : List Step) (c t : ℕ) (g : List ℕ) → list.clients ≤ setup.players → before ++ rest ≡ list.steps
    → IsAt setup (session_at setup list before) c t g → StandsAt setup list before c t g
stands setup list before rest c t g few whole (seat, on, turns, state) =
    let s = session_at setup list before in
    let holds = holds_session setup list.clients before few in
    let released = turns_are_released setup s holds c seat on in
    let within : turns_in seat.past ≤ s.server.released = omega (arith, released.0, released.1) in
    let kept = unbent_are_kept setup s holds seat.past (inl (c, seat, on, refl)) in
    record {
      seat = seat;
      on = on;
      turns = turns;
      state = state;
      unbent = λ unbent. kept unbent ∙ ap (kept_turns s.server.kept) (sym turns);
      final = λ unbent.
          kept unbent
          ∙ final_turns setup list.clients before rest list.steps (turns_in seat.past) few whole within
          ∙ ap (kept_turns (session_of setup list).server.kept) (sym turns);
    }

shows : (setup : Setup) (list : StepList) (before rest : List Step) (e : Event) → list.clients ≤ setup.players → before ++ rest ≡ list.steps
    → IsShown setup (session_at setup list before) e → ShowsPast setup list before e
shows setup list before rest (event.Start c g) few whole at = stands setup list before rest c 0 g few whole at
shows setup list before rest (event.Order c t) few whole at = tt
shows setup list before rest (event.Play c t g) few whole at = stands setup list before rest c t g few whole at
shows setup list before rest (event.Join c) few whole at = tt
shows setup list before rest (event.Load c t g) few whole at = stands setup list before rest c t g few whole at
shows setup list before rest (event.Refused c code) few whole at = tt
shows setup list before rest (event.Cut c) few whole at = tt
shows setup list before rest (event.Bend c t g) few whole at = stands setup list before rest c t g few whole at
shows setup list before rest (event.Notice t c) few whole at = tt

-- ---- the start, and each step

pub starts_show_pasts : StartsShowPasts
starts_show_pasts setup list c is low high =
    let r = min setup.turns setup.delay in
    let active : is_active list.clients c ≡ true = and_from _ _ (lt-ltb 0 c low) (le-leb c list.clients high) in
    let on : (opened setup list.clients).client c ≡ On (begun r r []) = cond-true _ _ _ active in
    stands setup list [] list.steps c 0 (digest setup (after setup [])) is.clients.1 refl (begun r r [], on, refl, refl)

pub steps_show_pasts : StepsShowPasts
steps_show_pasts setup list before x e is at has =
    let whole : (before ++ x ∷ []) ++ at.rest ≡ list.steps = append_assoc before (x ∷ []) at.rest ∙ at.steps in
    let one_more = session_goes_on setup list.clients before x in
    let shown = events_are_shown setup (session_at setup list before) x e has in
    shows setup list (before ++ x ∷ []) at.rest e is.clients.1 whole (subst (λ (s : Session). IsShown setup s e) (sym one_more) shown)

-- ---- all events

-- an event is of the start, or of a step of the list
abbrev ComesFrom : Setup → StepList → Event → Type 0
ComesFrom setup list e =
    Carries (start_events setup list.clients) e
    ⊎ ((before : List Step) × (x : Step) × IsStepAt list before x × Carries (step_events setup list before x) e)

comes_behind : (setup : Setup) (list : StepList) (before rest : List Step) (e : Event) → before ++ rest ≡ list.steps
    → Carries (events_after setup (session_at setup list before) rest) e → ComesFrom setup list e
comes_behind setup list before [] e whole has = absurd has
comes_behind setup list before (x ∷ rest) e whole has =
    by (carries_either (step_events setup list before x) (events_after setup (stepped setup (session_at setup list before) x) rest) e has)
    (comes_behind setup list (before ++ x ∷ []) rest e (append_assoc before (x ∷ []) rest ∙ whole))
  where
    by : Carries (step_events setup list before x) e ⊎ Carries (events_after setup (stepped setup (session_at setup list before) x) rest) e
        → (Carries (events_after setup (session_at setup list (before ++ x ∷ [])) rest) e → ComesFrom setup list e) → ComesFrom setup list e
    by (inl now) later = inr (before, x, record { rest = rest; steps = whole }, now)
    by (inr behind) later =
        let one_more = session_goes_on setup list.clients before x in
        later (subst (λ (s : Session). Carries (events_after setup s rest) e) (sym one_more) behind)

comes_from : (setup : Setup) (list : StepList) (e : Event) → Carries (events_of setup list) e → ComesFrom setup list e
comes_from setup list e has = by (carries_either (start_events setup list.clients) (events_after setup (opened setup list.clients) list.steps) e has)
  where
    by : Carries (start_events setup list.clients) e ⊎ Carries (events_after setup (opened setup list.clients) list.steps) e → ComesFrom setup list e
    by (inl start) = inl start
    by (inr behind) = comes_behind setup list [] list.steps e refl behind

pub events_show_pasts : EventsShowPasts
events_show_pasts setup list e is has = by (comes_from setup list e has)
  where
    by : ComesFrom setup list e → (before : List Step) × (rest : List Step) × (before ++ rest ≡ list.steps) × ShowsPast setup list before e
    by (inl start) = ([], list.steps, refl, shows setup list [] list.steps e is.clients.1 refl (starts_are_shown setup list.clients e start))
    by (inr (before, x, at, now)) =
        let whole : (before ++ x ∷ []) ++ at.rest ≡ list.steps = append_assoc before (x ∷ []) at.rest ∙ at.steps in
        (before ++ x ∷ [], at.rest, whole, steps_show_pasts setup list before x e is at now)

-- ---- the end

ends_at : (setup : Setup) (s : Session) (c t : ℕ) (g : List ℕ) (phase : Phase) → s.client c ≡ phase → end_of setup phase ≡ ends.On t g → IsAt setup s c t g
ends_at setup s c t g Off is told = absurd (cc)
ends_at setup s c t g Joining is told = absurd (cc)
ends_at setup s c t g (On seat) is told =
    let turn : t ≡ turns_in seat.past = cc in
    let shown : g ≡ digest_of setup seat = cc in
    (seat, is, turn, shown)

pub ends_show_pasts : EndsShowPasts
ends_show_pasts setup list c t g is told =
    let s = session_of setup list in
    stands setup list list.steps [] c t g is.clients.1 (append-nil list.steps) (ends_at setup s c t g (s.client c) refl told)

-- ---- the events that are of a step

from_one : (players : ℕ) (x : Step) → IsStep players x → IsFrom 1 players (client_of x)
from_one players (step.Order c command) is = is.client
from_one players (step.Up c) is = is.client
from_one players (step.Down c) is = is.client
from_one players (step.Play c) is = is.client
from_one players (step.Join c) is = is.client
from_one players (step.Cut c) is = is.client
from_one players (step.Bend c id health) is = is.client

-- each step of a list is of a client of the match
is_of_client : (setup : Setup) (list : StepList) (before : List Step) (x : Step) → IsStepList setup.players list → IsStepAt list before x
    → is_client setup (client_of x) ≡ true
is_of_client setup list before x is at =
    let all : All (IsStep setup.players) (before ++ x ∷ at.rest) = subst (λ (steps : List Step). All (IsStep setup.players) steps) (sym at.steps) is.steps in
    let own = from_one setup.players x (All-head (IsStep setup.players) x at.rest (all_right (IsStep setup.players) before (x ∷ at.rest) all)) in
    and_from _ _ (lt-ltb 0 (client_of x) own.0) (le-leb (client_of x) setup.players own.1)

pub steps_are_told : StepsAreTold
steps_are_told setup list before x e is at of = steps_have_events setup (session_at setup list before) x e (is_of_client setup list before x is at) of

pub plays_are_told : PlaysAreTold
plays_are_told setup list before c is at seat can =
    let turn = suc (turns_in seat.past) in
    let shown = digest setup (after setup (Turn (seat.known turn) ∷ seat.past)) in
    steps_are_told setup list before (step.Play c) (event.Play c turn shown) is at (refl, seat, can, refl, refl)
