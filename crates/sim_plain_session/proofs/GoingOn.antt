-- Steps behind other steps.
use Rattle.sim_plain_session.proofs.Common.{SessionGoesOn, Setup, start_events, Step, stepped, sym, take-append_seam, ◌∙◌}
use Rattle.sim_plain_session.proofs.Common.{enumerate_from, Event, events, events_after, EventsAreInOrder, EventsGoOn, length-append, opened, Session, session}
use Rattle.sim_plain_session.proofs.Common.{◌≡◌, ℕ, ◌+◌, List, [], ◌∷◌, ◌++◌, length, take, flat_map, refl, after_steps, ap, append-nil, append_assoc}

pub after_steps-append : (setup : Setup) (s : Session) (xs ys : List Step)
    → after_steps setup s (xs ++ ys) ≡ after_steps setup (after_steps setup s xs) ys
after_steps-append setup s [] ys = refl
after_steps-append setup s (x ∷ xs) ys = after_steps-append setup (stepped setup s x) xs ys

pub session_goes_on : SessionGoesOn
session_goes_on setup active steps x = after_steps-append setup (opened setup active) steps (x ∷ [])

events_after-append : (setup : Setup) (s : Session) (xs ys : List Step)
    → events_after setup s (xs ++ ys) ≡ events_after setup s xs ++ events_after setup (after_steps setup s xs) ys
events_after-append setup s [] ys = refl
events_after-append setup s (x ∷ xs) ys =
    ap (λ l. events setup s x ++ l) (events_after-append setup (stepped setup s x) xs ys)
    ∙ sym (append_assoc (events setup s x) (events_after setup (stepped setup s x) xs) (events_after setup (after_steps setup (stepped setup s x) xs) ys))

pub events_go_on : EventsGoOn
events_go_on setup active steps x =
    ap (λ l. start_events setup active ++ l)
    (events_after-append setup (opened setup active) steps (x ∷ []) ∙ ap (λ l. events_after setup (opened setup active) steps ++ l)
    (append-nil (events setup (session setup active steps) x)))
    ∙ sym (append_assoc (start_events setup active) (events_after setup (opened setup active) steps) (events setup (session setup active steps) x))

-- ---- the events of the steps, each after the steps before it

abbrev event_of : Setup → ℕ → List Step → ℕ × Step → List Event
event_of setup active steps numbered = events setup (session setup active (take numbered.0 steps)) numbered.1

in_order : (setup : Setup) (active : ℕ) (before rest : List Step)
    → events_after setup (session setup active before) rest ≡ flat_map (event_of setup active (before ++ rest)) (enumerate_from (length before) rest)
in_order setup active before [] = refl
in_order setup active before (x ∷ rest) =
    let here : take (length before) (before ++ x ∷ rest) ≡ before = take-append_seam before (x ∷ rest) in
    let first : events setup (session setup active before) x ≡ event_of setup active (before ++ x ∷ rest) (length before, x) =
    ap (λ l. events setup (session setup active l) x) (sym here) in
    let behind : events_after setup (stepped setup (session setup active before) x) rest
    ≡ flat_map (event_of setup active ((before ++ x ∷ []) ++ rest)) (enumerate_from (length (before ++ x ∷ [])) rest) =
    ap (λ s. events_after setup s rest) (sym (session_goes_on setup active before x)) ∙ in_order setup active (before ++ x ∷ []) rest in
    let whole : (before ++ x ∷ []) ++ rest ≡ before ++ x ∷ rest = append_assoc before (x ∷ []) rest in
    let longer : length (before ++ x ∷ []) ≡ length before + 1 = length-append before (x ∷ []) in
    let moved : flat_map (event_of setup active ((before ++ x ∷ []) ++ rest)) (enumerate_from (length (before ++ x ∷ [])) rest)
    ≡ flat_map (event_of setup active (before ++ x ∷ rest)) (enumerate_from (length before + 1) rest) =
    ap (λ l. flat_map (event_of setup active l) (enumerate_from (length (before ++ x ∷ [])) rest)) whole
    ∙ ap (λ n. flat_map (event_of setup active (before ++ x ∷ rest)) (enumerate_from n rest)) longer in
    ap (λ l. l ++ events_after setup (stepped setup (session setup active before) x) rest) first
    ∙ ap (λ l. event_of setup active (before ++ x ∷ rest) (length before, x) ++ l) (behind ∙ moved)

pub events_are_in_order : EventsAreInOrder
events_are_in_order setup active steps = ap (λ l. start_events setup active ++ l) (in_order setup active [] steps)
