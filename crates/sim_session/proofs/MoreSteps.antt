-- A step behind other steps.
use Rattle.{sim_plain_session.specs.Sessions.after_steps, sim_session.proofs.TextCommon.{ap, append-nil, append_assoc, arith, Event, event_line, events}}
use Rattle.sim_session.proofs.TextCommon.{events_after, flat_map-append, get_or, length, lines_of, List, loads_in, opened, Seen, Session, session, Setup}
use Rattle.sim_session.proofs.TextCommon.{StandsFor, Step, stepped, Steps, subst, suc, sym, take, zero, ℕ, [], ◌++◌, ◌+◌, ◌<◌, ◌∙◌, ◌∷◌, ◌≡◌, ◌≤◌}
use Rattle.{sim_session.specs.Laws.is_load_of, std.{proofs.lemmas.List.{Sums.sum_by-append, take_more}, specs.Prelude.cond}}

-- its events come behind theirs
events_more : (setup : Setup) (s : Session) (xs : List Step) (x : Step) → events_after setup s (xs ++ x ∷ []) ≡ events_after setup s xs ++
    events setup (after_steps setup s xs) x
events_more setup s [] x = append-nil (events setup s x)
events_more setup s (y ∷ ys) x =
    ap (λ (l : List Event). events setup s y ++ l) (events_more setup (stepped setup s y) ys x)
    ∙ sym (append_assoc (events setup s y) (events_after setup (stepped setup s y) ys) (events setup (after_steps setup (stepped setup s y) ys) x))

-- and so do the lines
pub lines_more : (setup : Setup) (active n : ℕ) (steps : List Step) (x : Step) → n < length steps → x ≡ get_or steps n x
    → lines_of (events_after setup (opened setup active) (take (n + 1) steps))
    ≡ lines_of (events_after setup (opened setup active) (take n steps)) ++ lines_of (events setup (session setup active (take n steps)) x)
lines_more setup active n steps x lt is =
    let more : take (n + 1) steps ≡ take n steps ++ x ∷ [] = take_more steps n x lt ∙ ap (λ (y : Step). take n steps ++ y ∷ []) (sym is) in
    ap (λ (xs : List Step). lines_of (events_after setup (opened setup active) xs)) more
    ∙ ap lines_of (events_more setup (opened setup active) (take n steps) x)
    ∙ flat_map-append event_line (events_after setup (opened setup active) (take n steps)) (events setup (session setup active (take n steps)) x)

-- what stood for the session over the steps so far stands for that over one more
pub stands_more : (setup : Setup) (active n : ℕ) (steps : List Step) (x : Step) (old new : Seen) (answered : List Event) → active ≤ setup.players
    → n < length steps → x ≡ get_or steps n x
    → Steps setup old x new answered → StandsFor setup old (session setup active (take n steps))
    → StandsFor setup new (session setup active (take (n + 1) steps))
stands_more setup active n steps x old new answered few lt is made stands =
    let more : take (n + 1) steps ≡ take n steps ++ x ∷ [] = take_more steps n x lt ∙ ap (λ (y : Step). take n steps ++ y ∷ []) (sym is) in
    subst (λ (xs : List Step). StandsFor setup new (session setup active xs)) (sym more) (made.stands active (take n steps) few stands)

-- and the loads among them are added
pub loads_more : (setup : Setup) (active n : ℕ) (steps : List Step) (x : Step) (c : ℕ) → n < length steps → x ≡ get_or steps n x
    → loads_in (events_after setup (opened setup active) (take n steps)) c + loads_in (events setup (session setup active (take n steps)) x) c
    ≤ loads_in (events_after setup (opened setup active) (take (n + 1) steps)) c
loads_more setup active n steps x c lt is =
    let before : List Event = events_after setup (opened setup active) (take n steps) in
    let made : List Event = events setup (session setup active (take n steps)) x in
    let more : take (n + 1) steps ≡ take n steps ++ x ∷ [] = take_more steps n x lt ∙ ap (λ (y : Step). take n steps ++ y ∷ []) (sym is) in
    let behind : events_after setup (opened setup active) (take (n + 1) steps) ≡ before ++ made =
    ap (events_after setup (opened setup active)) more ∙ events_more setup (opened setup active) (take n steps) x in
    let sum : loads_in (before ++ made) c ≡ loads_in before c + loads_in made c = sum_by-append (λ e. cond (is_load_of c e) 1 0) before made in
    omega (arith, ap (λ (es : List Event). loads_in es c) behind, sum)

-- those behind other events are no more than all
pub loads_behind : (c : ℕ) (xs ys : List Event) → loads_in ys c ≤ loads_in (xs ++ ys) c
loads_behind c xs ys = omega (arith, sum_by-append (λ e. cond (is_load_of c e) 1 0) xs ys)

-- those of some steps are no more than those of all
loads_grow : (setup : Setup) (s : Session) (n : ℕ) (steps : List Step) (c : ℕ) → loads_in (events_after setup s (take n steps)) c ≤ loads_in
    (events_after setup s steps) c
loads_grow setup s zero steps c = omega arith
loads_grow setup s (suc n) [] c = omega arith
loads_grow setup s (suc n) (x ∷ xs) c =
    let next : Session = stepped setup s x in
    let some = sum_by-append (λ e. cond (is_load_of c e) 1 0) (events setup s x) (events_after setup next (take n xs)) in
    let all = sum_by-append (λ e. cond (is_load_of c e) 1 0) (events setup s x) (events_after setup next xs) in
    omega (arith, some, all, loads_grow setup next n xs c)

pub loads_within : (setup : Setup) (active n : ℕ) (steps : List Step) (x : Step) (c : ℕ) → n < length steps → x ≡ get_or steps n x
    → loads_in (events_after setup (opened setup active) (take n steps)) c + loads_in (events setup (session setup active (take n steps)) x) c ≤ loads_in
    (events_after setup (opened setup active) steps) c
loads_within setup active n steps x c lt is = omega (arith, loads_more setup active n steps x c lt is, loads_grow setup (opened setup active) (n + 1) steps c)
