-- The clients that are on at the beginning, one after the other.
use Rattle.{sim_client.specs.ClientWords.digest_of, std.proofs.lemmas.List.map-append}
use Rattle.sim_session.proofs.TextCommon.{append-nil, arith, digest, Event, event_line, flat_map-append, is_active, Joining, le-leb, Life, lines_of, Lives}
use Rattle.sim_session.proofs.TextCommon.{lt-ltb, Off, On, opened, Setup, start_events, start_lines, State, subst, sym, up_to, ◌∙◌}
use Rattle.sim_session.proofs.TextCommon.{◌≡◌, ℕ, suc, ◌+◌, ◌<◌, min, Bool, true, List, [], ◌∷◌, ◌++◌, if◌then◌else◌, nat_lt, nat_le, Some, add-one, after, ap}
use Rattle.sim_base.specs.declared.step.Event.TheVariants as event
use Rattle.sim_plain_session.specs.Clients as plain

-- a client that begins is shown with the first state
shown : (setup : Setup) (life : Life) (done released : ℕ) → Lives setup life (plain.On (plain.begun done released []))
    → digest_of setup life ≡ Some (digest setup (after setup []))
shown setup Off done released lives = absurd lives
shown setup Joining done released lives = absurd lives
shown setup (On player) done released lives = ap (λ (s : State). Some (digest setup s)) lives.state

-- so is each of the first clients of a session that has just begun
pub start_shown : (setup : Setup) (active n : ℕ) (life : Life) → n < active → Lives setup life ((opened setup active).client (n + 1))
    → digest_of setup life ≡ Some (digest setup (after setup []))
start_shown setup active n life lt lives =
    let low : nat_lt 0 (n + 1) ≡ true = lt-ltb 0 (n + 1) (omega arith) in
    let high : nat_le (n + 1) active ≡ true = le-leb (n + 1) active (omega (arith, lt)) in
    let is : is_active active (n + 1) ≡ true = cc in
    let phase : plain.Phase = plain.On (plain.begun (min setup.turns setup.delay) (min setup.turns setup.delay) []) in
    shown setup life (min setup.turns setup.delay) (min setup.turns setup.delay) (subst (λ (b : Bool). Lives setup life (if b then phase else plain.Off)) is
    lives)

-- the line of one more stands behind those so far
pub starts_more : (setup : Setup) (n : ℕ) → lines_of (start_events setup (n + 1)) ≡ lines_of (start_events setup n) ++ start_lines (n + 1)
    (Some (digest setup (after setup [])))
starts_more setup n =
    let make : ℕ → Event = λ c. event.Start c (digest setup (after setup [])) in
    let next : start_events setup (suc n) ≡ start_events setup n ++ make (suc n) ∷ [] = map-append make (up_to n) (suc n ∷ []) in
    let lines = flat_map-append event_line (start_events setup n) (make (suc n) ∷ []) in
    let last = append-nil (event_line (make (suc n))) in
    let here : lines_of (start_events setup (suc n)) ≡ lines_of (start_events setup n) ++ event_line (make (suc n)) = ap lines_of next ∙ lines ∙
    ap (λ (l : List ℕ). lines_of (start_events setup n) ++ l) last in
    subst (λ (k : ℕ). lines_of (start_events setup k) ≡ lines_of (start_events setup n) ++ event_line (make k)) (sym (add-one n)) here
