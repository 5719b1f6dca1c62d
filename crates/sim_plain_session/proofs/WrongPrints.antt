-- What is printed where the protocol is wrong.
use Rattle.sim_base.specs.declared.step.Event.TheVariants as event
use Rattle.sim_base.specs.declared.step.Step.TheVariants as step
use Rattle.sim_plain.specs.declared.message.UpOf.TheVariants as up
use Rattle.sim_plain_session.proofs.Common.{Turn, u16_bytes, u32_bytes, u64_bytes, zero, ℕ, ◌%◌, ◌++◌, ◌==◌, ◌∙◌, ◌∷◌, ◌≡◌}
use Rattle.sim_plain_session.proofs.Common.{[], after, ap, arith, Arrival, at_metre, begun, Bend, block_words, bytes_eq, CanPlay, client_of, compress, digest}
use Rattle.sim_plain_session.proofs.Common.{digest_bytes, Event, events, false, first, flat_map, hash_after, Heard, i32_bytes, if◌then◌else◌, is_client}
use Rattle.sim_plain_session.proofs.Common.{is_full_turn, IsOfStep, IsShown, Joining, List, mark, md5, no_id, notices, notices_in, Off, On, Past, Phase, pos}
use Rattle.sim_plain_session.proofs.Common.{post, quick, refl, rounds, rules_of, Seat, session, Session, session_events, Setup, setup_of, Step, suc, sym, true}

-- Sessions in which a client is bent, with digests computed. A health that differs is in the whole digest alone: no quick report shows it,
-- and the first full one does.

abbrev pub guarded : Setup
guarded = record (setup_of no_id 16 (0 ∷ 0 ∷ 0 ∷ 0 ∷ []) 3 0 (post ∷ []) (first 0 1 (at_metre 2) ∷ [])) { delay = 2; turns = 3 }

-- the health of the post is bent to 1
abbrev bend : Past
bend = Bend 2 (pos 65536) ∷ []

-- the digests at turn 0 and 1, with and without the bend
abbrev pub begin : List ℕ
begin = digest guarded (after guarded [])

abbrev pub begin_bent : List ℕ
begin_bent = digest guarded (after guarded bend)

abbrev pub one : List ℕ
one = digest guarded (after guarded (Turn [] ∷ []))

abbrev pub one_bent : List ℕ
one_bent = digest guarded (after guarded (Turn [] ∷ bend))

pub they_differ : bytes_eq one one_bent ≡ false
unfolding digest u16_bytes u32_bytes u64_bytes i32_bytes block_words rounds compress hash_after digest_bytes md5
they_differ = refl

-- what both report of turn 1 is the same
marks_agree : mark guarded (after guarded (Turn [] ∷ [])) ≡ mark guarded (after guarded (Turn [] ∷ bend))
unfolding quick
marks_agree = refl

-- ---- a client is bent, and another one loads from it

abbrev bending : List Step
bending =
    step.Bend 1 2 (pos 65536) ∷ step.Join 3 ∷ step.Up 3 ∷ step.Down 1 ∷ step.Up 1 ∷ step.Down 3 ∷ step.Down 3
    ∷ step.Play 2 ∷ step.Up 2 ∷ step.Play 1 ∷ step.Up 1 ∷ step.Play 3 ∷ step.Up 3 ∷ []

bending_events : session_events guarded 2 bending
    ≡ event.Start 1 begin ∷ event.Start 2 begin ∷ event.Bend 1 0 begin_bent ∷ event.Join 3 ∷ event.Load 3 0 begin_bent
    ∷ event.Play 2 1 one ∷ event.Play 1 1 one_bent ∷ event.Play 3 1 one_bent ∷ []
unfolding digest quick u16_bytes u32_bytes u64_bytes i32_bytes block_words rounds compress hash_after digest_bytes md5
bending_events = refl

bending_ups : (session guarded 2 bending).ups 3 ≡ up.Done 3 ∷ []
unfolding digest quick u16_bytes u32_bytes u64_bytes i32_bytes block_words rounds compress hash_after digest_bytes md5
bending_ups = refl

bending_downs : (session guarded 2 bending).downs 1 ≡ []
unfolding digest quick u16_bytes u32_bytes u64_bytes i32_bytes block_words rounds compress hash_after digest_bytes md5
bending_downs = refl

bending_released : (session guarded 2 bending).server.released ≡ 2
bending_released = refl

-- ---- turn 20 is full, and those beside it are not

before_twenty : is_full_turn 19 ≡ false
before_twenty = refl

at_twenty : is_full_turn 20 ≡ true
at_twenty = refl

behind_twenty : is_full_turn 21 ≡ false
behind_twenty = refl

-- ---- a bend that moves nothing is seen at the first full turn

abbrev watched : Setup
watched = record (setup_of no_id 16 (0 ∷ 0 ∷ 0 ∷ []) 2 0 (post ∷ []) (first 0 1 (at_metre 2) ∷ [])) { delay = 1; turns = 20 }

-- both clients play a turn, and the server hears all that they say and tells what is released
abbrev round : List Step
round =
    step.Play 1 ∷ step.Play 2 ∷ step.Up 1 ∷ step.Up 1 ∷ step.Up 2 ∷ step.Up 2 ∷ step.Down 1 ∷ step.Down 2 ∷ []

abbrev after_rounds : ℕ → List Step
after_rounds zero = []
after_rounds (suc n) = round ++ after_rounds n

hidden_until_full : notices_in (session_events watched 2 (step.Bend 1 2 (pos 65536) ∷ after_rounds 20)) ≡ (20, 2) ∷ []
unfolding digest quick u16_bytes u32_bytes u64_bytes i32_bytes block_words rounds compress hash_after digest_bytes md5
hidden_until_full = refl

-- ---- a server that compares a report with the one before it, in place of the first of its turn

abbrev by_the_last : List ℕ → List (ℕ × List ℕ) → List ℕ
by_the_last last [] = []
by_the_last last (r ∷ rs) = if bytes_eq last r.1 then by_the_last r.1 rs else r.0 ∷ by_the_last r.1 rs

-- client 2 reports first, and both others report another digest
abbrev one_wrong : List (Arrival Past)
one_wrong = Heard 3 (up.Report 1 (8 ∷ [])) ∷ Heard 1 (up.Report 1 (8 ∷ [])) ∷ Heard 2 (up.Report 1 (7 ∷ [])) ∷ []

-- both are told of, and not the one alone that came first
both_are_noticed : notices (rules_of guarded) 3 one_wrong ≡ (1, 1) ∷ (1, 3) ∷ []
both_are_noticed = refl

the_last_misses_one : by_the_last (7 ∷ []) ((1, 8 ∷ []) ∷ (3, 8 ∷ []) ∷ []) ≡ 1 ∷ []
the_last_misses_one = refl

-- ---- a client that prints the digest of the state before the turn

abbrev once : Session
once = session guarded 2 (step.Play 1 ∷ [])

begin_is_not_one : bytes_eq begin one ≡ false
unfolding digest u16_bytes u32_bytes u64_bytes i32_bytes block_words rounds compress hash_after digest_bytes md5
begin_is_not_one = refl

one_is_one : bytes_eq one one ≡ true
unfolding digest u16_bytes u32_bytes u64_bytes i32_bytes block_words rounds compress hash_after digest_bytes md5
one_is_one = refl

past_of : Phase → Past
past_of Off = []
past_of Joining = []
past_of (On seat) = seat.past

late_is_not_shown : IsShown guarded once (event.Play 1 1 begin) → ⊥
unfolding past_of
late_is_not_shown shown =
    let past : Turn [] ∷ [] ≡ shown.0.past = ap past_of shown.1 in
    let same : begin ≡ one = shown.3 ∙ ap (λ (p : Past). digest guarded (after guarded p)) (sym past) in
    let alike : bytes_eq begin one ≡ true = ap (λ (g : List ℕ). bytes_eq g one) same ∙ one_is_one in
    let other = begin_is_not_one in
    cc

-- ---- a client that prints the digest of the state before the bend

abbrev seat_of : Phase → Seat
seat_of Off = begun 0 0 []
seat_of Joining = begun 0 0 []
seat_of (On seat) = seat

begin_is_not_bent : bytes_eq begin begin_bent ≡ false
unfolding digest u16_bytes u32_bytes u64_bytes i32_bytes block_words rounds compress hash_after digest_bytes md5
begin_is_not_bent = refl

begin_is_begin : bytes_eq begin begin ≡ true
unfolding digest u16_bytes u32_bytes u64_bytes i32_bytes block_words rounds compress hash_after digest_bytes md5
begin_is_begin = refl

-- two digests that differ in a byte are not the same
apart : (g h : List ℕ) → bytes_eq g g ≡ true → bytes_eq g h ≡ false → g ≡ h → ⊥
apart g h own other same =
    let alike : bytes_eq g h ≡ true = ap (bytes_eq g) (sym same) ∙ own in
    cc

late_bend_is_of_no_step : IsOfStep guarded (session guarded 2 []) (step.Bend 1 2 (pos 65536)) (event.Bend 1 0 begin) → ⊥
late_bend_is_of_no_step (same, seat, can, turn, shown) =
    let past : [] ≡ seat.past = ap (λ (ph : Phase). (seat_of ph).past) can.on in
    let bent : begin ≡ begin_bent = shown ∙ ap (λ (p : Past). digest guarded (after guarded (Bend 2 (pos 65536) ∷ p))) (sym past) in
    apart begin begin_bent begin_is_begin begin_is_not_bent bent

-- ---- a client that prints of its second life what it has printed of the first

-- client 1 is bent and plays, is cut, loads from client 2, and hears what is released
abbrev twice : Session
twice =
    session guarded 2
    (step.Bend 1 2 (pos 65536) ∷ step.Play 1 ∷ step.Cut 1 ∷ step.Join 1 ∷ step.Up 1 ∷ step.Down 2 ∷ step.Up 2 ∷ step.Down 1 ∷ step.Down 1 ∷ [])

twice_plays_anew : events guarded twice (step.Play 1) ≡ event.Play 1 1 one ∷ []
unfolding digest quick u16_bytes u32_bytes u64_bytes i32_bytes block_words rounds compress hash_after digest_bytes md5
twice_plays_anew = refl

first_life_is_of_no_step : IsOfStep guarded twice (step.Play 1) (event.Play 1 1 one_bent) → ⊥
first_life_is_of_no_step (same, seat, can, turn, shown) =
    let own : seat_of (twice.client 1) ≡ seat = ap seat_of can.on in
    let anew : one ≡ one_bent = ap (λ (o : Seat). digest guarded (after guarded (Turn (o.known 1) ∷ o.past))) own ∙ sym shown in
    apart one one_bent one_is_one they_differ anew

-- ---- a session that prints nothing of each second turn

-- what is left of an event
abbrev of_odd_turns : Event → List Event
of_odd_turns (event.Play c t g) = if t % 2 == 0 then [] else event.Play c t g ∷ []
of_odd_turns e = e ∷ []

-- each step that an event is of has just that event, as this prints it
abbrev Tells : (Setup → Session → Step → List Event) → Type 0
Tells printed = (setup : Setup) (s : Session) (x : Step) (e : Event) → is_client setup (client_of x) ≡ true → IsOfStep setup s x e → printed setup s x ≡ e ∷ []

half_is_not_told : Tells (λ setup s x. flat_map of_odd_turns (events setup s x)) → ⊥
half_is_not_told tells =
    let seat = seat_of (once.client 1) in
    let can : CanPlay guarded once 1 seat = record { on = refl; turn = omega arith; released = omega arith } in
    let second : Event = event.Play 1 2 (digest guarded (after guarded (Turn (seat.known 2) ∷ seat.past))) in
    let told : [] ≡ second ∷ [] = tells guarded once (step.Play 1) second refl (refl, seat, can, refl, refl) in
    cc
