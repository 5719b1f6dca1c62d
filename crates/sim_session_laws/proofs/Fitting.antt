-- What a client has that fits, and what each pipe has.
use Rattle.sim_plain.specs.declared.message.DownOf.TheVariants as down
use Rattle.sim_plain.specs.declared.message.UpOf.TheVariants as up
use Rattle.sim_base.specs.declared.step.Step.TheVariants as step
use Rattle.sim_plain.proofs.Final.{raised_more}
use Rattle.sim_session_laws.proofs.Basics.{Fits, good_behind, good_down, good_up, GoodDowns, GoodPast, GoodUps, Grows, grows_same, Holds, IsGoodDown, IsGoodUp}
use Rattle.sim_session_laws.proofs.{Basics.{Loads, lower, Plays, Waits}, Common.{after, after_counts_turns, after_is_valid, after_steps, after_steps-append}}
use Rattle.sim_session_laws.proofs.Common.{Always, and_parts, ap, arith, Arrival, Behind, BehindStateAreKept, Bool, CarriedAreReleased, Carries, carry_down}
use Rattle.sim_session_laws.proofs.Common.{client_of, ComingAreAboveRelease, command_fault, commands_at, count_by, crowd_fault, Cut, digest, done_fault}
use Rattle.sim_session_laws.proofs.Common.{dones_in, DonesAreCounted, DonesAreNear, DonesAreTurns, DonesGoOn, donor, Down, DownOf, entry_done, eqb-true, Fact}
use Rattle.sim_session_laws.proofs.Common.{falls, false, GoOn, Heard, heard, HeardBytesSpellAState, if◌then◌else◌, In, InHasState, inl, inr, is_by, is_client}
use Rattle.sim_session_laws.proofs.Common.{is_in, is_out, IsPast, IsSetup, Joining, keeps, kept_turns, KeptAreOfPlayers, KeptAreTurns, KnownAndComingAreKept}
use Rattle.sim_session_laws.proofs.Common.{KnownAreOfPlayers, least_done, leaves, length, List, map, nat_le, nat_lt, None, NoneBehindRelease, NoStateIsRefused}
use Rattle.sim_session_laws.proofs.Common.{Off, OffIsOut, On, OnIsIn, opened, Option, Out, OutHasWish, Past, PastsAreValid, Phase, PlayerCommand, put, raised}
use Rattle.sim_session_laws.proofs.Common.{refl, refused, ReleasedAreFinal, ReleasedAreTurns, ReleasedOnlyRise, ReleasesAreReleased, report_fault, reported}
use Rattle.sim_session_laws.proofs.Common.{rises, rules_of, Seat, seat, Server, Session, session, Setup, Some, spelled, StampsAreTurns, StateHasDone}
use Rattle.sim_session_laws.proofs.Common.{StatesHaveTurns, Status, Step, stepped, stepped_by, StrangersAreOut, subst, suc, sym, takes_state, true, turns_in}
use Rattle.sim_session_laws.proofs.Common.{TurnsAreReleased, UnbentAgree, UnbentAreKept, unless, Up, Waiting, WaitingHasDonor, with_status, ℕ, [], ◌&&◌, ◌++◌}
use Rattle.sim_session_laws.proofs.{Common.{◌+◌, ◌<◌, ◌==◌, ◌∙◌, ◌∷◌, ◌≡◌, ◌≤◌}, CutSteps.{holds_session, holds_stepped}, PlaysLemmas.keeps_final}

-- a client that is on is in, and plays
abbrev pub OnIs : Setup → Server → Status → Seat → List Up → List Down → Type 0
OnIs setup s st o ups downs = (done : ℕ) × (st ≡ In done) × Plays setup s.released s.kept done o ups downs

on_is : (setup : Setup) (s : Server) (st : Status) (ph : Phase) (o : Seat) (ups : List Up) (downs : List Down) → ph ≡ On o
    → Fits setup s st ph ups downs → OnIs setup s st o ups downs
on_is setup s st Off o ups downs e h = absurd (cc)
on_is setup s st Joining o ups downs e h = absurd (cc)
on_is setup s Out (On p) o ups downs e h = absurd h
on_is setup s (Waiting j) (On p) o ups downs e h = absurd h
on_is setup s (In done) (On p) o ups downs e h = let same : p ≡ o = cc in
    (done, refl, subst (λ (y : Seat). Plays setup s.released s.kept done y ups downs) same h)

pub good_on : (setup : Setup) (s : Session) (c : ℕ) (o : Seat) → Holds setup s → s.client c ≡ On o
    → OnIs setup s.server (s.server.status c) o (s.ups c) (s.downs c)
good_on setup s c o h e = on_is setup s.server (s.server.status c) (s.client c) o (s.ups c) (s.downs c) e (h.each c)

pub off_is : (setup : Setup) (s : Server) (st : Status) (ph : Phase) (ups : List Up) (downs : List Down) → ph ≡ Off → Fits setup s st ph ups downs
    → (ups ≡ []) × (downs ≡ []) × (st ≡ Out)
off_is setup s Out Off ups downs e h = (h.no_ups, h.no_downs, refl)
off_is setup s (Waiting j) Off ups downs e h = absurd h
off_is setup s (In done) Off ups downs e h = absurd h
off_is setup s st Joining ups downs e h = absurd (cc)
off_is setup s st (On o) ups downs e h = absurd (cc)

-- a client fits at the phase and the status that it has
pub fits_at : (setup : Setup) (s : Session) (c : ℕ) (ph : Phase) (st : Status) → Holds setup s → s.client c ≡ ph → s.server.status c ≡ st
    → Fits setup s.server st ph (s.ups c) (s.downs c)
fits_at setup s c ph st h is_ph is_st = subst (λ (x : Status × Phase). Fits setup s.server x.0 x.1 (s.ups c) (s.downs c)) (λ i. (is_st i, is_ph i)) (h.each c)

-- What is so of each pipe in which nothing but a wish or its refusal lies, and of each good one, is so of all.
each_up : (setup : Setup) (s : Server) (P : List Up → Type 0) → P [] → P (up.Join ∷ [])
    → ((done : ℕ) (o : Seat) (ups : List Up) → GoodUps setup s.released s.kept done o.done ups → P ups)
    → (st : Status) (ph : Phase) (ups : List Up) (downs : List Down) → Fits setup s st ph ups downs → P ups
each_up setup s P none wish good Out Off ups downs h = subst P (sym h.no_ups) none
each_up setup s P none wish good Out Joining ups downs (inl h) = subst P (sym h.0) wish
each_up setup s P none wish good Out Joining ups downs (inr h) = subst P (sym h.0) none
each_up setup s P none wish good Out (On o) ups downs h = absurd h
each_up setup s P none wish good (Waiting j) Off ups downs h = absurd h
each_up setup s P none wish good (Waiting j) Joining ups downs h = subst P (sym h.nothing.no_ups) none
each_up setup s P none wish good (Waiting j) (On o) ups downs h = absurd h
each_up setup s P none wish good (In done) Off ups downs h = absurd h
each_up setup s P none wish good (In done) Joining ups downs h = subst P (sym h.empty) none
each_up setup s P none wish good (In done) (On o) ups downs h = good done o ups h.said

each_down : (setup : Setup) (s : Server) (P : List Down → Type 0) → P [] → P (down.Refused 4 ∷ [])
    → ((low : ℕ) (downs : List Down) → low ≤ s.released → GoodDowns setup s.released s.kept low downs → P downs)
    → (st : Status) (ph : Phase) (ups : List Up) (downs : List Down) → Fits setup s st ph ups downs → P downs
each_down setup s P none refused good Out Off ups downs h = subst P (sym h.no_downs) none
each_down setup s P none refused good Out Joining ups downs (inl h) = subst P (sym h.1) none
each_down setup s P none refused good Out Joining ups downs (inr h) = subst P (sym h.1) refused
each_down setup s P none refused good Out (On o) ups downs h = absurd h
each_down setup s P none refused good (Waiting j) Off ups downs h = absurd h
each_down setup s P none refused good (Waiting j) Joining ups downs h = subst P (sym h.nothing.no_downs) none
each_down setup s P none refused good (Waiting j) (On o) ups downs h = absurd h
each_down setup s P none refused good (In done) Off ups downs h = absurd h
each_down setup s P none refused good (In done) Joining ups downs h =
    subst P (sym h.first) (good (turns_in h.carried) (down.State done h.carried ∷ h.rest) h.soon.past.turn (h.soon.past, h.soon.pipe))
each_down setup s P none refused good (In done) (On o) ups downs h = good o.released downs h.known_release h.pipe

-- ---- every message, every past

-- each message in an up pipe is good
pub each_up_is_good : (setup : Setup) (s : Session) (c : ℕ) (x : Up) → Holds setup s → Carries (s.ups c) x
    → IsGoodUp setup s.server.released s.server.kept x
each_up_is_good setup s c x h =
    each_up setup s.server (λ ups. Carries ups x → IsGoodUp setup s.server.released s.server.kept x) (λ has. absurd has) wish
    (λ done seat ups good. good_up setup s.server.released s.server.kept done seat.done ups x good) (s.server.status c) (s.client c) (s.ups c) (s.downs c)
    (h.each c)
  where
    wish : Carries (up.Join ∷ []) x → IsGoodUp setup s.server.released s.server.kept x
    wish (inl e) = subst (IsGoodUp setup s.server.released s.server.kept) e tt
    wish (inr none) = absurd none

-- and each in a down pipe
pub each_down_is_good : (setup : Setup) (s : Session) (c : ℕ) (x : Down) → Holds setup s → Carries (s.downs c) x
    → IsGoodDown setup s.server.released s.server.kept 0 x
each_down_is_good setup s c x h =
    each_down setup s.server (λ downs. Carries downs x → IsGoodDown setup s.server.released s.server.kept 0 x) (λ has. absurd has) wish
    (λ low downs le good has. from_zero low (good_down setup s.server.released s.server.kept low downs x good has)) (s.server.status c) (s.client c) (s.ups c)
    (s.downs c) (h.each c)
  where
    wish : Carries (down.Refused 4 ∷ []) x → IsGoodDown setup s.server.released s.server.kept 0 x
    wish (inl e) = subst (IsGoodDown setup s.server.released s.server.kept 0) e tt
    wish (inr none) = absurd none

    from_zero : (low : ℕ) → IsGoodDown setup s.server.released s.server.kept low x → IsGoodDown setup s.server.released s.server.kept 0 x
    from_zero low good = lower setup s.server.released s.server.kept 0 low x (subst (λ n. IsGoodDown setup s.server.released s.server.kept n x) (omega arith)
        good)

-- a message behind a release is good behind it
pub each_behind_is_good : (setup : Setup) (s : Session) (c t : ℕ) (rest : List Down) (x : Down) → Holds setup s
    → Behind (s.downs c) (down.Release t) rest → Carries rest x → IsGoodDown setup s.server.released s.server.kept t x
each_behind_is_good setup s c t rest x h =
    each_down setup s.server (λ downs. Behind downs (down.Release t) rest → Carries rest x → IsGoodDown setup s.server.released s.server.kept t x)
    (λ at. absurd at) wish
    (λ low downs le good. good_behind setup s.server.released s.server.kept low downs rest t x good) (s.server.status c) (s.client c) (s.ups c) (s.downs c)
    (h.each c)
  where
    wish : Behind (down.Refused 4 ∷ []) (down.Release t) rest → Carries rest x → IsGoodDown setup s.server.released s.server.kept t x
    wish (inl e) = let f = e.0 in absurd (cc)
    wish (inr none) = absurd none

-- every past is good
pub good_pasts : (setup : Setup) (s : Session) (past : Past) → Holds setup s → IsPast s past → GoodPast setup s.server.released s.server.kept past
good_pasts setup s past h (inl x) = subst (λ (y : Past). GoodPast setup s.server.released s.server.kept y) x.3 ((good_on setup s x.0 x.1 h x.2).2.past)
good_pasts setup s past h (inr (inl x)) = (each_up_is_good setup s x.0 (up.State x.1 x.2 past) h x.3).1
good_pasts setup s past h (inr (inr x)) = each_down_is_good setup s x.0 (down.State x.1 past) h x.2

pub loads_at : (setup : Setup) (s : Session) (c done : ℕ) → Holds setup s → s.client c ≡ Joining → s.server.status c ≡ In done
    → Loads setup s.server.released s.server.kept done (s.ups c) (s.downs c)
loads_at setup s c done h e w = fits_at setup s c Joining (In done) h e w

pub plays_at : (setup : Setup) (s : Session) (c done : ℕ) (seat : Seat) → Holds setup s → s.client c ≡ On seat → s.server.status c ≡ In done
    → Plays setup s.server.released s.server.kept done seat (s.ups c) (s.downs c)
plays_at setup s c done seat h e w = fits_at setup s c (On seat) (In done) h e w

-- ---- every session

-- it holds of each session that keeps what it keeps
abbrev pub Follows : Fact → Type 0
Follows fact = (setup : Setup) (s : Session) → Holds setup s → fact setup s

-- what follows holds always
pub always : (fact : Fact) → Follows fact → Always fact
always fact follows setup active steps limits few = follows setup (session setup active steps) (holds_session setup active steps few)

-- Valid states, and who stands where.

pub known_are_of_players : Follows KnownAreOfPlayers
known_are_of_players setup s h c t seat e = (good_on setup s c seat h e).2.players t

pub off_is_out : Follows OffIsOut
off_is_out setup s h c e = off_is setup s.server (s.server.status c) (s.client c) (s.ups c) (s.downs c) e (h.each c)

pub on_is_in : Follows OnIsIn
on_is_in setup s h c seat e = ap is_in ((good_on setup s c seat h e).1)

pub out_has_wish : Follows OutHasWish
out_has_wish setup s h c e out = fits_at setup s c Joining Out h e out

pub waiting_has_donor : Follows WaitingHasDonor
waiting_has_donor setup s h c donor e w = let f : Waits s.server donor (s.ups c) (s.downs c) = fits_at setup s c Joining (Waiting donor) h e w in
    (f.nothing.no_ups, f.nothing.no_downs, f.there)

pub in_has_state : Follows InHasState
in_has_state setup s h c done e w = let f = loads_at setup s c done h e w in (f.empty, done, f.carried, f.rest, f.first)

pub strangers_are_out : Follows StrangersAreOut
strangers_are_out setup s h = h.server.clients

pub states_have_turns : Follows StatesHaveTurns
states_have_turns setup s h past is = after_counts_turns setup past

pub pasts_are_valid : (setup : Setup) (s : Session) → IsSetup setup → Holds setup s → PastsAreValid setup s
pasts_are_valid setup s limits h past is =
    let good = good_pasts setup s past h is in after_is_valid setup past limits good.players (omega (arith, good.turn, h.server.released))

pub no_state_is_refused : (setup : Setup) (s : Session) → IsSetup setup → Holds setup s → NoStateIsRefused setup s
no_state_is_refused setup s limits h c done past rest at =
    pasts_are_valid setup s limits h past (inr (inr (c, done, subst (λ (downs : List Down). Carries downs (down.State done past)) (sym at) (inl refl))))

pub pasts_are_always_valid : Always PastsAreValid
pasts_are_always_valid setup active steps limits few = pasts_are_valid setup (session setup active steps) limits (holds_session setup active steps few)

pub no_state_is_ever_refused : Always NoStateIsRefused
no_state_is_ever_refused setup active steps limits few = no_state_is_refused setup (session setup active steps) limits (holds_session setup active steps few)

-- what is heard in bytes is what is heard of a past
bytes_of_past : (setup : Setup) (downs : List Down) (done : ℕ) (bytes : List ℕ) (rest : List (DownOf (List ℕ)))
    → map (carry_down (spelled setup)) downs ≡ down.State done bytes ∷ rest
    → (past : Past) × (others : List Down) × (downs ≡ down.State done past ∷ others) × (bytes ≡ spelled setup past)
bytes_of_past setup [] done bytes rest e = absurd (cc)
bytes_of_past setup (down.Ask j ∷ downs) done bytes rest e = absurd (cc)
bytes_of_past setup (down.State d past ∷ downs) done bytes rest e = let same : d ≡ done = cc in (past, downs, ap (λ n. down.State n past ∷ downs) same, (cc))
bytes_of_past setup (down.Command t x ∷ downs) done bytes rest e = absurd (cc)
bytes_of_past setup (down.Release t ∷ downs) done bytes rest e = absurd (cc)
bytes_of_past setup (down.Notice t j ∷ downs) done bytes rest e = absurd (cc)
bytes_of_past setup (down.Refused code ∷ downs) done bytes rest e = absurd (cc)

pub heard_bytes_spell_a_state : Always HeardBytesSpellAState
heard_bytes_spell_a_state setup active steps limits few c done bytes rest at =
    let s = session setup active steps in
    let (past, others, first, spells) = bytes_of_past setup (s.downs c) done bytes rest at in
    (after setup past, no_state_is_ever_refused setup active steps limits few c done past others first, spells)

-- Which commands clients know, and what their pasts are.

loads_of : (setup : Setup) (s : Server) (st : Status) (ph : Phase) (ups : List Up) (downs rest : List Down) (done t : ℕ) (past : Past) → ph ≡ Joining
    → downs ≡ down.State done past ∷ rest → turns_in past < t → Fits setup s st ph ups downs → commands_at t rest ≡ s.kept t
loads_of setup s st Off ups downs rest done t past e at above h = absurd (cc)
loads_of setup s st (On o) ups downs rest done t past e at above h = absurd (cc)
loads_of setup s Out Joining ups downs rest done t past e at above (inl h) = let f = h.1 in absurd (cc)
loads_of setup s Out Joining ups downs rest done t past e at above (inr h) = let f = h.1 in absurd (cc)
loads_of setup s (Waiting j) Joining ups downs rest done t past e at above h = let f = h.nothing.no_downs in absurd (cc)
loads_of setup s (In d) Joining ups downs rest done t past e at above h =
    let f = h.first in
    let same : past ≡ h.carried = cc in
    let tail : rest ≡ h.rest = cc in
    ap (commands_at t) tail ∙ h.soon.commands t (subst (λ (y : Past). turns_in y < t) same above)

pub known_and_coming_are_kept : Follows KnownAndComingAreKept
known_and_coming_are_kept setup s h c t seat e above = (good_on setup s c seat h e).2.commands t above

pub coming_are_above_release : Follows ComingAreAboveRelease
coming_are_above_release setup s h c t x seat e has =
    good_down setup s.server.released s.server.kept seat.released (s.downs c) (down.Command t x) (good_on setup s c seat h e).2.pipe has

pub none_behind_release : Follows NoneBehindRelease
none_behind_release setup s h c r t x rest at has = each_behind_is_good setup s c r rest (down.Command t x) h at has

pub behind_state_are_kept : Follows BehindStateAreKept
behind_state_are_kept setup s h c done t past rest e at above =
    loads_of setup s.server (s.server.status c) (s.client c) (s.ups c) (s.downs c) rest done t past e at above (h.each c)

pub unbent_are_kept : Follows UnbentAreKept
unbent_are_kept setup s h past is = (good_pasts setup s past h is).unbent

pub unbent_agree : Follows UnbentAgree
unbent_agree setup s h c d a b on_a on_b unbent_a unbent_b same =
    let pasts : a.past ≡ b.past =
    unbent_are_kept setup s h a.past (inl (c, a, on_a, refl)) unbent_a ∙ ap (kept_turns s.server.kept) same ∙
    sym (unbent_are_kept setup s h b.past (inl (d, b, on_b, refl)) unbent_b) in
    (ap (after setup) pasts, ap (λ (past : Past). digest setup (after setup past)) pasts)

pub kept_are_of_players : Follows KeptAreOfPlayers
kept_are_of_players setup s h = h.server.players

pub kept_are_turns : Follows KeptAreTurns
kept_are_turns setup s h = h.server.inside

-- How far clients may be ahead, and what is released.

count_dones : (setup : Setup) (r : ℕ) (k : ℕ → List PlayerCommand) (from own : ℕ) (ups : List Up) → GoodUps setup r k from own ups
    → own ≡ from + length (dones_in ups)
count_dones setup r k from own [] h = sym h ∙ (omega arith)
count_dones setup r k from own (up.Join ∷ ups) h = count_dones setup r k from own ups h
count_dones setup r k from own (up.Command t x ∷ ups) h = count_dones setup r k from own ups h
count_dones setup r k from own (up.Done t ∷ ups) h = let rest = count_dones setup r k t own ups h.3 in let next = h.0 in omega arith
count_dones setup r k from own (up.Report t g ∷ ups) h = count_dones setup r k from own ups h
count_dones setup r k from own (up.State j t past ∷ ups) h = count_dones setup r k from own ups h.2

go_on : (setup : Setup) (r : ℕ) (k : ℕ → List PlayerCommand) (from own : ℕ) (ups : List Up) → GoodUps setup r k from own ups
    → GoOn from (dones_in ups)
go_on setup r k from own [] h = tt
go_on setup r k from own (up.Join ∷ ups) h = go_on setup r k from own ups h
go_on setup r k from own (up.Command t x ∷ ups) h = go_on setup r k from own ups h
go_on setup r k from own (up.Done t ∷ ups) h = (h.0, go_on setup r k t own ups h.3)
go_on setup r k from own (up.Report t g ∷ ups) h = go_on setup r k from own ups h
go_on setup r k from own (up.State j t past ∷ ups) h = go_on setup r k from own ups h.2

dones_of : (setup : Setup) (s : Server) (done : ℕ) (ph : Phase) (ups : List Up) (downs : List Down) → Fits setup s (In done) ph ups downs
    → (s.released ≤ done) × (done ≤ setup.turns)
dones_of setup s done Off ups downs h = absurd h
dones_of setup s done Joining ups downs h = (h.soon.low, h.soon.high)
dones_of setup s done (On o) ups downs h = (h.low, h.high)

state_done : (setup : Setup) (s : Server) (ups : List Up) (downs rest : List Down) (done first : ℕ) (past : Past)
    → downs ≡ down.State first past ∷ rest → Loads setup s.released s.kept done ups downs → first ≡ done
state_done setup s ups downs rest done first past at h = let f = h.first in cc

pub released_are_turns : Follows ReleasedAreTurns
released_are_turns setup s h = h.server.released

pub dones_are_turns : Follows DonesAreTurns
dones_are_turns setup s h c done e = dones_of setup s.server done (s.client c) (s.ups c) (s.downs c) (fits_at setup s c (s.client c) (In done) h refl e)

pub dones_are_counted : Follows DonesAreCounted
dones_are_counted setup s h c done seat on e = count_dones setup s.server.released s.server.kept done seat.done (s.ups c)
    (plays_at setup s c done seat h on e).said

pub dones_go_on : Follows DonesGoOn
dones_go_on setup s h c done seat on e = go_on setup s.server.released s.server.kept done seat.done (s.ups c) (plays_at setup s c done seat h on e).said

pub dones_are_near : Follows DonesAreNear
dones_are_near setup s h c t has = each_up_is_good setup s c (up.Done t) h has

pub state_has_done : Follows StateHasDone
state_has_done setup s h c done first past rest e w at = state_done setup s.server (s.ups c) (s.downs c) rest done first past at (loads_at setup s c done h e w)

pub releases_are_released : Follows ReleasesAreReleased
releases_are_released setup s h c r has = each_down_is_good setup s c (down.Release r) h has

pub turns_are_released : Follows TurnsAreReleased
turns_are_released setup s h c seat e = let on = good_on setup s c seat h e in (on.2.behind, on.2.known_release)

pub carried_are_released : Follows CarriedAreReleased
carried_are_released setup s h past is = (good_pasts setup s past h (inr is)).turn

pub stamps_are_turns : Follows StampsAreTurns
stamps_are_turns setup s h c j t past has = (each_up_is_good setup s c (up.State j t past) h has).0

-- What is released is final.

-- an accepted command is of a turn that is not released, where no client that is in is done with less than that
command_above : (setup : Setup) (released : ℕ) (kept : List PlayerCommand) (c t : ℕ) (st : Status) → ((done : ℕ) → st ≡ In done → released ≤ done)
    → command_fault (rules_of setup) kept c t st ≡ None → released < t
command_above setup released kept c t Out low f = absurd (cc)
command_above setup released kept c t (Waiting j) low f = absurd (cc)
command_above setup released kept c t (In n) low f = test (t == suc n && nat_le t setup.turns) refl f
  where
    test : (b : Bool) → (t == suc n && nat_le t setup.turns) ≡ b
        → (let o : Option ℕ = (if b then crowd_fault (nat_lt (count_by (is_by c) kept) 64) else Some 2) in o ≡ None) → released < t
    test true k g = let next : t ≡ suc n = eqb-true t (suc n) ((and_parts _ _ k).0) in let a = low n refl in omega arith
    test false k g = absurd (cc)

-- what a server keeps of released turns stays
abbrev pub Grown : Server → Server → Type 0
Grown s s' = Grows s.released s.kept s'.released s'.kept

pub heard_grows : (setup : Setup) (s : Server) (a : Arrival Past) → ((c done : ℕ) → s.status c ≡ In done → s.released ≤ done)
    → Grown s (heard (rules_of setup) s a)
heard_grows setup s (Heard c up.Join) low = by (is_out (s.status c))
  where
    by : (b : Bool) → Grown s (if b then with_status c (seat (donor (rules_of setup) s)) s else s)
    by true = grows_same s.released s.kept
    by false = grows_same s.released s.kept
heard_grows setup s (Heard c (up.Command t x)) low = by (command_fault (rules_of setup) (s.kept t) c t (s.status c)) refl
  where
    item : PlayerCommand
    item = record { player = c; command = x }

    by : (fault : Option ℕ) → command_fault (rules_of setup) (s.kept t) c t (s.status c) ≡ fault → Grown s (unless fault (keeps t item s) s)
    by None f = keeps_final s.released s.kept t item (command_above setup s.released (s.kept t) c t (s.status c) (low c) f)
    by (Some code) f = grows_same s.released s.kept
heard_grows setup s (Heard c (up.Done t)) low = by (done_fault (rules_of setup) s.released t (s.status c))
  where
    by : (fault : Option ℕ) → Grown s (unless fault (raised (rules_of setup) (with_status c (In t) s)) s)
    by None = record { more = raised_more s.released (least_done (put c (In t) s.status) setup.players); final = λ u h. refl }
    by (Some code) = grows_same s.released s.kept
heard_grows setup s (Heard c (up.Report t g)) low = by (report_fault s.released t (s.status c))
  where
    by : (fault : Option ℕ) → Grown s (unless fault (reported t g s) s)
    by None = grows_same s.released s.kept
    by (Some code) = grows_same s.released s.kept
heard_grows setup s (Heard c (up.State j t past)) low = by (takes_state s.released c t (s.status j))
  where
    by : (b : Bool) → Grown s (if b then with_status j (In (entry_done (rules_of setup) s.released t)) s else s)
    by true = grows_same s.released s.kept
    by false = grows_same s.released s.kept
heard_grows setup s (Cut c) low = record { more = raised_more s.released (least_done (put c Out s.status) setup.players); final = λ u h. refl }

rises_grow : (setup : Setup) (c : ℕ) (ups : List Up) (s : Session) → ((d done : ℕ) → s.server.status d ≡ In done → s.server.released ≤ done)
    → Grown s.server (rises setup c ups s).server
rises_grow setup c [] s low = grows_same s.server.released s.server.kept
rises_grow setup c (x ∷ rest) s low = heard_grows setup s.server (Heard c x) low

falls_grow : (setup : Setup) (c : ℕ) (downs : List Down) (s : Session) → Grown s.server (falls setup c downs s).server
falls_grow setup c [] s = grows_same s.server.released s.server.kept
falls_grow setup c (x ∷ rest) s = grows_same s.server.released s.server.kept

leaves_grow : (setup : Setup) (c : ℕ) (phase : Phase) (s : Session) → ((d done : ℕ) → s.server.status d ≡ In done → s.server.released ≤ done)
    → Grown s.server (leaves setup c phase s).server
leaves_grow setup c Off s low = grows_same s.server.released s.server.kept
leaves_grow setup c Joining s low = heard_grows setup s.server (Cut c) low
leaves_grow setup c (On o) s low = heard_grows setup s.server (Cut c) low

stepped_by_grows : (setup : Setup) (s : Session) (x : Step) → ((d done : ℕ) → s.server.status d ≡ In done → s.server.released ≤ done)
    → Grown s.server (stepped_by setup s x).server
stepped_by_grows setup s (step.Order c x) low = grows_same s.server.released s.server.kept
stepped_by_grows setup s (step.Up c) low = rises_grow setup c (s.ups c) s low
stepped_by_grows setup s (step.Down c) low = falls_grow setup c (s.downs c) s
stepped_by_grows setup s (step.Play c) low = grows_same s.server.released s.server.kept
stepped_by_grows setup s (step.Join c) low = grows_same s.server.released s.server.kept
stepped_by_grows setup s (step.Cut c) low = leaves_grow setup c (s.client c) s low
stepped_by_grows setup s (step.Bend c e g) low = grows_same s.server.released s.server.kept

stepped_grows : (setup : Setup) (s : Session) (x : Step) → Holds setup s → Grown s.server (stepped setup s x).server
stepped_grows setup s x h = by (is_client setup (client_of x))
  where
    by : (b : Bool) → Grown s.server (if b then stepped_by setup s x else s).server
    by true = stepped_by_grows setup s x (λ d done e. (dones_are_turns setup s h d done e).0)
    by false = grows_same s.server.released s.server.kept

grown_then : (a b c : Server) → Grown a b → Grown b c → Grown a c
grown_then a b c g h =
    record {
      more = (let x = g.more in let y = h.more in omega arith);
      final = λ t le. h.final t (let x = g.more in omega arith) ∙ g.final t le;
    }

after_grows : (setup : Setup) (s : Session) (xs : List Step) → Holds setup s → Grown s.server (after_steps setup s xs).server
after_grows setup s [] h = same
  where
    same : Grown s.server s.server
    same = grows_same s.server.released s.server.kept
after_grows setup s (x ∷ xs) h =
    grown_then s.server (stepped setup s x).server (after_steps setup (stepped setup s x) xs).server (stepped_grows setup s x h)
    (after_grows setup (stepped setup s x) xs (holds_stepped setup s x h))

session_grows : (setup : Setup) (active : ℕ) (steps more : List Step) → active ≤ setup.players
    → Grown (session setup active steps).server (session setup active (steps ++ more)).server
session_grows setup active steps more few =
    subst (λ (s : Session). Grown (session setup active steps).server s.server) (sym (after_steps-append setup (opened setup active) steps more))
    (after_grows setup (session setup active steps) more (holds_session setup active steps few))

pub released_are_final : ReleasedAreFinal
released_are_final setup active steps more t few le = (session_grows setup active steps more few).final t le

pub released_only_rise : ReleasedOnlyRise
released_only_rise setup active steps more few = (session_grows setup active steps more few).more
