-- Where each file that is read is good and no fault was counted, a run came to its end or there was no memory.
use Rattle.sim_codec.specs.declared.fault.StateFault.TheVariants as stored
use Rattle.{sim_base.specs.Rows.size_of, sim_codec.{proofs.Standing.no_fault, specs.Loading.StandsFor}, sim_setup.proofs.LandLimits.setup_of-id}
use Rattle.sim_territory.{proofs.{Holding.holder_by-holds, Keeping.{length-mapped, mapped_at}}, specs.{Holders.{holder, IsHolder}, Influence.influence}}
use Rattle.{sim_territory.specs.Realms.holders_in, sim_top.proofs.Common.{after, ap, Apart, apart_by, Appends, arith, Asked, asked_by, bytes_in, cases_lt}}
use Rattle.sim_top.proofs.Common.{Causes, compare_by, cond-true, Counts, difference_of, Differs, digests_after, Done, economy_in, Err, File, first_apart}
use Rattle.sim_top.proofs.Common.{HasEnded, HoldsState, IfOk, inl, inr, IsFaultless, IsFinal, IsLogged, IsOutcomeOf, IsReady, IsRealmOutcome, IsResighted}
use Rattle.sim_top.proofs.Common.{IsStored, le-ltb, length, List, Log, log_by, lt-ltb, ltb, map_at, match_in, Meets, None, NoSuchTurn, OfRealm, Ok, Option}
use Rattle.sim_top.proofs.Common.{Outcome, own_turns, Place, printed, raised, realm_of, RealmAt, refl, refusal_text, rejoin_outcome, Result, Scene, schedule_in}
use Rattle.sim_top.proofs.Common.{session_match_in, Setup, setup_by, setup_of, sight_outcome, Some, State, state_by, StateFault, Status, steps_in}
use Rattle.sim_top.proofs.Common.{store_outcome, subst, sym, TellsRealm, Territories, Then, ThenLog, ThenStored, to_check, to_compare, to_film, to_log}
use Rattle.sim_top.proofs.Common.{to_parts, to_play, to_realm, to_record, to_rejoin, to_resight, to_resume, to_serve, to_session, to_show, to_sight, to_stock}
use Rattle.sim_top.proofs.{Common.{to_store, to_try, trial_match, Turn, turn_by, Usage, WriteFault, ℕ, ◌<◌, ◌∙◌, ◌≡◌, ◌≤◌, ◌⊎◌}, Playing.turn_there}
use Rattle.sim_top.specs.declared.status.Status.TheVariants.{EconomyRefused, ListRefused, LogRefused, MatchRefused, NoFile, OutOfMemory, ReadFault}
use Rattle.sim_top.specs.{declared.status.Status.TheVariants.{SightRefused, StateRefused, TooLong}, Headline.marks_at, Outcome.match_by, Reads.HoldsLog}

-- an outcome with which a command comes to its end
abbrev Ends : Outcome → Type 0
Ends wanted = (wanted.status ≡ Done) ⊎ (wanted.status ≡ Differs)

done : (wanted other : Outcome) → other.status ≡ Done → wanted ≡ other → Ends wanted
done wanted other is same = inl (ap (λ (o : Outcome). o.status) same ∙ is)

pub after_reading : {X : Type 0} (r : Result X Outcome) (x : X) (next : X → Outcome → Type 0) (wanted : Outcome) → r ≡ Ok x → Then r next wanted → next x wanted
after_reading {X} r x next wanted is h = subst (λ (q : Result X Outcome). Then q next wanted) is h

-- ---- a state that bytes stand for is not refused

pub id_of_match : (files : List File) (game : List ℕ) (setup : Setup) → match_in files game ≡ Ok setup → length setup.id ≡ 16
unfolding match_in
id_of_match files game setup is = by (bytes_in files game) is
  where
    of_bytes : (bytes : List ℕ) (r : Result Setup _) → setup_of bytes ≡ r → setup_by r ≡ Ok setup → length setup.id ≡ 16
    of_bytes bytes (Ok other) e same = setup_of-id bytes setup (e ∙ cc)
    of_bytes bytes (Err refusal) e same = cc

    by : (r : Result (List ℕ) Outcome) → match_by r ≡ Ok setup → length setup.id ≡ 16
    by (Ok bytes) e = of_bytes bytes (setup_of bytes) refl e
    by (Err ended) e = cc

pub not_refused : (setup : Setup) (bytes : List ℕ) (state : State) (fault : StateFault) → length setup.id ≡ 16 → StandsFor setup bytes state
    → IsStored setup bytes (Err fault) → ⊥
not_refused setup bytes state stored.NotState id stands refused = no_fault setup bytes stored.NotState id refused state stands
not_refused setup bytes state stored.OtherMatch id stands refused = no_fault setup bytes stored.OtherMatch id refused state stands
not_refused setup bytes state stored.Grammar id stands refused = refused.1 state stands
not_refused setup bytes state stored.OutOfMemory id stands refused = refused

after_loading : (setup : Setup) (name bytes : List ℕ) (state : State) (next : State → Outcome → Type 0) (wanted : Outcome) → length setup.id ≡ 16
    → StandsFor setup bytes state
    → ThenStored setup name bytes next wanted → (found : State) × StandsFor setup bytes found × next found wanted
after_loading setup name bytes state next wanted id stands h = by h.found h.stored h.goes_on
  where
    by : (found : Result State StateFault) → IsStored setup bytes found → Then (state_by name found) next wanted → (s : State) × StandsFor setup bytes s
        × next s wanted
    by (Ok s) is goes_on = (s, is, goes_on)
    by (Err fault) is goes_on = absurd (not_refused setup bytes state fault id stands is)

after_state : (files : List File) (setup : Setup) (name : List ℕ) (next : State → Outcome → Type 0) (wanted : Outcome) → length setup.id ≡ 16
    → (holds : HoldsState files setup name)
    → Then (bytes_in files name) (λ bytes. ThenStored setup name bytes next) wanted → (found : State) × StandsFor setup holds.bytes found × next found wanted
after_state files setup name next wanted id holds h =
    after_loading setup name holds.bytes holds.state next wanted id holds.stands
    (after_reading (bytes_in files name) holds.bytes (λ bytes. ThenStored setup name bytes next) wanted holds.read h)

-- ---- a log is not refused

after_log : (files : List File) (setup : Setup) (name : List ℕ) (next : Log → Outcome → Type 0) (wanted : Outcome) → (holds : HoldsLog files setup name)
    → Then (bytes_in files name) (λ bytes. ThenLog setup bytes next) wanted → (found : Log) × next found wanted
after_log files setup name next wanted holds h = by (after_reading (bytes_in files name) holds.bytes (λ bytes. ThenLog setup bytes next) wanted holds.read h)
  where
    of : (found : Result Log ℕ) → IsLogged setup holds.bytes found → Then (log_by found) next wanted → (log : Log) × next log wanted
    of (Ok log) is goes_on = (log, goes_on)
    of (Err line) is goes_on = absurd (is.no_log holds.log holds.is_log holds.text)

    by : ThenLog setup holds.bytes next wanted → (log : Log) × next log wanted
    by then = of then.found then.logged then.goes_on

ends_checked : (wanted : Outcome) (last : ℕ) (apart : Option Apart) → wanted ≡ apart_by last apart → Ends wanted
ends_checked wanted last None same = inl (ap (λ (o : Outcome). o.status) same)
ends_checked wanted last (Some apart) same = inr (ap (λ (o : Outcome). o.status) same)

-- ---- the commands

ends_compared : (wanted : Outcome) (place : Option Place) → wanted ≡ compare_by place → Ends wanted
ends_compared wanted None same = inl (ap (λ (o : Outcome). o.status) same)
ends_compared wanted (Some place) same = inr (ap (λ (o : Outcome). o.status) same)

store_is_done : (setup : Setup) (turn : ℕ) (out : List ℕ) → turn ≤ setup.turns → (store_outcome setup turn out).status ≡ Done
store_is_done setup turn out within = rw (le-ltb setup.turns turn within) refl

sight_is_done : (setup : Setup) (turn : ℕ) (out : List ℕ) → turn ≤ setup.turns → (sight_outcome setup turn out).status ≡ Done
sight_is_done setup turn out within = rw (le-ltb setup.turns turn within) refl

rejoin_is_done : (setup : Setup) (turn : ℕ) → turn ≤ setup.turns → (rejoin_outcome setup turn).status ≡ Done
rejoin_is_done setup turn within = rw (le-ltb setup.turns turn within) refl

ready_ends : (files : List File) (asked : Option Asked) (wanted : Outcome) → IsReady files asked → IsOutcomeOf files asked wanted → Ends wanted
ready_ends files None wanted ready h = absurd ready
ready_ends files (Some (to_play game)) wanted ready h = done wanted _ refl (after_reading (match_in files game) ready.setup _ wanted ready.read h)
ready_ends files (Some (to_store game turn out)) wanted ready h =
    done wanted (store_outcome ready.setup turn out) (store_is_done ready.setup turn out ready.more)
    (after_reading (match_in files game) ready.setup _ wanted ready.read h)
ready_ends files (Some (to_resume game name)) wanted ready h =
    let id = id_of_match files game ready.setup ready.read in
    let found = after_state files ready.setup name _ wanted id ready.more (after_reading (match_in files game) ready.setup _ wanted ready.read h) in
    done wanted _ refl found.2
ready_ends files (Some (to_rejoin game turn)) wanted ready h =
    done wanted (rejoin_outcome ready.setup turn) (rejoin_is_done ready.setup turn ready.more)
    (after_reading (match_in files game) ready.setup _ wanted ready.read h)
ready_ends files (Some (to_session game steps)) wanted ready h =
    done wanted _ refl (after_reading (steps_in files steps ready.setup.players) ready.list _ wanted ready.listed
    (after_reading (session_match_in files game) ready.setup _ wanted ready.read h))
ready_ends files (Some (to_show game name)) wanted ready h =
    let id = id_of_match files game ready.setup ready.read in
    let found = after_state files ready.setup name _ wanted id ready.more (after_reading (match_in files game) ready.setup _ wanted ready.read h) in
    done wanted _ refl found.2
ready_ends files (Some (to_compare game left right)) wanted ready h =
    let id = id_of_match files game ready.setup ready.read in
    let first = after_state files ready.setup left _ wanted id ready.more.0 (after_reading (match_in files game) ready.setup _ wanted ready.read h) in
    let second = after_state files ready.setup right _ wanted id ready.more.1 first.2 in
    ends_compared wanted (difference_of first.0 second.0) second.2
ready_ends files (Some (to_serve name)) wanted ready h = done wanted _ refl (after_reading (schedule_in files name) ready.schedule _ wanted ready.read h)
ready_ends files (Some (to_try seed units turns)) wanted ready h =
    done wanted _ refl (after_reading (trial_match seed units turns) ready.setup _ wanted ready.read h)
ready_ends files (Some (to_stock game name)) wanted ready h =
    done wanted _ refl (after_reading (economy_in files name ready.setup) ready.more.economy _ wanted ready.more.read
    (after_reading (match_in files game) ready.setup _ wanted ready.read h))
ready_ends files (Some (to_realm game turn)) wanted ready h =
    let at_turn = after_reading (match_in files game) ready.setup (RealmAt turn) wanted ready.read h in
    let told = after_reading (turn_by ready.setup turn) turn (λ turn. IsRealmOutcome ready.setup (after ready.setup (own_turns ready.setup 0 turn))) wanted
    (turn_there ready.setup turn ready.more) at_turn in
    done wanted (printed Done told.text) refl told.printed
ready_ends files (Some (to_sight game turn out)) wanted ready h =
    done wanted (sight_outcome ready.setup turn out) (sight_is_done ready.setup turn out ready.more)
    (after_reading (match_in files game) ready.setup _ wanted ready.read h)
ready_ends files (Some (to_resight game name file)) wanted ready h =
    let id = id_of_match files game ready.setup ready.read in
    let first = after_state files ready.setup name (λ state. IsResighted ready.setup state (bytes_in files file)) wanted id ready.more.state
    (after_reading (match_in files game) ready.setup _ wanted ready.read h) in
    done wanted _ refl (after_reading (map_at ready.setup first.0 (bytes_in files file)) ready.more.explored _ wanted (ready.more.taken first.0 first.1)
    first.2)
ready_ends files (Some (to_log game out)) wanted ready h = done wanted _ refl (after_reading (match_in files game) ready.setup _ wanted ready.read h)
ready_ends files (Some (to_record game steps out)) wanted ready h =
    done wanted _ refl (after_reading (steps_in files steps ready.setup.players) ready.list _ wanted ready.listed
    (after_reading (session_match_in files game) ready.setup _ wanted ready.read h))
ready_ends files (Some (to_check game name)) wanted ready h =
    let found = after_log files ready.setup name _ wanted ready.more (after_reading (match_in files game) ready.setup _ wanted ready.read h) in
    ends_checked wanted _ (first_apart found.0.digests (digests_after ready.setup found.0.turns)) found.1
ready_ends files (Some (to_film game every)) wanted ready h = done wanted _ refl (after_reading (match_in files game) ready.setup _ wanted ready.read h)
ready_ends files (Some (to_parts game)) wanted ready h = done wanted _ refl (after_reading (match_in files game) ready.setup _ wanted ready.read h)

-- ---- the run

no_write_fault : (before now : Scene) → IsFaultless before now → Causes WriteFault before now → ⊥
no_write_fault before now faultless (inl saves) = omega (arith, faultless.saving, saves.shelf.1)
no_write_fault before now faultless (inr tells) = omega (arith, faultless.telling, tells.sink)

no_read_fault : (before now : Scene) → IsFaultless before now → Causes ReadFault before now → ⊥
no_read_fault before now faultless caused =
    let rose : now.counts.read_faults ≡ raised 1 before.counts.read_faults = ap (λ (c : Counts). c.read_faults) caused.0.1 in
    omega (arith, faultless.reading, rose)

no_end : (wanted : Outcome) (status : Status) → wanted.status ≡ status → (Done ≡ status → ⊥) → (Differs ≡ status → ⊥) → Ends wanted → ⊥
no_end wanted status is one two (inl ends) = one (sym ends ∙ is)
no_end wanted status is one two (inr ends) = two (sym ends ∙ is)

pub final : (result : Status) (words : List (List ℕ)) (files : List File) (before now : Scene) → Meets result words files before now → Causes result before now
    → IsReady files (asked_by words) → IsFaultless before now → IsFinal result
final Done words files before now h caused ready faultless = tt
final Differs words files before now h caused ready faultless = tt
final OutOfMemory words files before now h caused ready faultless = tt
final ReadFault words files before now h caused ready faultless = absurd (no_read_fault before now faultless caused)
final WriteFault words files before now h caused ready faultless = absurd (no_write_fault before now faultless caused)
final Usage words files before now (wanted, is, status, done) caused ready faultless =
    absurd (no_end wanted Usage status (λ e. cc) (λ e. cc) (ready_ends files (asked_by words) wanted ready is))
final TooLong words files before now (wanted, is, status, done) caused ready faultless =
    absurd (no_end wanted TooLong status (λ e. cc) (λ e. cc) (ready_ends files (asked_by words) wanted ready is))
final MatchRefused words files before now (wanted, is, status, done) caused ready faultless =
    absurd (no_end wanted MatchRefused status (λ e. cc) (λ e. cc) (ready_ends files (asked_by words) wanted ready is))
final StateRefused words files before now (wanted, is, status, done) caused ready faultless =
    absurd (no_end wanted StateRefused status (λ e. cc) (λ e. cc) (ready_ends files (asked_by words) wanted ready is))
final ListRefused words files before now (wanted, is, status, done) caused ready faultless =
    absurd (no_end wanted ListRefused status (λ e. cc) (λ e. cc) (ready_ends files (asked_by words) wanted ready is))
final NoSuchTurn words files before now (wanted, is, status, done) caused ready faultless =
    absurd (no_end wanted NoSuchTurn status (λ e. cc) (λ e. cc) (ready_ends files (asked_by words) wanted ready is))
final NoFile words files before now (wanted, is, status, done) caused ready faultless =
    absurd (no_end wanted NoFile status (λ e. cc) (λ e. cc) (ready_ends files (asked_by words) wanted ready is))
final SightRefused words files before now (wanted, is, status, done) caused ready faultless =
    absurd (no_end wanted SightRefused status (λ e. cc) (λ e. cc) (ready_ends files (asked_by words) wanted ready is))
final LogRefused words files before now (wanted, is, status, done) caused ready faultless =
    absurd (no_end wanted LogRefused status (λ e. cc) (λ e. cc) (ready_ends files (asked_by words) wanted ready is))
final EconomyRefused words files before now (wanted, is, status, done) caused ready faultless =
    absurd (no_end wanted EconomyRefused status (λ e. cc) (λ e. cc) (ready_ends files (asked_by words) wanted ready is))

-- What the sink was told of territories, in the words of the rules.

-- the text that tells a realm
told_so : (setup : Setup) (turn : ℕ) (told told' : Option (List ℕ)) (text : List ℕ) → TellsRealm (realm_of setup (after setup (own_turns setup 0 turn))) text
    → Appends told told' text → Territories setup turn told told'
told_so setup turn told told' text tells appends =
    let marks = marks_at setup turn in
    let size = size_of setup.land in
    record {
      holders = holders_in (realm_of setup (after setup (own_turns setup 0 turn)));
      rooted = tells.rooted;
      text = subst (Appends told told') tells.lines appends;
      full = length-mapped (holder setup marks) size;
      held = λ c on. subst (IsHolder setup.players (λ player. influence setup marks player c)) (sym (mapped_at (holder setup marks) size c 0 on))
          (holder_by-holds setup.players (λ player. influence setup marks player c));
      joined = tells.are;
    }

-- the text of an outcome with which a command came to its end
of_outcome : (files : List File) (asked : Option Asked) (wanted : Outcome) (told told' : Option (List ℕ)) → IsOutcomeOf files asked wanted
    → HasEnded wanted.status → Appends told told' wanted.text
    → OfRealm files asked (λ setup turn. Territories setup turn told told')
of_outcome files (Some (to_realm game turn)) wanted told told' is ended text = by (match_in files game) is
  where
    at_turn : (setup : Setup) → RealmAt turn setup wanted → (setup.turns < turn) ⊎ (turn ≤ setup.turns) → Territories setup turn told told'
    at_turn setup is (inl past) =
        let none : wanted ≡ printed NoSuchTurn (refusal_text (Turn turn setup.turns)) =
        subst (λ (r : Result ℕ Outcome). Then r (λ turn. IsRealmOutcome setup (after setup (own_turns setup 0 turn))) wanted)
        (cond-true (ltb setup.turns turn) _ _ (lt-ltb _ _ past)) is in
        absurd (subst (λ (o : Outcome). HasEnded o.status) none ended)
    at_turn setup is (inr le) =
        let realm = after_reading (turn_by setup turn) turn (λ turn. IsRealmOutcome setup (after setup (own_turns setup 0 turn))) wanted
        (turn_there setup turn le) is in
        told_so setup turn told told' realm.text realm.tells (subst (λ (o : Outcome). Appends told told' o.text) realm.printed text)

    by : (r : Result Setup Outcome) → Then r (RealmAt turn) wanted → IfOk r (λ setup. Territories setup turn told told')
    by (Ok setup) is = at_turn setup is (cases_lt setup.turns turn)
    by (Err ended) is = tt
of_outcome files other wanted told told' is ended text = tt

-- a run that came to its end told the text of an outcome
pub territories_told : (status : Status) (words : List (List ℕ)) (files : List File) (before now : Scene) → Meets status words files before now
    → HasEnded status
    → OfRealm files (asked_by words) (λ setup turn. Territories setup turn before.told now.told)
territories_told Done words files before now (wanted, is, status, done) ended = of_outcome files (asked_by words) wanted before.told now.told is
    (subst HasEnded (sym status) ended) done.text
territories_told Differs words files before now (wanted, is, status, done) ended = of_outcome files (asked_by words) wanted before.told now.told is
    (subst HasEnded (sym status) ended) done.text
territories_told other words files before now h ended = absurd ended
