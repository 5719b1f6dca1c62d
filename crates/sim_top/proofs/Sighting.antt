-- What the players see: at a turn that a match has, and from a stored state on with explored cells, which are read where there is a state.
use Rattle.sim_vision.specs.declared.fault.SightFault.TheVariants as sights
use Rattle.{sim_play.specs.Lines.sight_text, sim_top.proofs.Answering.{both_causes, both_given, both_told, comes_to_one, ends, Loads, match_there}}
use Rattle.sim_top.proofs.Common.{Answer, ap, Asked, Bool, bytes_in, cond, cond-false, cond-true, Counts, Done, EconomyRefused, Err, false, File, Gave, GaveFor}
use Rattle.sim_top.proofs.Common.{Global, HasEnded, IfErr, IfOk, IfSome, inl, inr, IsAnswerTo, IsMadeAs, IsOfMap, IsOutcomeOf, IsReading, IsRefusal}
use Rattle.sim_top.proofs.Common.{IsResighted, IsSeenFrom, IsState, IsTrue, LacksFirst, le-ltb, length, length_in, length_read, List, ListRefused, LogRefused}
use Rattle.sim_top.proofs.Common.{lt-ltb, ltb, map_at, map_by, match_in, MatchRefused, MayAnswer, MayFinish, NoFile, None, NoSuchTurn, Ok, OnErr, Option}
use Rattle.sim_top.proofs.Common.{Outcome, outcome_made, OutOfMemory, printed, ReadFault, reads_file, refl, refusal_of, refusal_text, resight_text, Result}
use Rattle.sim_top.proofs.Common.{seen_with, Setup, Shelved, sight_outcome, SightFault, SightRefused, Some, State, StateRefused, status_of, Stop, Stopped}
use Rattle.sim_top.proofs.Common.{String, string_bytes, subst, sym, Then, to_resight, TooLong, true, Turn, Vec, Vision, ℕ, ◌+◌, ◌<◌, ◌∙◌, ◌≡◌, ◌≤◌, ◌⊎◌}
use Rattle.sim_top.proofs.{Counting.{counted_after, gave_both, gave_on}, Stopping.{state_goes_on, Stopped-weaker, Then-ended, Then-read, Told-all}}
use Rattle.{sim_vision.specs.Vision.{cells_in, joined_at}, std.proofs.{Common.{eqb, not, ◌*◌}, lemmas.Bool.eqb-true}}
use Rattle.sim_top.specs.{Outcome.seen_at, Stops.IsJoined, Stops.map_stop, Words.reads_map, declared.stop.Stop.TheVariants.NoSuchTurn as NoTurn}
use Rattle.{sim_base.specs.declared.memory.OutOfMemory.OutOfMemory as NoMemory, sim_base.specs.declared.state.Row.Row, sim_play.specs.Lines.sight_file}

-- ---- a turn of a match

pub sight_past : (setup : Setup) (turn : ℕ) (out : List ℕ) → setup.turns < turn →
    printed NoSuchTurn (refusal_text (Turn turn setup.turns)) ≡ sight_outcome setup turn out
sight_past setup turn out past = sym (cond-true (ltb setup.turns turn) _ _ (lt-ltb _ _ past))

pub sight_done : (setup : Setup) (turn : ℕ) (out : List ℕ) → turn ≤ setup.turns → seen_at setup turn out ≡ sight_outcome setup turn out
sight_done setup turn out le = sym (cond-false (ltb setup.turns turn) _ _ (le-ltb _ _ le))

-- the lines and the file are those of a turn which the match has
pub sighted_is : (setup : Setup) (turn : ℕ) (out : List ℕ) (told : Result (String Global × Vec ℕ Global) NoMemory) → turn ≤ setup.turns →
    IfOk told (λ t. string_bytes t.0 ≡ sight_text setup turn)
    → IfOk told (λ t. t.1.items ≡ sight_file setup turn) → IfOk told (λ t. seen_with (string_bytes t.0) out t.1.items ≡ sight_outcome setup turn out)
sighted_is setup turn out (Ok t) le text file = ap (λ (s : List ℕ). seen_with s out t.1.items) text
    ∙ ap (λ (s : List ℕ). seen_with (sight_text setup turn) out s) file ∙ sight_done setup turn out le
sighted_is setup turn out (Err none) le text file = tt

-- ---- explored cells that are taken over at a state

-- there is one byte for each cell of each player
pub full_of : (setup : Setup) (rows : List Row) (bytes : List ℕ) → refusal_of setup rows bytes ≡ None → length bytes ≡ setup.players * cells_in setup
full_of setup rows bytes none = by (eqb (length bytes) (setup.players * cells_in setup)) _ refl none
  where
    by : (b : Bool) (other : Option SightFault) → eqb (length bytes) (setup.players * cells_in setup) ≡ b →
        cond (not b) (Some sights.Length) other ≡ None → length bytes ≡ setup.players * cells_in setup
    by true other e h = eqb-true _ _ e
    by false other e h = cc

-- they are those of the file, for which there is no cause to refuse them
pub taken_is : (setup : Setup) (state : State) (file : Result (List ℕ) Outcome) (bytes : List ℕ) → map_at setup state file ≡ Ok bytes →
    (file ≡ Ok bytes) × (refusal_of setup state.rows bytes ≡ None)
taken_is setup state (Err ended) bytes is = absurd (cc)
taken_is setup state (Ok read) bytes is = by (refusal_of setup state.rows read) refl is
  where
    by : (r : Option SightFault) → refusal_of setup state.rows read ≡ r → map_by r read ≡ Ok bytes →
        (map_by None read ≡ Ok bytes) × (refusal_of setup state.rows bytes ≡ None)
    by None e h = let same : read ≡ bytes = cc in (h, subst (λ (b : List ℕ). refusal_of setup state.rows b ≡ None) same e)
    by (Some fault) e h = absurd (cc)

pub joined_full : (setup : Setup) (state : State) (file : Result (List ℕ) Outcome) (sight : Vision)
    (j : IsJoined setup state (map_at setup state file) sight) → length j.bytes ≡ setup.players * cells_in setup
joined_full setup state file sight j = full_of setup state.rows j.bytes (taken_is setup state file j.bytes j.read).1

-- the bytes are taken over, or they are refused
pub joined_is : (setup : Setup) (state : State) (bytes : List ℕ) (sight : Vision) → sight ≡ joined_at setup state bytes →
    refusal_of setup state.rows bytes ≡ None
    → IsJoined setup state (map_by (refusal_of setup state.rows bytes) bytes) sight
joined_is setup state bytes sight is none = record { bytes = bytes; read = ap (λ (r : Option SightFault). map_by r bytes) none; joined = is }

pub map_refused : (fault : SightFault) (refusal : Option SightFault) (bytes : List ℕ) → (fault ≡ sights.OutOfMemory) ⊎ (refusal ≡ Some fault) →
    Stopped (map_stop fault) (λ ended. map_by refusal bytes ≡ Err ended)
map_refused sights.OutOfMemory refusal bytes h = tt
map_refused sights.Length refusal bytes (inl e) = absurd (cc)
map_refused sights.Length refusal bytes (inr e) = ap (λ (r : Option SightFault). map_by r bytes) e
map_refused sights.NotBit refusal bytes (inl e) = absurd (cc)
map_refused sights.NotBit refusal bytes (inr e) = ap (λ (r : Option SightFault). map_by r bytes) e
map_refused sights.Unseen refusal bytes (inl e) = absurd (cc)
map_refused sights.Unseen refusal bytes (inr e) = ap (λ (r : Option SightFault). map_by r bytes) e

pub map_stop_of : (fault : SightFault) → IsOfMap (map_stop fault)
map_stop_of sights.OutOfMemory = tt
map_stop_of sights.Length = tt
map_stop_of sights.NotBit = tt
map_stop_of sights.Unseen = tt

-- a text that tells what is seen in the end is made
pub sight_made : (setup : Setup) (state : State) (sight : Vision) (made : Result Answer Stop) (text : Result (String Global) NoMemory) →
    IfErr made (λ stop. stop ≡ OutOfMemory) → OnErr text (made ≡ Err OutOfMemory)
    → IfOk made (λ answer. IfOk text (λ t. outcome_made answer ≡ printed Done (string_bytes t)))
    → IfOk text (λ t. (bytes : List ℕ) → sight ≡ joined_at setup state bytes → length bytes ≡ setup.players * cells_in setup →
    string_bytes t ≡ resight_text setup state bytes) → IsMadeAs (IsSeenFrom setup state sight) made
sight_made setup state sight made text stops refused told is = record { answers = by made text refused told is; stops = stops }
  where
    by : (r : Result Answer Stop) (o : Result (String Global) NoMemory) → OnErr o (r ≡ Err OutOfMemory) →
        IfOk r (λ answer. IfOk o (λ t. outcome_made answer ≡ printed Done (string_bytes t)))
        → IfOk o (λ t. (bytes : List ℕ) → sight ≡ joined_at setup state bytes → length bytes ≡ setup.players * cells_in setup →
        string_bytes t ≡ resight_text setup state bytes)
        → IfOk r (λ answer. IsSeenFrom setup state sight (outcome_made answer))
    by (Ok answer) (Ok t) e told is = record { text = string_bytes t; tells = is; printed = told }
    by (Ok answer) (Err none) e told is = absurd (cc)
    by (Err stop) o e told is = tt

-- ---- a stored state and explored cells

-- what comes of the state
abbrev pub with_map : List ℕ → List File → Setup → State → Outcome → Type 0
with_map file files setup state wanted = IsResighted setup state (bytes_in files file) wanted

-- and of both
abbrev seen : Setup → State → List ℕ → Outcome → Type 0
seen setup state bytes wanted = wanted ≡ printed Done (resight_text setup state bytes)

pub loads : (game name file : List ℕ) → Loads (to_resight game name file) game name (with_map file)
loads game name file =
    record {
      opens = record {
        fails = λ files o e. Then-ended (match_in files game) _ o e;
        first = λ files. refl;
        lacks = λ files h. h;
        reads = refl;
        has = refl;
      };
      is = λ files wanted h. h;
      loads = refl;
    }

may_map : (asked : Asked) (stop : Stop) → IsTrue (reads_file asked) → IsTrue (reads_map asked) → IsOfMap stop → MayAnswer asked (status_of stop)
may_map asked ReadFault reads maps of = reads
may_map asked TooLong reads maps of = reads
may_map asked NoFile reads maps of = reads
may_map asked OutOfMemory reads maps of = tt
may_map asked (MatchRefused code index) reads maps of = absurd of
may_map asked (StateRefused code name) reads maps of = absurd of
may_map asked (ListRefused index) reads maps of = absurd of
may_map asked (NoTurn turn turns) reads maps of = absurd of
may_map asked (SightRefused code) reads maps of = maps
may_map asked (LogRefused line) reads maps of = absurd of
may_map asked (EconomyRefused index) reads maps of = absurd of

gave_map : (files : List File) (asked : Asked) (stop : Stop) (old new : Counts) → IsOfMap stop →
    (IsRefusal stop → Gave (length_read files asked) old new) → GaveFor files asked (status_of stop) old new
gave_map files asked ReadFault old new of h = tt
gave_map files asked TooLong old new of h = tt
gave_map files asked NoFile old new of h = tt
gave_map files asked OutOfMemory old new of h = tt
gave_map files asked (MatchRefused code index) old new of h = absurd of
gave_map files asked (StateRefused code name) old new of h = absurd of
gave_map files asked (ListRefused index) old new of h = absurd of
gave_map files asked (NoTurn turn turns) old new of h = absurd of
gave_map files asked (SightRefused code) old new of h = h tt
gave_map files asked (LogRefused line) old new of h = absurd of
gave_map files asked (EconomyRefused index) old new of h = absurd of

may_finish : (game name file : List ℕ) (setup : Setup) (state : State) (sight : Vision) (wanted : Outcome) → IsSeenFrom setup state sight wanted →
    MayFinish (to_resight game name file) wanted
may_finish game name file setup state sight wanted h = subst (MayFinish (to_resight game name file)) (sym h.printed)
    (record { status = tt; done = tt; file = tt })

pub seen_ended : (setup : Setup) (state : State) (sight : Vision) (wanted : Outcome) → IsSeenFrom setup state sight wanted → HasEnded wanted.status
seen_ended setup state sight wanted h = subst (λ (o : Outcome). HasEnded o.status) (sym h.printed) tt

module _ (game name file : List ℕ) (setup : Setup) (state : State) (before first middle now : Shelved) (one : IsReading game (Ok setup) before first)
    (two : IsReading name (Ok state) first middle)
    (told : IfSome before.held (λ files. match_in files game ≡ Ok setup))
    (stored : IfSome first.held (λ files. IsState setup (bytes_in files name) state)) where
  is_there : (files : List File) → before.held ≡ Some files → LacksFirst files (to_resight game name file) → ⊥
  is_there = match_there (to_resight game name file) game (λ files. match_in files game) setup before first (loads game name file).opens one

  third_told : (P : List File → Type 0) → IfSome middle.held P → IfSome before.held P
  third_told P h = subst (λ (held : Option (List File)). IfSome held P) (two.same ∙ one.same) h

  -- the explored cells are not taken over
  pub map_ends : (stop : Stop) → IsOfMap stop → IsReading {X = Vision} file (Err stop) middle now →
      IfSome middle.held (λ files. Stopped stop (λ ended. map_at setup state (bytes_in files file) ≡ Err ended))
      → IsAnswerTo (to_resight game name file) (Err stop) before now
  map_ends stop of three read =
      ends (to_resight game name file) stop before now
      (Told-all (λ files. match_in files game ≡ Ok setup) (λ files. IsState setup (bytes_in files name) state)
      (λ files. Stopped stop (λ ended. map_at setup state (bytes_in files file) ≡ Err ended))
      (λ files. Stopped stop (IsOutcomeOf files (Some (to_resight game name file)))) before.held
      (λ files e s h. Stopped-weaker stop (λ ended. map_at setup state (bytes_in files file) ≡ Err ended) (IsOutcomeOf files (Some (to_resight game name file)))
      (λ o is. state_goes_on setup name state (match_in files game) (bytes_in files name) (with_map file files) o e s
      (Then-ended (map_at setup state (bytes_in files file)) (seen setup state) o is)) h)
      told (both_told game name setup (Ok state) before first middle one two (λ files. IsState setup (bytes_in files name) state) stored)
      (third_told (λ files. Stopped stop (λ ended. map_at setup state (bytes_in files file) ≡ Err ended)) read))
      (may_map (to_resight game name file) stop refl refl of)
      (counted_after stop before.counts middle.counts now.counts (both_causes game name setup (Ok state) before first middle one two) three.causes)
      (λ files e lacks. absurd (is_there files e lacks))
      (λ files e. gave_map files (to_resight game name file) stop before.counts now.counts of
      (λ refused. gave_both (length_in files game + length_in files name) (length_in files file) before.counts middle.counts now.counts
      (both_given game name setup (Ok state) before first middle one two files e) (three.given files (two.same ∙ one.same ∙ e) refused)))
      (three.same ∙ two.same ∙ one.same)

  -- they are, and the match was played on
  pub map_goes_on : (sight : Vision) (made : Result Answer Stop) → IsReading file (Ok sight) middle now →
      IfSome middle.held (λ files. IsJoined setup state (map_at setup state (bytes_in files file)) sight)
      → IsMadeAs (IsSeenFrom setup state sight) made → IsAnswerTo (to_resight game name file) made before now
  map_goes_on sight made three read m =
      comes_to_one (to_resight game name file) (IsSeenFrom setup state sight) made before now m (may_finish game name file setup state sight)
      (λ o h. Told-all (λ files. match_in files game ≡ Ok setup) (λ files. IsState setup (bytes_in files name) state)
      (λ files. IsJoined setup state (map_at setup state (bytes_in files file)) sight)
      (λ files. IsOutcomeOf files (Some (to_resight game name file)) o) before.held
      (λ files e s j. state_goes_on setup name state (match_in files game) (bytes_in files name) (with_map file files) o e s
      (Then-read (map_at setup state (bytes_in files file)) j.bytes (seen setup state) o j.read
      (h.printed ∙ ap (printed Done) (h.tells j.bytes j.joined (joined_full setup state (bytes_in files file) sight j)))))
      told (both_told game name setup (Ok state) before first middle one two (λ files. IsState setup (bytes_in files name) state) stored)
      (third_told (λ files. IsJoined setup state (map_at setup state (bytes_in files file)) sight) read))
      is_there
      (gave_on before.counts middle.counts now.counts (both_causes game name setup (Ok state) before first middle one two) three.causes)
      (λ files e. gave_both (length_in files game + length_in files name) (length_in files file) before.counts middle.counts now.counts
      (both_given game name setup (Ok state) before first middle one two files e) (three.given files (two.same ∙ one.same ∙ e)))
      (three.same ∙ two.same ∙ one.same)
