-- A match and a log of it: the log could not be read, or the match was played by it.
use Rattle.sim_report.specs.declared.refusal.Refusal.TheVariants.{Log as OfLog}
use Rattle.sim_top.proofs.Answering.{both_causes, both_given, both_same, both_told, comes_to, ends, match_there, Opens}
use Rattle.sim_top.proofs.Common.{Asked, bytes_in, check_outcome, Counts, digests_after, EconomyRefused, File, first_apart, Gave, GaveFor, HasEnded, IsAnswerTo}
use Rattle.sim_top.proofs.Common.{IsMade, IsOfLog, IsOutcomeOf, IsReading, IsRefusal, length_read, ListRefused, Log, log_by, LogRefused, match_in, MatchRefused}
use Rattle.sim_top.proofs.Common.{MayAnswer, MayFinish, NoFile, Outcome, OutOfMemory, printed, ReadFault, reads_file, refusal_text, Setup, Shelved}
use Rattle.sim_top.proofs.Common.{SightRefused, StandForLog, state_after, StateRefused, status_of, Stop, Stopped, Systems, Then, ThenLog, to_check, TooLong}
use Rattle.sim_top.proofs.Common.{◌≡◌, ℕ, List, length, IfSome, OnOk, IsTrue, Some, None, Ok, Err, Option, Result, refl, Answer, ap, Apart, apart_by, AreFed}
use Rattle.sim_top.proofs.Stopping.{Stopped-weaker, Then-ended, Then-read, Told-both}
use Rattle.sim_top.specs.{Stops.IsLogOf, Stops.IsNoLog, Stops.ReadsLog, Words.reads_log, declared.stop.Stop.TheVariants.NoSuchTurn}
use Rattle.sim_top.specs.declared.status.Status.TheVariants as status

may_log : (asked : Asked) (stop : Stop) → IsTrue (reads_file asked) → IsTrue (reads_log asked) → IsOfLog stop → MayAnswer asked (status_of stop)
may_log asked ReadFault reads logs of = reads
may_log asked TooLong reads logs of = reads
may_log asked NoFile reads logs of = reads
may_log asked OutOfMemory reads logs of = tt
may_log asked (MatchRefused code index) reads logs of = absurd of
may_log asked (StateRefused code name) reads logs of = absurd of
may_log asked (ListRefused index) reads logs of = absurd of
may_log asked (NoSuchTurn turn turns) reads logs of = absurd of
may_log asked (SightRefused code) reads logs of = absurd of
may_log asked (LogRefused line) reads logs of = logs
may_log asked (EconomyRefused index) reads logs of = absurd of

gave_log : (files : List File) (asked : Asked) (stop : Stop) (old new : Counts) → IsOfLog stop → (IsRefusal stop → Gave (length_read files asked) old new)
    → GaveFor files asked (status_of stop) old new
gave_log files asked ReadFault old new of h = tt
gave_log files asked TooLong old new of h = tt
gave_log files asked NoFile old new of h = tt
gave_log files asked OutOfMemory old new of h = tt
gave_log files asked (MatchRefused code index) old new of h = absurd of
gave_log files asked (StateRefused code name) old new of h = absurd of
gave_log files asked (ListRefused index) old new of h = absurd of
gave_log files asked (NoSuchTurn turn turns) old new of h = absurd of
gave_log files asked (SightRefused code) old new of h = absurd of
gave_log files asked (LogRefused line) old new of h = h tt
gave_log files asked (EconomyRefused index) old new of h = absurd of

-- a check comes to its end either way
pub check_ends : (game name : List ℕ) (setup : Setup) (log : Log) → MayFinish (to_check game name) (check_outcome setup log)
    × HasEnded (check_outcome setup log).status
check_ends game name setup log = by (first_apart log.digests (digests_after setup log.turns))
  where
    by : (apart : Option Apart) → MayFinish (to_check game name) (apart_by (length log.turns) apart) × HasEnded (apart_by (length log.turns) apart).status
    by None = (record { status = tt; done = tt; file = tt }, tt)
    by (Some apart) = (record { status = refl; done = tt; file = tt }, tt)

module _ (game name : List ℕ) where
  -- what comes of the log
  abbrev checked : Setup → Log → Outcome → Type 0
  checked setup log wanted = wanted ≡ check_outcome setup log

  abbrev with_log : List File → Setup → Outcome → Type 0
  with_log files setup wanted = Then (bytes_in files name) (λ bytes. ThenLog setup bytes (checked setup)) wanted

  pub check_opens : Opens (to_check game name) game (λ files. match_in files game)
  check_opens = record {
    fails = λ files o e. Then-ended (match_in files game) (with_log files) o e;
    first = λ files. refl;
    lacks = λ files h. h;
    reads = refl;
    has = refl;
  }

  -- the bytes are no log
  no_log : (setup : Setup) (file : Result (List ℕ) Outcome) (ended : Outcome) → Then file (IsNoLog setup) ended
      → Then file (λ bytes. ThenLog setup bytes (checked setup)) ended
  no_log setup (Ok bytes) ended is = record { found = Err is.line; logged = is.refused; goes_on = of is.ended }
    where
      of : log_by (Err is.line) ≡ Err ended → ended ≡ printed status.LogRefused (refusal_text (OfLog is.line))
      of e = cc
  no_log setup (Err other) ended is = is

  -- they are one
  a_log : (setup : Setup) (file : Result (List ℕ) Outcome) (log : Log) (wanted : Outcome) → IsLogOf setup file log → wanted ≡ check_outcome setup log
      → Then file (λ bytes. ThenLog setup bytes (checked setup)) wanted
  a_log setup file log wanted is comes = Then-read file is.bytes (λ bytes. ThenLog setup bytes (checked setup)) wanted is.read
      (record { found = Ok log; logged = is.logged; goes_on = comes })

  module _ (setup : Setup) (before middle now : Shelved) (one : IsReading game (Ok setup) before middle)
      (told : IfSome before.held (λ files. match_in files game ≡ Ok setup)) where
    -- the log could not be read
    pub log_ends : (stop : Stop) → IsOfLog stop → IsReading {X = Log} name (Err stop) middle now
        → IfSome middle.held (λ files. ReadsLog (Err stop) setup (bytes_in files name))
        → IsAnswerTo (to_check game name) (Err stop) before now
    log_ends stop of two read =
        ends (to_check game name) stop before now
        (Told-both (λ files. match_in files game ≡ Ok setup) (λ files. ReadsLog (Err stop) setup (bytes_in files name))
        (λ files. Stopped stop (IsOutcomeOf files (Some (to_check game name)))) before.held
        (λ files e h. Stopped-weaker stop (Then (bytes_in files name) (IsNoLog setup)) (IsOutcomeOf files (Some (to_check game name)))
        (λ o ended. Then-read (match_in files game) setup (with_log files) o e (no_log setup (bytes_in files name) o ended)) h)
        told (both_told game name setup (Err stop) before middle now one two (λ files. ReadsLog (Err stop) setup (bytes_in files name)) read))
        (may_log (to_check game name) stop refl refl of)
        (both_causes game name setup (Err stop) before middle now one two)
        (λ files e lacks. absurd (match_there (to_check game name) game (λ files. match_in files game) setup before middle check_opens one files e lacks))
        (λ files e. gave_log files (to_check game name) stop before.counts now.counts of
        (both_given game name setup (Err stop) before middle now one two files e))
        (both_same game name setup (Err stop) before middle now one two)

    -- it was read, and the match is played by it
    pub log_goes_on : (log : Log) (made : Result Answer Stop) → IsReading name (Ok log) middle now
        → IfSome middle.held (λ files. IsLogOf setup (bytes_in files name) log)
        → IsMade (check_outcome setup log) made → MayFinish (to_check game name) (check_outcome setup log) → IsAnswerTo (to_check game name) made before now
    log_goes_on log made two read m finish =
        comes_to (to_check game name) (check_outcome setup log) made before now m finish
        (Told-both (λ files. match_in files game ≡ Ok setup) (λ files. IsLogOf setup (bytes_in files name) log)
        (λ files. IsOutcomeOf files (Some (to_check game name)) (check_outcome setup log)) before.held
        (λ files e is. Then-read (match_in files game) setup (with_log files) (check_outcome setup log) e
        (a_log setup (bytes_in files name) log (check_outcome setup log) is refl))
        told (both_told game name setup (Ok log) before middle now one two (λ files. IsLogOf setup (bytes_in files name) log) read))
        (match_there (to_check game name) game (λ files. match_in files game) setup before middle check_opens one)
        (both_causes game name setup (Ok log) before middle now one two)
        (both_given game name setup (Ok log) before middle now one two)
        (both_same game name setup (Ok log) before middle now one two)

    -- and the systems of its rig stand for the last state of the log
    pub log_stands : (log : Log) (made : Result Answer Stop) (t : Systems) → IsReading name (Ok log) middle now
        → IfSome middle.held (λ files. IsLogOf setup (bytes_in files name) log)
        → OnOk made (AreFed setup (state_after setup log.turns) t) → IfSome before.held (λ files. OnOk made (StandForLog setup (bytes_in files name) t))
    log_stands log made t two read fed =
        by before.held (both_told game name setup (Ok log) before middle now one two (λ files. IsLogOf setup (bytes_in files name) log) read)
      where
        of : (made : Result Answer Stop) (file : Result (List ℕ) Outcome) → IsLogOf setup file log → OnOk made (AreFed setup (state_after setup log.turns) t)
            → OnOk made (StandForLog setup file t)
        of (Ok answer) file is fed = record { log = log; read = is; fed = fed }
        of (Err stop) file is fed = tt

        by : (held : Option (List File)) → IfSome held (λ files. IsLogOf setup (bytes_in files name) log)
            → IfSome held (λ files. OnOk made (StandForLog setup (bytes_in files name) t))
        by None h = tt
        by (Some files) h = of made (bytes_in files name) h fed
