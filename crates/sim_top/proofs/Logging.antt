-- What the sink was told of a log and what is stored of it, in the words of the rules.
use Rattle.sim_base.specs.{declared.command.PlayerCommand.PlayerCommand, Spelling.digest}
use Rattle.{sim_replay.{proofs.Aparts.{first_is, none_apart}, specs.{Apart.IsFirstApart, Logs.IsLog}}, sim_report.specs.Lines.apart_lines}
use Rattle.{sim_session.specs.Recording.released_turns, sim_top.proofs.Common.{ap, Apart, apart_by, Appends, arith, Asked, asked_by, bytes_in, check_outcome}}
use Rattle.sim_top.proofs.Common.{codes, Differs, digests_after, Done, Err, File, first_apart, HasEnded, IfOk, inl, inr, IsDone, IsLogged, IsOutcomeOf, length}
use Rattle.sim_top.proofs.Common.{List, Log, log_after, log_by, logged_as, match_in, match_turns, Meets, None, Ok, Option, Outcome, refl, Result, Scene}
use Rattle.sim_top.proofs.Common.{session_match_in, session_of, Setup, Some, state_after, Status, StepList, steps_in, subst, suc, sym, take, TellsLogs, Then}
use Rattle.sim_top.proofs.{Common.{ThenLog, to_check, to_log, to_record, ℕ, [], ◌∙◌, ◌≡◌, ◌≤◌, ◌⊎◌}, Sights.{file_end, no_end}}
use Rattle.sim_top.specs.Headline.{Agrees, Disagrees, IsChecked, IsFirstWrong, IsRight, IsStored}
use Rattle.std.{proofs.lemmas.{List.FromFn.{get_or-map-range_with_len, length-map-range_with_len}, Option.slice_get-get_or}, specs.Prelude.slice_get}

stored_so : (word : List ℕ) (setup : Setup) (turns : List (List PlayerCommand)) (out : List ℕ) (wanted : Outcome) (before now : Scene)
    → wanted ≡ logged_as word setup out (log_after setup turns) → IsDone wanted before now → IsStored word setup turns out before now
stored_so word setup turns out wanted before now is done = let all = subst (λ (o : Outcome). IsDone o before now) is done in
    record { text = all.text; file = all.files }

-- ---- a log that is checked

module _ (setup : Setup) (log : Log) (is_log : IsLog setup log) where
  played_length : length (digests_after setup log.turns) ≡ suc (length log.turns)
  played_length = length-map-range_with_len (λ n. digest setup (state_after setup (take n log.turns))) 0 (suc (length log.turns))

  same_length : length log.digests ≡ length (digests_after setup log.turns)
  same_length = omega (arith, is_log.one_more, played_length)

  played_at : (turn : ℕ) → turn ≤ length log.turns → slice_get (digests_after setup log.turns) turn ≡ Some
      (digest setup (state_after setup (take turn log.turns)))
  played_at turn within =
      slice_get-get_or (digests_after setup log.turns) turn [] (omega (arith, within, played_length))
      ∙ ap Some (get_or-map-range_with_len (λ n. digest setup (state_after setup (take n log.turns))) 0 (suc (length log.turns)) turn turn []
      (omega (arith, within)) (omega arith))

  right : log.digests ≡ digests_after setup log.turns → IsRight setup log
  right same turn within = ap (λ (ds : List (List ℕ)). slice_get ds turn) same ∙ played_at turn within

  wrong : (apart : Apart) → IsFirstApart log.digests (digests_after setup log.turns) apart → IsFirstWrong setup log apart.turn
  wrong apart first =
      let within : apart.turn ≤ length log.turns = omega (arith, first.within_told, is_log.one_more) in
      record {
        within = within;
        wrong = λ same. first.differ (let one : Some apart.told ≡ Some apart.played = sym first.told_is ∙ same ∙ sym (played_at apart.turn within) ∙
            first.played_is in cc);
        before = λ earlier less. first.before earlier less ∙ played_at earlier (omega (arith, less, within));
      }

  checked_so : (wanted : Outcome) (status : Status) (before now : Scene) (apart : Option Apart) → first_apart log.digests (digests_after setup log.turns) ≡
      apart → wanted ≡ apart_by (length log.turns) apart
      → wanted.status ≡ status → IsDone wanted before now → Agrees setup log status before now ⊎ Disagrees setup log status before now
  checked_so wanted status before now None none is same done =
      let all = subst (λ (o : Outcome). IsDone o before now) is done in
      inl (record { status_is = sym same ∙ ap (λ (o : Outcome). o.status) is; right = right (none_apart _ _ same_length none); text = all.text })
  checked_so wanted status before now (Some apart) some is same done =
      let all = subst (λ (o : Outcome). IsDone o before now) is done in
      let first = first_is log.digests (digests_after setup log.turns) apart some in
      let at = wrong apart first in
      inr (record {
        status_is = sym same ∙ ap (λ (o : Outcome). o.status) is;
        turn = apart.turn;
        first = at;
        told = apart.told;
        told_is = first.told_is;
        text = subst (λ (played : List ℕ). Appends before.told now.told (apart_lines apart.turn apart.told played))
            (let one : Some apart.played ≡ Some (digest setup (state_after setup (take apart.turn log.turns))) = sym first.played_is ∙
            played_at apart.turn at.within in cc) all.text;
      })

module _ (files : List File) (setup : Setup) (name : List ℕ) (wanted : Outcome) (status : Status) (before now : Scene) (same : wanted.status ≡ status)
    (ended : HasEnded wanted.status)
    (done : IsDone wanted before now) where
  of_log : (bytes : List ℕ) → bytes_in files name ≡ Ok bytes → (found : Result Log ℕ) → IsLogged setup bytes found
      → Then (log_by found) (λ log wanted. wanted ≡ check_outcome setup log) wanted
      → IsChecked files setup name status before now
  of_log bytes read (Ok log) is told =
      record {
        log = log;
        is_log = is.0;
        read = read ∙ ap Ok is.1;
        checked = checked_so setup log is.0 wanted status before now
            (first_apart log.digests (digests_after setup log.turns)) refl told same done;
      }
  of_log bytes read (Err line) is told = absurd (no_end wanted _ told ended)

  checked_from : (r : Result (List ℕ) Outcome) → bytes_in files name ≡ r
      → Then r (λ bytes. ThenLog setup bytes (λ log wanted. wanted ≡ check_outcome setup log)) wanted
      → IsChecked files setup name status before now
  checked_from (Ok bytes) e h = of_log bytes e h.found h.logged h.goes_on
  checked_from (Err o) e h = absurd (file_end files name o e (no_end wanted o h ended))

-- ---- the run

of_outcome : (files : List File) (asked : Option Asked) (wanted : Outcome) (status : Status) (before now : Scene) → IsOutcomeOf files asked wanted
    → wanted.status ≡ status → HasEnded wanted.status
    → IsDone wanted before now → TellsLogs files asked status before now
of_outcome files (Some (to_log game out)) wanted status before now is same ended done = by (match_in files game) is
  where
    by : (r : Result Setup Outcome) → Then r (λ setup wanted. wanted ≡ logged_as (codes "log") setup out (log_after setup (match_turns setup))) wanted
        → IfOk r (λ setup. IsStored (codes "log") setup (match_turns setup) out before now)
    by (Ok setup) is = stored_so (codes "log") setup (match_turns setup) out wanted before now is done
    by (Err o) is = tt
of_outcome files (Some (to_record game steps out)) wanted status before now is same ended done = by (session_match_in files game) is
  where
    of_steps : (setup : Setup) (r : Result StepList Outcome)
        → Then r (λ list wanted. wanted ≡ logged_as (codes "record") setup out (log_after setup (released_turns (session_of setup list)))) wanted
        → IfOk r (λ list. IsStored (codes "record") setup (released_turns (session_of setup list)) out before now)
    of_steps setup (Ok list) is = stored_so (codes "record") setup (released_turns (session_of setup list)) out wanted before now is done
    of_steps setup (Err o) is = tt

    by : (r : Result Setup Outcome)
        → Then r (λ setup. Then (steps_in files steps setup.players)
        (λ list wanted. wanted ≡ logged_as (codes "record") setup out (log_after setup (released_turns (session_of setup list))))) wanted
        → IfOk r (λ setup. IfOk (steps_in files steps setup.players) (λ list. IsStored (codes "record") setup (released_turns (session_of setup list)) out
        before now))
    by (Ok setup) is = of_steps setup (steps_in files steps setup.players) is
    by (Err o) is = tt
of_outcome files (Some (to_check game name)) wanted status before now is same ended done = by (match_in files game) is
  where
    by : (r : Result Setup Outcome)
        → Then r (λ setup. Then (bytes_in files name) (λ bytes. ThenLog setup bytes (λ log wanted. wanted ≡ check_outcome setup log))) wanted
        → IfOk r (λ setup. IsChecked files setup name status before now)
    by (Ok setup) is = checked_from files setup name wanted status before now same ended done (bytes_in files name) refl is
    by (Err o) is = tt
of_outcome files other wanted status before now is same ended done = tt

-- a run that came to its end did what the rules say of logs
pub logs_told : (status : Status) (words : List (List ℕ)) (files : List File) (before now : Scene) → Meets status words files before now → HasEnded status
    → TellsLogs files (asked_by words) status before now
logs_told Done words files before now (wanted, is, status, done) ended =
    of_outcome files (asked_by words) wanted Done before now is status (subst HasEnded (sym status) tt) done
logs_told Differs words files before now (wanted, is, status, done) ended =
    of_outcome files (asked_by words) wanted Differs before now is status (subst HasEnded (sym status) tt) done
logs_told other words files before now h ended = absurd ended
