-- What is made of the words before anything is written: by what their command answers, or by what ended it.
use Rattle.sim_top.specs.declared.stop.Stop.TheVariants as stops
use Rattle.sim_top.proofs.Common.{HasEnded, IfOk, IsAnswered, IsAnswerTo, IsFinished, IsOutcomeOf, IsSavedAs, IsSettled, IsSilent, LacksFirst, List, MayEnd}
use Rattle.sim_top.proofs.Common.{MeetsBefore, None, Ok, OnlyGave, Option, option_map, out_of, Outcome, outcome_made, printed, refl, Result, Saved, Shelved}
use Rattle.sim_top.proofs.Common.{Some, Status, status_of, Stop, Stopped, String, string_bytes, subst, sym, Usage, usage_text, WriteFault, ℕ, ◌∙◌, ◌≡◌}
use Rattle.sim_top.proofs.Common.{[], Answer, Asked, asked_by, Counts, CountsBefore, Differs, Done, Err, false≢true, File, file_of, GaveForWords, Global}
use Rattle.sim_top.proofs.{Answering.has_ended, Counting.nothing_given, Finishing.all_told, Finishing.unfound_silent, Finishing.without_memory, Stopping.Told}
use Rattle.{sim_base.specs.declared.memory.OutOfMemory.OutOfMemory as NoMemory, sim_top.specs.Commands.IsPrepared, sim_top.specs.Making.SavesIfDone}
use Rattle.{sim_top.specs.Reads.LacksMatch, sim_top.specs.Stops.stop_text, sim_top.specs.declared.status.Status.TheVariants.OutOfMemory, std.proofs.Common.IsOk}

-- ---- a command that has its text

meets : (words : List (List ℕ)) (files : List File) (saved : Option Saved) (status : Status) (text : List ℕ) → IsFinished saved status
    → IsOutcomeOf files (asked_by words) (record { status = status; text = text; saved = option_map file_of saved }) → MeetsBefore status words files text
    (option_map file_of saved)
meets words files None Done text done is = is
meets words files None Differs text done is = is
meets words files None other text done is = absurd done
meets words files (Some saved) Done text done is = is
meets words files (Some saved) other text done is = absurd done

ended_loud : (status : Status) → HasEnded status → IsSilent status → ⊥
ended_loud Done ended h = h
ended_loud Differs ended h = h
ended_loud other ended h = absurd ended

saves : (saved : Option Saved) (status : Status) → IsFinished saved status → SavesIfDone saved status
saves None status done = tt
saves (Some saved) Done done = refl
saves (Some saved) other done = absurd done

gave_before : (status : Status) (old new : Counts) → HasEnded status → OnlyGave old new → CountsBefore status old new
gave_before Done old new ended h = h
gave_before Differs old new ended h = h
gave_before other old new ended h = absurd ended

-- ---- one that ended before

stop_meets : (words : List (List ℕ)) (files : List File) (stop : Stop) → Stopped stop (IsOutcomeOf files (asked_by words))
    → MeetsBefore (status_of stop) words files (stop_text stop) None
stop_meets words files stops.ReadFault h = (refl, refl)
stop_meets words files stops.OutOfMemory h = (refl, refl)
stop_meets words files stops.TooLong h = h
stop_meets words files stops.NoFile h = h
stop_meets words files (stops.MatchRefused code index) h = h
stop_meets words files (stops.StateRefused code name) h = h
stop_meets words files (stops.ListRefused index) h = h
stop_meets words files (stops.NoSuchTurn turn turns) h = h
stop_meets words files (stops.SightRefused code) h = h
stop_meets words files (stops.LogRefused line) h = h
stop_meets words files (stops.EconomyRefused index) h = h

silent_text : (stop : Stop) → IsSilent (status_of stop) → stop_text stop ≡ []
silent_text stops.ReadFault h = refl
silent_text stops.TooLong h = refl
silent_text stops.NoFile h = refl
silent_text stops.OutOfMemory h = refl
silent_text (stops.MatchRefused code index) h = absurd h
silent_text (stops.StateRefused code name) h = absurd h
silent_text (stops.ListRefused index) h = absurd h
silent_text (stops.NoSuchTurn turn turns) h = absurd h
silent_text (stops.SightRefused code) h = absurd h
silent_text (stops.LogRefused line) h = absurd h
silent_text (stops.EconomyRefused index) h = absurd h

stop_unwritten : (stop : Stop) → status_of stop ≡ WriteFault → ⊥
stop_unwritten stops.ReadFault e = cc
stop_unwritten stops.TooLong e = cc
stop_unwritten stops.NoFile e = cc
stop_unwritten stops.OutOfMemory e = cc
stop_unwritten (stops.MatchRefused code index) e = cc
stop_unwritten (stops.StateRefused code name) e = cc
stop_unwritten (stops.ListRefused index) e = cc
stop_unwritten (stops.NoSuchTurn turn turns) e = cc
stop_unwritten (stops.SightRefused code) e = cc
stop_unwritten (stops.LogRefused line) e = cc
stop_unwritten (stops.EconomyRefused index) e = cc

none_saved : (out : Option (List ℕ)) → IsSavedAs out None
none_saved None = tt
none_saved (Some out) = tt

-- the same in other words
prepared_as : (words : List (List ℕ)) (before now : Shelved) (status status' : Status) (text text' : List ℕ) (saved saved' : Option Saved) → status ≡ status'
    → text ≡ text' → saved ≡ saved'
    → IsPrepared words status' text' saved' before now → IsPrepared words status text saved before now
prepared_as words before now status status' text text' saved saved' s t v h =
    subst (λ (x : Status). IsPrepared words x text saved before now) (sym s)
    (subst (λ (x : List ℕ). IsPrepared words status' x saved before now) (sym t) (subst (λ (x : Option Saved). IsPrepared words status' text' x before now)
    (sym v) h))

module _ (words : List (List ℕ)) (asked : Asked) (is : Some asked ≡ asked_by words) (before now : Shelved) where
  said : (P : Option Asked → Type 0) → P (Some asked) → P (asked_by words)
  said P h = subst P is h

  lacks_first : (files : List File) → LacksMatch files (asked_by words) → LacksFirst files asked
  lacks_first files h = subst (LacksMatch files) (sym is) h

  not_unasked : asked_by words ≡ None → ⊥
  not_unasked none = let e : Some asked ≡ None = is ∙ none in cc

  -- the command has its text
  pub of_answer : (answer : Answer) → IsAnswerTo asked (Ok answer) before now → IsPrepared words answer.status (string_bytes answer.text) answer.saved before
      now
  of_answer answer a =
      let ended : HasEnded answer.status = has_ended answer.saved answer.status a.done in
      record {
        answers = Told (λ files. IsOutcomeOf files (Some asked) (outcome_made answer))
            (λ files. MeetsBefore answer.status words files (string_bytes answer.text) (option_map file_of answer.saved)) before.held
            (λ files h. meets words files answer.saved answer.status (string_bytes answer.text) a.done
            (said (λ o. IsOutcomeOf files o (outcome_made answer)) h)) a.answers;
        statuses = said (λ o. MayEnd o answer.status) a.statuses;
        unasked = λ none. absurd (not_unasked none);
        given = λ files e. said (λ o. GaveForWords files o answer.status before.counts now.counts) (a.given files e);
        missing = λ files e lacks. absurd (a.missing files e (lacks_first files lacks));
        silent = λ silent. absurd (ended_loud answer.status ended silent);
        done = saves answer.saved answer.status a.done;
        saved_as = said (λ o. IsSavedAs (out_of o) answer.saved) a.saved;
        unwritten = λ fault. subst HasEnded fault ended;
        causes = gave_before answer.status before.counts now.counts ended a.causes;
        same = a.same;
      }

  -- it ended before
  of_stop : (stop : Stop) → IsAnswerTo asked (Err stop) before now → IsPrepared words (status_of stop) (stop_text stop) None before now
  of_stop stop a =
      record {
        answers = Told (λ files. Stopped stop (IsOutcomeOf files (Some asked))) (λ files. MeetsBefore (status_of stop) words files (stop_text stop) None)
            before.held
            (λ files h. stop_meets words files stop (said (λ o. Stopped stop (IsOutcomeOf files o)) h)) a.answers;
        statuses = said (λ o. MayEnd o (status_of stop)) a.statuses;
        unasked = λ none. absurd (not_unasked none);
        given = λ files e. said (λ o. GaveForWords files o (status_of stop) before.counts now.counts) (a.given files e);
        missing = λ files e lacks. (a.missing files e (lacks_first files lacks), refl);
        silent = silent_text stop;
        done = tt;
        saved_as = none_saved (out_of (asked_by words));
        unwritten = stop_unwritten stop;
        causes = a.causes;
        same = a.same;
      }

  -- and there was no memory for its line
  of_no_line : (stop : Stop) → (IsSilent (status_of stop) → ⊥) → IsAnswerTo asked (Err stop) before now → IsPrepared words OutOfMemory [] None before now
  of_no_line stop loud a =
      record {
        answers = all_told (λ files. MeetsBefore OutOfMemory words files [] None) before.held (λ files. (refl, refl));
        statuses = said (λ o. MayEnd o OutOfMemory) tt;
        unasked = λ none. absurd (not_unasked none);
        given = λ files e. said (λ o. GaveForWords files o OutOfMemory before.counts now.counts) tt;
        missing = λ files e lacks. absurd (loud (unfound_silent (status_of stop) (a.missing files e (lacks_first files lacks))));
        silent = λ silent. refl;
        done = tt;
        saved_as = none_saved (out_of (asked_by words));
        unwritten = λ e. cc;
        causes = without_memory stop before.counts now.counts loud a.causes;
        same = a.same;
      }

  pub of_ended : (stop : Stop) (status : Status) (text : List ℕ) (saved : Option Saved) (line : Result (String Global) NoMemory)
      → IsAnswered status text (status_of stop) line → saved ≡ None
      → IfOk line (λ t. string_bytes t ≡ stop_text stop) → (IsSilent (status_of stop) → IsOk line) → IsAnswerTo asked (Err stop) before now
      → IsPrepared words status text saved before now
  of_ended stop status text saved (Ok t) answered none is_text sure a =
      prepared_as words before now status (status_of stop) text (stop_text stop) saved None answered.0 (answered.1 ∙ is_text) none (of_stop stop a)
  of_ended stop status text saved (Err e) answered none is_text sure a =
      prepared_as words before now status OutOfMemory text [] saved None answered.0 answered.1 none (of_no_line stop (λ silent. false≢true (sure silent)) a)

-- ---- words that are in no table

module _ (words : List (List ℕ)) (unasked : asked_by words ≡ None) (shelf : Shelved) where
  says : (P : Option Asked → Type 0) → P None → P (asked_by words)
  says P h = subst P (sym unasked) h

  of_usage : IsPrepared words Usage usage_text None shelf shelf
  of_usage =
      record {
        answers = all_told (λ files. MeetsBefore Usage words files usage_text None) shelf.held
            (λ files. says (λ o. IsOutcomeOf files o (printed Usage usage_text)) refl);
        statuses = says (λ o. MayEnd o Usage) tt;
        unasked = λ none. (refl, refl, refl);
        given = λ files e. says (λ o. GaveForWords files o Usage shelf.counts shelf.counts) refl;
        missing = λ files e lacks. absurd (subst (LacksMatch files) unasked lacks);
        silent = λ silent. absurd silent;
        done = tt;
        saved_as = none_saved (out_of (asked_by words));
        unwritten = λ e. cc;
        causes = refl;
        same = refl;
      }

  of_no_usage : IsPrepared words OutOfMemory [] None shelf shelf
  of_no_usage =
      record {
        answers = all_told (λ files. MeetsBefore OutOfMemory words files [] None) shelf.held (λ files. (refl, refl));
        statuses = says (λ o. MayEnd o OutOfMemory) tt;
        unasked = λ none. (refl, refl, refl);
        given = λ files e. says (λ o. GaveForWords files o OutOfMemory shelf.counts shelf.counts) refl;
        missing = λ files e lacks. absurd (subst (LacksMatch files) unasked lacks);
        silent = λ silent. refl;
        done = tt;
        saved_as = none_saved (out_of (asked_by words));
        unwritten = λ e. cc;
        causes = nothing_given shelf.counts;
        same = refl;
      }

  pub of_unasked : (status : Status) (text : List ℕ) (saved : Option Saved) (line : Result (String Global) NoMemory) → IsAnswered status text Usage line
      → saved ≡ None → IfOk line (λ t. string_bytes t ≡ usage_text)
      → IsPrepared words status text saved shelf shelf
  of_unasked status text saved (Ok t) answered none is_text = prepared_as words shelf shelf status Usage text usage_text saved None answered.0
      (answered.1 ∙ is_text) none of_usage
  of_unasked status text saved (Err e) answered none is_text = prepared_as words shelf shelf status OutOfMemory text [] saved None answered.0 answered.1 none
      of_no_usage

-- ---- a status that is settled is that of the command

pub answered_settled : (wanted status : Status) (text : List ℕ) (line : Result (String Global) NoMemory) → IsAnswered status text wanted line → IsSettled status
    → status ≡ wanted
answered_settled wanted status text (Ok t) answered settled = answered.0
answered_settled wanted status text (Err e) answered settled = absurd (subst IsSettled answered.0 settled)
