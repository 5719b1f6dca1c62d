-- What a command answers: by the outcome that it makes, or by what ended it.
use Rattle.sim_top.proofs.Common.{Answer, ap, Asked, bytes_in, CausesOf, Counts, CountsBefore, EconomyRefused, Err, File, file_in, file_of, Gave, GaveAll}
use Rattle.sim_top.proofs.Common.{GaveFor, GaveToState, HasEnded, IfSome, IsAnswerTo, IsFinished, IsMade, IsMadeAs, IsOfContent, IsOfList, IsOfMatch, IsOfState}
use Rattle.sim_top.proofs.Common.{IsOutcomeOf, IsReading, IsRefusal, IsSavedAs, IsState, IsTrue, IsUnfound, LacksFirst, length_in, length_read, List}
use Rattle.sim_top.proofs.Common.{ListRefused, LogRefused, match_in, MatchRefused, MayAnswer, MayFinish, NoFile, None, Ok, OnlyGave, Option, option_map, out_of}
use Rattle.sim_top.proofs.Common.{Outcome, outcome_made, OutOfMemory, printed, ReadFault, reads_file, ReadsState, refl, Result, Saved, session_match_in}
use Rattle.sim_top.proofs.Common.{session_text, Setup, Shelved, SightRefused, Some, State, StateRefused, Status, status_of, StepList, steps_in, Stop, Stopped}
use Rattle.sim_top.proofs.Common.{subst, sym, Then, ThenStored, to_session, to_try, TooLong, trial_match, trial_outcome, ℕ, ◌+◌, ◌∙◌, ◌≡◌}
use Rattle.sim_top.proofs.Counting.{content_causes, counted_after, gave_both, gave_on, none_given, nothing_given}
use Rattle.sim_top.proofs.Stopping.{state_ends, state_goes_on, Stopped-weaker, Then-ended, Then-read, Told, Told-both}
use Rattle.sim_top.specs.{declared.stop.Stop.TheVariants.NoSuchTurn, Making.IsFileAs, Reads.length_first, Words.{has_match, has_turn, loads_state, reads_list}}
use Rattle.sim_top.specs.declared.status.Status.TheVariants as status

-- ---- a command that has made its outcome

saved_as : (out : Option (List ℕ)) (saved : Option Saved) → IsFileAs out (option_map file_of saved) → IsSavedAs out saved
saved_as out None h = tt
saved_as None (Some saved) h = h
saved_as (Some out) (Some saved) h = h

finished : (saved : Option Saved) (status : Status) → IsFinished (option_map file_of saved) status → IsFinished saved status
finished None status.Done h = tt
finished None status.Differs h = tt
finished None other h = absurd h
finished (Some saved) status.Done h = tt
finished (Some saved) other h = absurd h

pub has_ended : {X : Type 0} (saved : Option X) (status : Status) → IsFinished saved status → HasEnded status
has_ended None status.Done h = tt
has_ended None status.Differs h = tt
has_ended None other h = absurd h
has_ended (Some saved) status.Done h = tt
has_ended (Some saved) other h = absurd h

gave_end : (files : List File) (asked : Asked) (status : Status) (old new : Counts) → HasEnded status → Gave (length_read files asked) old new
    → GaveFor files asked status old new
gave_end files asked status.Done old new ended h = h
gave_end files asked status.Differs old new ended h = h
gave_end files asked other old new ended h = absurd ended

-- what an answer says, by its parts
answered : (asked : Asked) (wanted : Outcome) (answer : Answer) (before now : Shelved) → outcome_made answer ≡ wanted → MayFinish asked wanted
    → IfSome before.held (λ files. IsOutcomeOf files (Some asked) wanted)
    → ((files : List File) → before.held ≡ Some files → LacksFirst files asked → ⊥) → OnlyGave before.counts now.counts
    → ((files : List File) → before.held ≡ Some files → Gave (length_read files asked) before.counts now.counts) → now.held ≡ before.held
    → IsAnswerTo asked (Ok answer) before now
answered asked wanted answer before now made finish is there gave given same =
    let same_status : answer.status ≡ wanted.status = ap (λ (o : Outcome). o.status) made in
    record {
      answers = Told (λ files. IsOutcomeOf files (Some asked) wanted) (λ files. IsOutcomeOf files (Some asked) (outcome_made answer)) before.held
          (λ files h. subst (IsOutcomeOf files (Some asked)) (sym made) h) is;
      saved = saved_as (out_of (Some asked)) answer.saved (subst (λ (o : Outcome). IsFileAs (out_of (Some asked)) o.saved) (sym made) finish.file);
      done = finished answer.saved answer.status (subst (λ (o : Outcome). IsFinished o.saved o.status) (sym made) finish.done);
      causes = gave;
      statuses = subst (MayAnswer asked) (sym same_status) finish.status;
      missing = λ files e lacks. there files e lacks;
      given = λ files e. gave_end files asked answer.status before.counts now.counts
          (subst HasEnded (sym same_status) (has_ended wanted.saved wanted.status finish.done)) (given files e);
      same = same;
    }

-- and of a command that found no memory for it
out_of_memory : (asked : Asked) (before now : Shelved) → ((files : List File) → before.held ≡ Some files → LacksFirst files asked → ⊥)
    → OnlyGave before.counts now.counts → now.held ≡ before.held
    → IsAnswerTo asked (Err OutOfMemory) before now
out_of_memory asked before now there gave same = record {
  answers = Told-any before.held;
  saved = tt;
  done = tt;
  causes = gave;
  statuses = tt;
  missing = λ files e lacks. there files e lacks;
  given = λ files e. tt;
  same = same;
}
  where
    Told-any : (held : Option (List File)) → IfSome held (λ files. Unit {0})
    Told-any None = tt
    Told-any (Some files) = tt

pub comes_to : (asked : Asked) (wanted : Outcome) (made : Result Answer Stop) (before now : Shelved) → IsMade wanted made → MayFinish asked wanted
    → IfSome before.held (λ files. IsOutcomeOf files (Some asked) wanted) → ((files : List File) → before.held ≡ Some files → LacksFirst files asked → ⊥)
    → OnlyGave before.counts now.counts
    → ((files : List File) → before.held ≡ Some files → Gave (length_read files asked) before.counts now.counts) → now.held ≡ before.held
    → IsAnswerTo asked made before now
comes_to asked wanted (Ok answer) before now m finish is there gave given same = answered asked wanted answer before now m.answers finish is there gave given
    same
comes_to asked wanted (Err stop) before now m finish is there gave given same =
    subst (λ (s : Stop). IsAnswerTo asked (Err s) before now) (sym m.stops) (out_of_memory asked before now there gave same)

-- the same where several outcomes may be wanted, and one of them is made
pub comes_to_one : (asked : Asked) (Wanted : Outcome → Type 0) (made : Result Answer Stop) (before now : Shelved) → IsMadeAs Wanted made
    → ((o : Outcome) → Wanted o → MayFinish asked o)
    → ((o : Outcome) → Wanted o → IfSome before.held (λ files. IsOutcomeOf files (Some asked) o))
    → ((files : List File) → before.held ≡ Some files → LacksFirst files asked → ⊥) → OnlyGave before.counts now.counts
    → ((files : List File) → before.held ≡ Some files → Gave (length_read files asked) before.counts now.counts) → now.held ≡ before.held
    → IsAnswerTo asked made before now
comes_to_one asked Wanted (Ok answer) before now m finish is there gave given same =
    answered asked (outcome_made answer) answer before now refl (finish (outcome_made answer) m.answers) (is (outcome_made answer) m.answers) there gave given
    same
comes_to_one asked Wanted (Err stop) before now m finish is there gave given same =
    subst (λ (s : Stop). IsAnswerTo asked (Err s) before now) (sym m.stops) (out_of_memory asked before now there gave same)

-- ---- a command that ends before

pub ends : (asked : Asked) (stop : Stop) (before now : Shelved) → IfSome before.held (λ files. Stopped stop (IsOutcomeOf files (Some asked)))
    → MayAnswer asked (status_of stop)
    → CountsBefore (status_of stop) before.counts now.counts → ((files : List File) → before.held ≡ Some files → LacksFirst files asked
    → IsUnfound (status_of stop))
    → ((files : List File) → before.held ≡ Some files → GaveFor files asked (status_of stop) before.counts now.counts) → now.held ≡ before.held
    → IsAnswerTo asked (Err stop) before now
ends asked stop before now is may causes missing given same =
    record { answers = is; saved = tt; done = tt; causes = causes; statuses = may; missing = missing; given = given; same = same }

may_match : (asked : Asked) (stop : Stop) → IsTrue (reads_file asked) → IsTrue (has_match asked) → IsOfMatch stop → MayAnswer asked (status_of stop)
may_match asked ReadFault reads has of = reads
may_match asked TooLong reads has of = reads
may_match asked NoFile reads has of = reads
may_match asked OutOfMemory reads has of = tt
may_match asked (MatchRefused code index) reads has of = has
may_match asked (StateRefused code name) reads has of = absurd of
may_match asked (ListRefused index) reads has of = absurd of
may_match asked (NoSuchTurn turn turns) reads has of = absurd of
may_match asked (SightRefused code) reads has of = absurd of
may_match asked (LogRefused line) reads has of = absurd of
may_match asked (EconomyRefused index) reads has of = absurd of

pub may_state : (asked : Asked) (stop : Stop) → IsTrue (reads_file asked) → IsTrue (loads_state asked) → IsOfState stop → MayAnswer asked (status_of stop)
may_state asked ReadFault reads loads of = reads
may_state asked TooLong reads loads of = reads
may_state asked NoFile reads loads of = reads
may_state asked OutOfMemory reads loads of = tt
may_state asked (MatchRefused code index) reads loads of = absurd of
may_state asked (StateRefused code name) reads loads of = loads
may_state asked (ListRefused index) reads loads of = absurd of
may_state asked (NoSuchTurn turn turns) reads loads of = absurd of
may_state asked (SightRefused code) reads loads of = absurd of
may_state asked (LogRefused line) reads loads of = absurd of
may_state asked (EconomyRefused index) reads loads of = absurd of

may_list : (asked : Asked) (stop : Stop) → IsTrue (reads_file asked) → IsTrue (reads_list asked) → IsOfList stop → MayAnswer asked (status_of stop)
may_list asked ReadFault reads lists of = reads
may_list asked TooLong reads lists of = reads
may_list asked NoFile reads lists of = reads
may_list asked OutOfMemory reads lists of = tt
may_list asked (MatchRefused code index) reads lists of = absurd of
may_list asked (StateRefused code name) reads lists of = absurd of
may_list asked (ListRefused index) reads lists of = lists
may_list asked (NoSuchTurn turn turns) reads lists of = absurd of
may_list asked (SightRefused code) reads lists of = absurd of
may_list asked (LogRefused line) reads lists of = absurd of
may_list asked (EconomyRefused index) reads lists of = absurd of

gave_match : (files : List File) (asked : Asked) (stop : Stop) (n : ℕ) (old new : Counts) → length_first files asked ≡ n → IsOfMatch stop
    → (IsRefusal stop → Gave n old new)
    → GaveFor files asked (status_of stop) old new
gave_match files asked ReadFault n old new is of h = tt
gave_match files asked TooLong n old new is of h = tt
gave_match files asked NoFile n old new is of h = tt
gave_match files asked OutOfMemory n old new is of h = tt
gave_match files asked (MatchRefused code index) n old new is of h = subst (λ (k : ℕ). Gave k old new) (sym is) (h tt)
gave_match files asked (StateRefused code name) n old new is of h = absurd of
gave_match files asked (ListRefused index) n old new is of h = absurd of
gave_match files asked (NoSuchTurn turn turns) n old new is of h = absurd of
gave_match files asked (SightRefused code) n old new is of h = absurd of
gave_match files asked (LogRefused line) n old new is of h = absurd of
gave_match files asked (EconomyRefused index) n old new is of h = absurd of

pub gave_state : (files : List File) (asked : Asked) (stop : Stop) (old new : Counts) → IsOfState stop → (IsRefusal stop → GaveToState files asked old new)
    → GaveFor files asked (status_of stop) old new
gave_state files asked ReadFault old new of h = tt
gave_state files asked TooLong old new of h = tt
gave_state files asked NoFile old new of h = tt
gave_state files asked OutOfMemory old new of h = tt
gave_state files asked (MatchRefused code index) old new of h = absurd of
gave_state files asked (StateRefused code name) old new of h = h tt
gave_state files asked (ListRefused index) old new of h = absurd of
gave_state files asked (NoSuchTurn turn turns) old new of h = absurd of
gave_state files asked (SightRefused code) old new of h = absurd of
gave_state files asked (LogRefused line) old new of h = absurd of
gave_state files asked (EconomyRefused index) old new of h = absurd of

gave_list : (files : List File) (asked : Asked) (stop : Stop) (old new : Counts) → IsOfList stop → (IsRefusal stop → Gave (length_read files asked) old new)
    → GaveFor files asked (status_of stop) old new
gave_list files asked ReadFault old new of h = tt
gave_list files asked TooLong old new of h = tt
gave_list files asked NoFile old new of h = tt
gave_list files asked OutOfMemory old new of h = tt
gave_list files asked (MatchRefused code index) old new of h = absurd of
gave_list files asked (StateRefused code name) old new of h = absurd of
gave_list files asked (ListRefused index) old new of h = h tt
gave_list files asked (NoSuchTurn turn turns) old new of h = absurd of
gave_list files asked (SightRefused code) old new of h = absurd of
gave_list files asked (LogRefused line) old new of h = absurd of
gave_list files asked (EconomyRefused index) old new of h = absurd of

-- ---- the file of a match is read first

-- of the files that the shelf tells
pub at_files : (held : Option (List File)) (files : List File) (P : List File → Type 0) → held ≡ Some files → IfSome held P → P files
at_files held files P e h = subst (λ (o : Option (List File)). IfSome o P) e h

-- this is asked of the match of this file
pub record Opens (asked : Asked) (name : List ℕ) (found : List File → Result Setup Outcome) : Type 0 where
  pub fails : (files : List File) (o : Outcome) → found files ≡ Err o → IsOutcomeOf files (Some asked) o
  pub first : (files : List File) → length_first files asked ≡ length_in files name
  pub lacks : (files : List File) → LacksFirst files asked → file_in files name ≡ None
  pub reads : IsTrue (reads_file asked)
  pub has : IsTrue (has_match asked)

-- it could not be read
pub match_ends : (asked : Asked) (name : List ℕ) (found : List File → Result Setup Outcome) (stop : Stop) (before now : Shelved) → Opens asked name found
    → IsOfMatch stop
    → IfSome before.held (λ files. Stopped stop (λ ended. found files ≡ Err ended)) → IsReading {X = Setup} name (Err stop) before now
    → IsAnswerTo asked (Err stop) before now
match_ends asked name found stop before now opens of told reading =
    ends asked stop before now
    (Told (λ files. Stopped stop (λ ended. found files ≡ Err ended)) (λ files. Stopped stop (IsOutcomeOf files (Some asked))) before.held
    (λ files h. Stopped-weaker stop (λ ended. found files ≡ Err ended) (IsOutcomeOf files (Some asked)) (opens.fails files) h) told)
    (may_match asked stop opens.reads opens.has of)
    reading.causes
    (λ files e lacks. reading.missing files e (opens.lacks files lacks))
    (λ files e. gave_match files asked stop (length_in files name) before.counts now.counts (opens.first files) of (reading.given files e))
    reading.same

-- it was read, so it is there
pub match_there : (asked : Asked) (name : List ℕ) (found : List File → Result Setup Outcome) (setup : Setup) (before now : Shelved) → Opens asked name found
    → IsReading name (Ok setup) before now
    → (files : List File) → before.held ≡ Some files → LacksFirst files asked → ⊥
match_there asked name found setup before now opens reading files e lacks = reading.missing files e (opens.lacks files lacks)

-- and the command goes on with it alone
pub match_goes_on : (asked : Asked) (name : List ℕ) (found : List File → Result Setup Outcome) (setup : Setup) (wanted : Outcome) (made : Result Answer Stop)
    (before now : Shelved) → Opens asked name found
    → IsReading name (Ok setup) before now → IfSome before.held (λ files. found files ≡ Ok setup)
    → ((files : List File) → found files ≡ Ok setup → IsOutcomeOf files (Some asked) wanted)
    → ((files : List File) → length_read files asked ≡ length_in files name) → IsMade wanted made → MayFinish asked wanted → IsAnswerTo asked made before now
match_goes_on asked name found setup wanted made before now opens reading told is all m finish =
    comes_to asked wanted made before now m finish
    (Told (λ files. found files ≡ Ok setup) (λ files. IsOutcomeOf files (Some asked) wanted) before.held is told)
    (match_there asked name found setup before now opens reading)
    reading.causes
    (λ files e. subst (λ (n : ℕ). Gave n before.counts now.counts) (sym (all files)) (reading.given files e))
    reading.same

-- the same where several outcomes may be wanted
pub match_goes_on_as : (asked : Asked) (name : List ℕ) (found : List File → Result Setup Outcome) (setup : Setup) (Wanted : Outcome → Type 0)
    (made : Result Answer Stop) (before now : Shelved) → Opens asked name found
    → IsReading name (Ok setup) before now → IfSome before.held (λ files. found files ≡ Ok setup)
    → ((files : List File) (o : Outcome) → found files ≡ Ok setup → Wanted o → IsOutcomeOf files (Some asked) o)
    → ((files : List File) → length_read files asked ≡ length_in files name) → IsMadeAs Wanted made → ((o : Outcome) → Wanted o → MayFinish asked o)
    → IsAnswerTo asked made before now
match_goes_on_as asked name found setup Wanted made before now opens reading told is all m finish =
    comes_to_one asked Wanted made before now m finish
    (λ o wanted. Told (λ files. found files ≡ Ok setup) (λ files. IsOutcomeOf files (Some asked) o) before.held (λ files e. is files o e wanted) told)
    (match_there asked name found setup before now opens reading)
    reading.causes
    (λ files e. subst (λ (n : ℕ). Gave n before.counts now.counts) (sym (all files)) (reading.given files e))
    reading.same

-- ---- and one or two more behind it

-- two readings, one after another
module _ {X Y : Type 0} (first second : List ℕ) (x : X) (found : Result Y Stop) (before middle now : Shelved) (one : IsReading first (Ok x) before middle)
    (two : IsReading second found middle now) where
  pub both_same : now.held ≡ before.held
  both_same = two.same ∙ one.same

  pub both_told : (P : List File → Type 0) → IfSome middle.held P → IfSome before.held P
  both_told P h = subst (λ (held : Option (List File)). IfSome held P) one.same h

  pub both_causes : CausesOf found before.counts now.counts
  both_causes = by found two.causes
    where
      by : (r : Result Y Stop) → CausesOf r middle.counts now.counts → CausesOf r before.counts now.counts
      by (Ok y) h = gave_on before.counts middle.counts now.counts one.causes h
      by (Err stop) h = counted_after stop before.counts middle.counts now.counts one.causes h

  pub both_given : (files : List File) → before.held ≡ Some files → GaveAll found (length_in files first + length_in files second) before.counts now.counts
  both_given files e = by found (two.given files (one.same ∙ e))
    where
      by : (r : Result Y Stop) → GaveAll r (length_in files second) middle.counts now.counts → GaveAll r (length_in files first + length_in files second)
          before.counts now.counts
      by (Ok y) h = gave_both (length_in files first) (length_in files second) before.counts middle.counts now.counts (one.given files e) h
      by (Err stop) h = λ refused. gave_both (length_in files first) (length_in files second) before.counts middle.counts now.counts (one.given files e)
          (h refused)

-- a list could not be read
pub list_ends_at : (asked : Asked) (stop : Stop) (before now : Shelved) → IsTrue (reads_file asked) → IsTrue (reads_list asked) → IsOfList stop
    → IfSome before.held (λ files. Stopped stop (IsOutcomeOf files (Some asked))) → CountsBefore (status_of stop) before.counts now.counts
    → ((files : List File) → before.held ≡ Some files → LacksFirst files asked → IsUnfound (status_of stop))
    → ((files : List File) → before.held ≡ Some files → IsRefusal stop → Gave (length_read files asked) before.counts now.counts) → now.held ≡ before.held
    → IsAnswerTo asked (Err stop) before now
list_ends_at asked stop before now reads lists of is causes missing given same =
    ends asked stop before now is (may_list asked stop reads lists of) causes missing
    (λ files e. gave_list files asked stop before.counts now.counts of (given files e)) same

-- the match has not the turn
pub turn_ends_at : (asked : Asked) (turn turns : ℕ) (before now : Shelved) → IsTrue (has_turn asked)
    → IfSome before.held (λ files. Stopped (NoSuchTurn turn turns) (IsOutcomeOf files (Some asked)))
    → OnlyGave before.counts now.counts → ((files : List File) → before.held ≡ Some files → LacksFirst files asked → ⊥)
    → ((files : List File) → before.held ≡ Some files → Gave (length_read files asked) before.counts now.counts) → now.held ≡ before.held
    → IsAnswerTo asked (Err (NoSuchTurn turn turns)) before now
turn_ends_at asked turn turns before now has is causes there given same =
    ends asked (NoSuchTurn turn turns) before now is has causes (λ files e lacks. absurd (there files e lacks)) given same

-- ---- a match and a stored state of it

module _ (asked : Asked) (game name : List ℕ) (next : List File → Setup → State → Outcome → Type 0) where
  -- what comes of the state of a file
  abbrev pub of_state : List File → Outcome → Type 0
  of_state files wanted = Then (match_in files game) (λ setup. Then (bytes_in files name) (λ bytes. ThenStored setup name bytes (next files setup))) wanted

  -- this is asked of both
  pub record Loads : Type 0 where
    pub opens : Opens asked game (λ files. match_in files game)
    pub is : (files : List File) (wanted : Outcome) → of_state files wanted → IsOutcomeOf files (Some asked) wanted
    pub loads : IsTrue (loads_state asked)

  module _ (loads : Loads) (setup : Setup) (before middle now : Shelved) (one : IsReading game (Ok setup) before middle)
      (told : IfSome before.held (λ files. match_in files game ≡ Ok setup)) where
    -- the state could not be read
    pub stored_ends : (stop : Stop) → IsOfState stop → IsReading {X = State} name (Err stop) middle now
        → IfSome middle.held (λ files. ReadsState (Err stop) setup name (bytes_in files name))
        → ((files : List File) → before.held ≡ Some files → IsRefusal stop → GaveToState files asked before.counts now.counts)
        → IsAnswerTo asked (Err stop) before now
    stored_ends stop of two stored given =
        ends asked stop before now
        (Told-both (λ files. match_in files game ≡ Ok setup) (λ files. ReadsState (Err stop) setup name (bytes_in files name))
        (λ files. Stopped stop (IsOutcomeOf files (Some asked))) before.held
        (λ files e h. Stopped-weaker stop (of_state files) (IsOutcomeOf files (Some asked)) (loads.is files)
        (state_ends stop setup name (match_in files game) (bytes_in files name) (next files) e h))
        told (both_told game name setup (Err stop) before middle now one two (λ files. ReadsState (Err stop) setup name (bytes_in files name)) stored))
        (may_state asked stop loads.opens.reads loads.loads of)
        (both_causes game name setup (Err stop) before middle now one two)
        (λ files e lacks. absurd (match_there asked game (λ files. match_in files game) setup before middle loads.opens one files e lacks))
        (λ files e. gave_state files asked stop before.counts now.counts of (given files e))
        (both_same game name setup (Err stop) before middle now one two)

    -- it was read, and the command goes on
    pub stored_goes_on : (state : State) (wanted : Outcome) (made : Result Answer Stop) → IsReading name (Ok state) middle now
        → IfSome middle.held (λ files. IsState setup (bytes_in files name) state)
        → ((files : List File) → next files setup state wanted) → ((files : List File) → length_read files asked ≡ length_in files game + length_in files name)
        → IsMade wanted made → MayFinish asked wanted → IsAnswerTo asked made before now
    stored_goes_on state wanted made two stored comes all m finish =
        comes_to asked wanted made before now m finish
        (Told-both (λ files. match_in files game ≡ Ok setup) (λ files. IsState setup (bytes_in files name) state)
        (λ files. IsOutcomeOf files (Some asked) wanted) before.held
        (λ files e h. loads.is files wanted (state_goes_on setup name state (match_in files game) (bytes_in files name) (next files) wanted e h (comes files)))
        told (both_told game name setup (Ok state) before middle now one two (λ files. IsState setup (bytes_in files name) state) stored))
        (match_there asked game (λ files. match_in files game) setup before middle loads.opens one)
        (both_causes game name setup (Ok state) before middle now one two)
        (λ files e. subst (λ (n : ℕ). Gave n before.counts now.counts) (sym (all files))
        (both_given game name setup (Ok state) before middle now one two files e))
        (both_same game name setup (Ok state) before middle now one two)

-- ---- a trial, which reads no file

module _ (seed units turns : ℕ) (shelf : Shelved) where
  abbrev of_trial : Setup → Outcome → Type 0
  of_trial setup wanted = wanted ≡ trial_outcome seed units turns setup

  told_all : (P : List File → Type 0) → ((files : List File) → P files) → IfSome shelf.held P
  told_all P f = by shelf.held
    where
      by : (held : Option (List File)) → IfSome held P
      by None = tt
      by (Some files) = f files

  -- its match was refused, or there was no memory
  pub trial_ends : (stop : Stop) → IsOfMatch stop → IsOfContent stop → Stopped stop (λ ended. trial_match seed units turns ≡ Err ended)
      → IsAnswerTo (to_try seed units turns) (Err stop) shelf shelf
  trial_ends stop of content told =
      ends (to_try seed units turns) stop shelf shelf
      (told_all (λ files. Stopped stop (IsOutcomeOf files (Some (to_try seed units turns))))
      (λ files. Stopped-weaker stop (λ ended. trial_match seed units turns ≡ Err ended) (IsOutcomeOf files (Some (to_try seed units turns)))
      (λ o e. Then-ended (trial_match seed units turns) of_trial o e) told))
      (by stop of content)
      (content_causes {X = Setup} (Err stop) shelf.counts shelf.counts content (nothing_given shelf.counts))
      (λ files e lacks. absurd lacks)
      (λ files e. gave_match files (to_try seed units turns) stop 0 shelf.counts shelf.counts refl of (λ refused. none_given shelf.counts))
      refl
    where
      by : (stop : Stop) → IsOfMatch stop → IsOfContent stop → MayAnswer (to_try seed units turns) (status_of stop)
      by ReadFault of content = absurd content
      by TooLong of content = absurd content
      by NoFile of content = absurd content
      by OutOfMemory of content = tt
      by (MatchRefused code index) of content = refl
      by (StateRefused code name) of content = absurd of
      by (ListRefused index) of content = absurd of
      by (NoSuchTurn turn turns) of content = absurd of
      by (SightRefused code) of content = absurd of
      by (LogRefused line) of content = absurd of
      by (EconomyRefused index) of content = absurd of

  -- it was played
  pub trial_goes_on : (setup : Setup) (made : Result Answer Stop) → trial_match seed units turns ≡ Ok setup → IsMade (trial_outcome seed units turns setup) made
      → IsAnswerTo (to_try seed units turns) made shelf shelf
  trial_goes_on setup made told m =
      comes_to (to_try seed units turns) (trial_outcome seed units turns setup) made shelf shelf m (record { status = tt; done = tt; file = tt })
      (told_all (λ files. IsOutcomeOf files (Some (to_try seed units turns)) (trial_outcome seed units turns setup))
      (λ files. Then-read (trial_match seed units turns) setup of_trial (trial_outcome seed units turns setup) told refl))
      (λ files e lacks. lacks) (nothing_given shelf.counts) (λ files e. none_given shelf.counts) refl

-- ---- a session, whose match and steps are read

module _ (game steps : List ℕ) where
  -- what comes of the steps
  abbrev of_steps : Setup → StepList → Outcome → Type 0
  of_steps setup list wanted = wanted ≡ printed status.Done (session_text setup list)

  abbrev stepped : List File → Setup → Outcome → Type 0
  stepped files setup wanted = Then (steps_in files steps setup.players) (of_steps setup) wanted

  pub session_opens : Opens (to_session game steps) game (λ files. session_match_in files game)
  session_opens = record {
    fails = λ files o e. Then-ended (session_match_in files game) (stepped files) o e;
    first = λ files. refl;
    lacks = λ files h. h;
    reads = refl;
    has = refl;
  }

  module _ (setup : Setup) (before middle now : Shelved) (one : IsReading game (Ok setup) before middle)
      (told : IfSome before.held (λ files. session_match_in files game ≡ Ok setup)) where
    -- the steps could not be read
    pub steps_end : (stop : Stop) → IsOfList stop → IsReading {X = StepList} steps (Err stop) middle now
        → IfSome middle.held (λ files. Stopped stop (λ ended. steps_in files steps setup.players ≡ Err ended))
        → IsAnswerTo (to_session game steps) (Err stop) before now
    steps_end stop of two listed =
        list_ends_at (to_session game steps) stop before now refl refl of
        (Told-both (λ files. session_match_in files game ≡ Ok setup) (λ files. Stopped stop (λ ended. steps_in files steps setup.players ≡ Err ended))
        (λ files. Stopped stop (IsOutcomeOf files (Some (to_session game steps)))) before.held
        (λ files e h. Stopped-weaker stop (λ ended. steps_in files steps setup.players ≡ Err ended) (IsOutcomeOf files (Some (to_session game steps)))
        (λ o ended. Then-read (session_match_in files game) setup (stepped files) o e
        (Then-ended (steps_in files steps setup.players) (of_steps setup) o ended)) h)
        told (both_told game steps setup (Err stop) before middle now one two (λ files. Stopped stop (λ ended. steps_in files steps setup.players ≡ Err ended))
        listed))
        (both_causes game steps setup (Err stop) before middle now one two)
        (λ files e lacks. absurd (match_there (to_session game steps) game (λ files. session_match_in files game) setup before middle session_opens one files e
        lacks))
        (λ files e. both_given game steps setup (Err stop) before middle now one two files e)
        (both_same game steps setup (Err stop) before middle now one two)

    -- they were read, and the session is run
    pub steps_go_on : (list : StepList) (made : Result Answer Stop) → IsReading steps (Ok list) middle now
        → IfSome middle.held (λ files. steps_in files steps setup.players ≡ Ok list)
        → IsMade (printed status.Done (session_text setup list)) made → IsAnswerTo (to_session game steps) made before now
    steps_go_on list made two listed m =
        comes_to (to_session game steps) (printed status.Done (session_text setup list)) made before now m (record { status = tt; done = tt; file = tt })
        (Told-both (λ files. session_match_in files game ≡ Ok setup) (λ files. steps_in files steps setup.players ≡ Ok list)
        (λ files. IsOutcomeOf files (Some (to_session game steps)) (printed status.Done (session_text setup list))) before.held
        (λ files e s. Then-read (session_match_in files game) setup (stepped files) (printed status.Done (session_text setup list)) e
        (Then-read (steps_in files steps setup.players) list (of_steps setup) (printed status.Done (session_text setup list)) s refl))
        told (both_told game steps setup (Ok list) before middle now one two (λ files. steps_in files steps setup.players ≡ Ok list) listed))
        (match_there (to_session game steps) game (λ files. session_match_in files game) setup before middle session_opens one)
        (both_causes game steps setup (Ok list) before middle now one two)
        (both_given game steps setup (Ok list) before middle now one two)
        (both_same game steps setup (Ok list) before middle now one two)
