-- Two stored states of a match, which are compared: the second is read where the first is a state.
use Rattle.sim_top.proofs.{Answering.{at_files, both_causes, both_given, both_told, comes_to, ends, gave_state, Loads, match_there, may_state}, Common.Answer}
use Rattle.sim_top.proofs.Common.{bytes_in, compare_by, difference_of, EconomyRefused, Err, File, Gave, GaveToState, HoldsState, IfOk, IfSome, IsAnswerTo}
use Rattle.sim_top.proofs.Common.{IsMade, IsOfState, IsOutcomeOf, IsReading, IsRefusal, IsRefused, IsState, LacksFirst, length, length_in, length_read, List}
use Rattle.sim_top.proofs.Common.{ListRefused, LogRefused, match_in, MatchRefused, MayFinish, NoFile, None, Ok, Option, Outcome, OutOfMemory, Place, ReadFault}
use Rattle.sim_top.proofs.Common.{ReadsState, refl, Result, Setup, Shelved, SightRefused, Some, State, StateRefused, Stop, Stopped, subst, sym, Then}
use Rattle.sim_top.proofs.{Common.{to_compare, TooLong, ℕ, ◌+◌, ◌∙◌, ◌≡◌}, Completeness.{after_reading, id_of_match, not_refused}, Counting.counted_after}
use Rattle.sim_top.proofs.{Counting.{gave_both, gave_on}, Stopping.{file_ends, file_goes_on, state_goes_on, Stopped-weaker, Then-ended, Told-all}}
use Rattle.sim_top.specs.{declared.stop.Stop.TheVariants.NoSuchTurn, Outcome.IsCompared}

-- what comes of the first state
abbrev pub with_second : List ℕ → List File → Setup → State → Outcome → Type 0
with_second right files setup state wanted = IsCompared setup right state (bytes_in files right) wanted

-- and of both
abbrev compared : State → State → Outcome → Type 0
compared state other wanted = wanted ≡ compare_by (difference_of state other)

pub loads : (game left right : List ℕ) → Loads (to_compare game left right) game left (with_second right)
loads game left right =
    record {
      opens = record {
        fails = λ files o e. Then-ended (match_in files game) _ o e;
        first = λ files. refl;
        lacks = λ files h. h;
        reads = refl;
        has = refl;
      };
      is = λ files wanted h. h;
      loads = refl;
    }

-- what it ends with
pub may_finish : (game left right : List ℕ) (place : Option Place) → MayFinish (to_compare game left right) (compare_by place)
may_finish game left right None = record { status = tt; done = tt; file = tt }
may_finish game left right (Some place) = record { status = refl; done = tt; file = tt }

-- a state that is refused is not held
unheld : (files : List File) (setup : Setup) (name : List ℕ) (stop : Stop) → length setup.id ≡ 16 → IsOfState stop → IsRefusal stop
    → ReadsState (Err stop) setup name (bytes_in files name) → HoldsState files setup name → ⊥
unheld files setup name ReadFault id of refused h holds = refused
unheld files setup name TooLong id of refused h holds = refused
unheld files setup name NoFile id of refused h holds = refused
unheld files setup name OutOfMemory id of refused h holds = refused
unheld files setup name (MatchRefused code index) id of refused h holds = of
unheld files setup name (ListRefused index) id of refused h holds = of
unheld files setup name (NoSuchTurn turn turns) id of refused h holds = of
unheld files setup name (SightRefused code) id of refused h holds = of
unheld files setup name (LogRefused line) id of refused h holds = of
unheld files setup name (EconomyRefused index) id of refused h holds = of
unheld files setup name (StateRefused code text) id of refused h holds =
    let is : IsRefused setup name holds.bytes _ = after_reading (bytes_in files name) holds.bytes (IsRefused setup name) _ holds.read h in
    not_refused setup holds.bytes holds.state is.fault id holds.stands is.stored

-- the first state is refused
pub gave_first : (game left right : List ℕ) (setup : Setup) (stop : Stop) (before middle now : Shelved) → IsReading game (Ok setup) before middle
    → IsReading {X = State} left (Err stop) middle now → IsOfState stop
    → IfSome before.held (λ files. match_in files game ≡ Ok setup) → IfSome middle.held (λ files. ReadsState (Err stop) setup left (bytes_in files left))
    → (files : List File) → before.held ≡ Some files → IsRefusal stop → GaveToState files (to_compare game left right) before.counts now.counts
gave_first game left right setup stop before middle now one two of told stored files e refused =
    let read : match_in files game ≡ Ok setup = at_files before.held files (λ files. match_in files game ≡ Ok setup) e told in
    let none : HoldsState files setup left → ⊥ =
    unheld files setup left stop (id_of_match files game setup read) of refused
    (at_files middle.held files (λ files. ReadsState (Err stop) setup left (bytes_in files left)) (one.same ∙ e) stored) in
    subst (λ (r : Result Setup Outcome). IfOk r
    (λ setup. (HoldsState files setup left → Gave (length_read files (to_compare game left right)) before.counts now.counts)
    × ((HoldsState files setup left → ⊥) → Gave (length_in files game + length_in files left) before.counts now.counts))) (sym read)
    (λ holds. absurd (none holds), λ lacks. both_given game left setup (Err stop) before middle now one two files e refused)

module _ (game left right : List ℕ) (setup : Setup) (state : State) (before first middle now : Shelved) (one : IsReading game (Ok setup) before first)
    (two : IsReading left (Ok state) first middle)
    (told : IfSome before.held (λ files. match_in files game ≡ Ok setup))
    (stored : IfSome first.held (λ files. IsState setup (bytes_in files left) state)) where
  is_there : (files : List File) → before.held ≡ Some files → LacksFirst files (to_compare game left right) → ⊥
  is_there = match_there (to_compare game left right) game (λ files. match_in files game) setup before first (loads game left right).opens one

  third_told : (P : List File → Type 0) → IfSome middle.held P → IfSome before.held P
  third_told P h = subst (λ (held : Option (List File)). IfSome held P) (two.same ∙ one.same) h

  -- the second state is refused
  pub second_ends : (stop : Stop) → IsOfState stop → IsReading {X = State} right (Err stop) middle now
      → IfSome middle.held (λ files. ReadsState (Err stop) setup right (bytes_in files right))
      → IsAnswerTo (to_compare game left right) (Err stop) before now
  second_ends stop of three read =
      ends (to_compare game left right) stop before now
      (Told-all (λ files. match_in files game ≡ Ok setup) (λ files. IsState setup (bytes_in files left) state)
      (λ files. ReadsState (Err stop) setup right (bytes_in files right))
      (λ files. Stopped stop (IsOutcomeOf files (Some (to_compare game left right)))) before.held
      (λ files e s h. Stopped-weaker stop (with_second right files setup state) (IsOutcomeOf files (Some (to_compare game left right)))
      (λ o is. state_goes_on setup left state (match_in files game) (bytes_in files left) (with_second right files) o e s is)
      (file_ends stop setup right (bytes_in files right) (compared state) h))
      told (both_told game left setup (Ok state) before first middle one two (λ files. IsState setup (bytes_in files left) state) stored)
      (third_told (λ files. ReadsState (Err stop) setup right (bytes_in files right)) read))
      (may_state (to_compare game left right) stop refl refl of)
      (counted_after stop before.counts middle.counts now.counts (both_causes game left setup (Ok state) before first middle one two) three.causes)
      (λ files e lacks. absurd (is_there files e lacks))
      (λ files e. gave_state files (to_compare game left right) stop before.counts now.counts of (gave files e))
      (three.same ∙ two.same ∙ one.same)
    where
      gave : (files : List File) → before.held ≡ Some files → IsRefusal stop → GaveToState files (to_compare game left right) before.counts now.counts
      gave files e refused =
          let found : match_in files game ≡ Ok setup = at_files before.held files (λ files. match_in files game ≡ Ok setup) e told in
          let is : IsState setup (bytes_in files left) state = at_files first.held files (λ files. IsState setup (bytes_in files left) state) (one.same ∙ e)
          stored in
          let holds : HoldsState files setup left = record { bytes = is.bytes; state = state; read = is.read; stands = is.stored } in
          let all = gave_both (length_in files game + length_in files left) (length_in files right) before.counts middle.counts now.counts
          (both_given game left setup (Ok state) before first middle one two files e) (three.given files (two.same ∙ one.same ∙ e) refused) in
          subst (λ (r : Result Setup Outcome). IfOk r
          (λ setup. (HoldsState files setup left → Gave (length_read files (to_compare game left right)) before.counts now.counts)
          × ((HoldsState files setup left → ⊥) → Gave (length_in files game + length_in files left) before.counts now.counts))) (sym found)
          (λ h. all, λ lacks. absurd (lacks holds))

  -- both were read
  pub second_goes_on : (other : State) (made : Result Answer Stop) → IsReading right (Ok other) middle now
      → IfSome middle.held (λ files. IsState setup (bytes_in files right) other)
      → IsMade (compare_by (difference_of state other)) made → IsAnswerTo (to_compare game left right) made before now
  second_goes_on other made three read m =
      comes_to (to_compare game left right) (compare_by (difference_of state other)) made before now m (may_finish game left right (difference_of state other))
      (Told-all (λ files. match_in files game ≡ Ok setup) (λ files. IsState setup (bytes_in files left) state)
      (λ files. IsState setup (bytes_in files right) other)
      (λ files. IsOutcomeOf files (Some (to_compare game left right)) (compare_by (difference_of state other))) before.held
      (λ files e s h. state_goes_on setup left state (match_in files game) (bytes_in files left) (with_second right files)
      (compare_by (difference_of state other)) e s
      (file_goes_on setup right other (bytes_in files right) (compared state) (compare_by (difference_of state other)) h refl))
      told (both_told game left setup (Ok state) before first middle one two (λ files. IsState setup (bytes_in files left) state) stored)
      (third_told (λ files. IsState setup (bytes_in files right) other) read))
      is_there
      (gave_on before.counts middle.counts now.counts (both_causes game left setup (Ok state) before first middle one two) three.causes)
      (λ files e. gave_both (length_in files game + length_in files left) (length_in files right) before.counts middle.counts now.counts
      (both_given game left setup (Ok state) before first middle one two files e) (three.given files (two.same ∙ one.same ∙ e)))
      (three.same ∙ two.same ∙ one.same)
