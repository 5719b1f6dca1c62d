-- What the shelf counted, file by file and over a whole command; and how many bytes a file had that was read.
use Rattle.sim_store.specs.declared.fault.StoreFault.TheVariants as store
use Rattle.sim_top.proofs.Common.{IfErr, IfSome, IsOfContent, IsReading, IsRefusal, IsUnfound, length, length_in, List, ListRefused, LogRefused, MatchRefused}
use Rattle.sim_top.proofs.Common.{NoFile, None, Ok, OnlyGave, Option, OutOfMemory, raised, ReadFault, reading_of, refl, Result, Shelved, SightRefused, Some}
use Rattle.sim_top.proofs.Common.{StateRefused, status_of, Stop, subst, sym, TooLong, true, ℕ, ◌+◌, ◌<◌, ◌∙◌, ◌≡◌, ◌≤◌}
use Rattle.sim_top.proofs.Common.{ap, arith, Bool, bytes_by, bytes_in, CausesOf, cond, Counts, CountsBefore, EconomyRefused, Err, false, File, file_in, GaveAll}
use Rattle.sim_top.specs.{Commands.HasParsed, Commands.HasRead, Reads.GaveThenFailed, Reads.GaveThenMissed, Reads.length_of, Stops.ReadsCounting}
use Rattle.{sim_base.specs.Limits.file_limit, sim_store.specs.Shelf.after_giving, sim_store.specs.Shelf.after_miss, std.specs.Prelude.nat_le}
use Rattle.{sim_store.proofs.Given.after_giving-after_giving, sim_store.specs.Shelf.after_read_fault, sim_top.specs.declared.stop.Stop.TheVariants.NoSuchTurn}

pub gave : (n : ℕ) (old new : Counts) → new ≡ after_giving n old → OnlyGave old new
gave n old new is =
    let given : new.given ≡ raised n old.given = ap (λ (c : Counts). c.given) is in
    (omega (arith, given), is ∙ ap (λ (k : ℕ). record old { given = k }) (sym given))

gave_then_failed : (n : ℕ) (old new : Counts) → new ≡ after_read_fault (after_giving n old) → GaveThenFailed old new
gave_then_failed n old new is =
    let given : new.given ≡ raised n old.given = ap (λ (c : Counts). c.given) is in
    (omega (arith, given), is ∙ ap (λ (k : ℕ). after_read_fault (record old { given = k })) (sym given))

missed : (old new : Counts) → new ≡ after_miss old → GaveThenMissed old new
missed old new is =
    let given : new.given ≡ old.given = ap (λ (c : Counts). c.given) is in
    (omega (arith, given), is ∙ ap (λ (k : ℕ). after_miss (record old { given = k })) (sym given))

rose_past : (n : ℕ) (old new : Counts) → file_limit < n → new ≡ after_giving n old → raised (file_limit + 1) old.given ≤ new.given
rose_past n old new past is =
    let given : new.given ≡ raised n old.given = ap (λ (c : Counts). c.given) is in
    omega (arith, given, past)

-- a command that ends at a file has counted what its status says
pub counted : (stop : Stop) (old new : Counts) → ReadsCounting (Err stop) old new → CountsBefore (status_of stop) old new
counted ReadFault old new h = gave_then_failed h.0 old new h.2
counted TooLong old new h = (gave h.0 old new h.3, rose_past h.0 old new h.1 h.3)
counted NoFile old new h = missed old new h
counted OutOfMemory old new h = gave h.0 old new h.2
counted (MatchRefused code index) old new h = absurd h
counted (StateRefused code name) old new h = absurd h
counted (ListRefused index) old new h = absurd h
counted (NoSuchTurn asked turns) old new h = absurd h
counted (SightRefused code) old new h = absurd h
counted (LogRefused line) old new h = absurd h
counted (EconomyRefused index) old new h = absurd h

-- two files, one after another
pub gave_both : (a b : ℕ) (old middle new : Counts) → middle ≡ after_giving a old → new ≡ after_giving b middle → new ≡ after_giving (a + b) old
gave_both a b old middle new first second = second ∙ ap (after_giving b) first ∙ after_giving-after_giving a b old

-- the bytes that were read are those that are held
pub length_of_read : (files : List File) (name bytes : List ℕ) → bytes_in files name ≡ Ok bytes → length bytes ≡ length_in files name
unfolding bytes_in
length_of_read files name bytes read = of_held (file_in files name) read
  where
    of_held : (held : Option (List ℕ)) → bytes_by (reading_of held) ≡ Ok bytes → length bytes ≡ length_of held
    of_held None e = cc
    of_held (Some held) e = by (nat_le (length held) file_limit) e
      where
        by : (b : Bool) → bytes_by (cond b (Ok held) (Err store.TooLong)) ≡ Ok bytes → length bytes ≡ length held
        by true e = ap length (cc)
        by false e = cc

-- ---- a command that goes on behind what it read

-- what is counted behind bytes that were given
pub counted_after : (stop : Stop) (old middle new : Counts) → OnlyGave old middle → CountsBefore (status_of stop) middle new
    → CountsBefore (status_of stop) old new
counted_after stop old middle new first second = by stop second
  where
    same : (n : ℕ) → record middle { given = n } ≡ record old { given = n }
    same n = ap (λ (c : Counts). record c { given = n }) first.1

    only : OnlyGave middle new → OnlyGave old new
    only h = (omega (arith, first.0, h.0), h.1 ∙ same new.given)

    past : raised (file_limit + 1) middle.given ≤ new.given → raised (file_limit + 1) old.given ≤ new.given
    past h = omega (arith, first.0, h)

    by : (stop : Stop) → CountsBefore (status_of stop) middle new → CountsBefore (status_of stop) old new
    by ReadFault h = (omega (arith, first.0, h.0), h.1 ∙ ap after_read_fault (same new.given))
    by TooLong h = (only h.0, past h.1)
    by NoFile h = (omega (arith, first.0, h.0), h.1 ∙ ap after_miss (same new.given))
    by OutOfMemory h = only h
    by (MatchRefused code index) h = only h
    by (StateRefused code name) h = only h
    by (ListRefused index) h = only h
    by (NoSuchTurn turn turns) h = only h
    by (SightRefused code) h = only h
    by (LogRefused line) h = only h
    by (EconomyRefused index) h = only h

pub gave_on : (old middle new : Counts) → OnlyGave old middle → OnlyGave middle new → OnlyGave old new
gave_on old middle new first second = counted_after OutOfMemory old middle new first second

-- where nothing was read, nothing was counted
pub nothing_given : (counts : Counts) → OnlyGave counts counts
nothing_given counts = (omega arith, refl)

pub none_given : (counts : Counts) → counts ≡ after_giving 0 counts
none_given counts = ap (λ (n : ℕ). record counts { given = n }) (by counts.given)
  where
    by : (n : ℕ) → n ≡ raised 0 n
    by n = omega arith

-- what a file says is no fault of the shelf
pub content_causes : {X : Type 0} (r : Result X Stop) (old new : Counts) → IfErr r IsOfContent → OnlyGave old new → CausesOf r old new
content_causes (Ok x) old new content gave = gave
content_causes (Err ReadFault) old new content gave = absurd content
content_causes (Err TooLong) old new content gave = absurd content
content_causes (Err NoFile) old new content gave = absurd content
content_causes (Err OutOfMemory) old new content gave = gave
content_causes (Err (MatchRefused code index)) old new content gave = gave
content_causes (Err (StateRefused code name)) old new content gave = gave
content_causes (Err (ListRefused index)) old new content gave = gave
content_causes (Err (NoSuchTurn turn turns)) old new content gave = gave
content_causes (Err (SightRefused code)) old new content gave = gave
content_causes (Err (LogRefused line)) old new content gave = gave
content_causes (Err (EconomyRefused index)) old new content gave = gave

-- ---- a file is read

-- what holds where a file is not read to its end
pub counted_is : (P : Stop → Type 0) → P ReadFault → P TooLong → P NoFile → P OutOfMemory → (stop : Stop) (old new : Counts) → ReadsCounting (Err stop) old new
    → P stop
counted_is P fault long none memory ReadFault old new h = fault
counted_is P fault long none memory TooLong old new h = long
counted_is P fault long none memory NoFile old new h = none
counted_is P fault long none memory OutOfMemory old new h = memory
counted_is P fault long none memory (MatchRefused code index) old new h = absurd h
counted_is P fault long none memory (StateRefused code name) old new h = absurd h
counted_is P fault long none memory (ListRefused index) old new h = absurd h
counted_is P fault long none memory (NoSuchTurn turn turns) old new h = absurd h
counted_is P fault long none memory (SightRefused code) old new h = absurd h
counted_is P fault long none memory (LogRefused line) old new h = absurd h
counted_is P fault long none memory (EconomyRefused index) old new h = absurd h

-- it is not read to its end
pub unread : {X : Type 0} (name : List ℕ) (stop : Stop) (before now : Shelved) → ReadsCounting (Err stop) before.counts now.counts
    → ((files : List File) → before.held ≡ Some files → file_in files name ≡ None → IsUnfound (status_of stop)) → now.held ≡ before.held
    → IsReading {X = X} name (Err stop) before now
unread name stop before now counts missing same =
    record {
      missing = missing;
      causes = counted stop before.counts now.counts counts;
      given = λ files is refused. absurd (counted_is (λ s. IsRefusal s → ⊥) (λ h. h) (λ h. h) (λ h. h) (λ h. h) stop before.counts now.counts counts refused);
      same = same;
    }

-- of a file that the shelf tells just its bytes were given
gave_file : (held : Option (List File)) (files : List File) (name bytes : List ℕ) (old new : Counts) → held ≡ Some files
    → IfSome held (λ fs. bytes_in fs name ≡ Ok bytes)
    → new ≡ after_giving (length bytes) old → new ≡ after_giving (length_in files name) old
gave_file held files name bytes old new is told given =
    let read : bytes_in files name ≡ Ok bytes = subst (λ (h : Option (List File)). IfSome h (λ fs. bytes_in fs name ≡ Ok bytes)) is told in
    given ∙ ap (λ (n : ℕ). after_giving n old) (length_of_read files name bytes read)

gave_all : {X : Type 0} (found : Result X Stop) (n : ℕ) (old new : Counts) → new ≡ after_giving n old → GaveAll found n old new
gave_all (Ok x) n old new h = h
gave_all (Err stop) n old new h = λ refused. h

-- its bytes were read, whatever they say
pub was_read : {X : Type 0} (name bytes : List ℕ) (found : Result X Stop) (before now : Shelved) → IfErr found IsOfContent
    → now.counts ≡ after_giving (length bytes) before.counts
    → IfSome before.held (λ files. bytes_in files name ≡ Ok bytes) → ((files : List File) → before.held ≡ Some files → file_in files name ≡ None → ⊥)
    → now.held ≡ before.held → IsReading name found before now
was_read name bytes found before now content counts told there same =
    record {
      missing = λ files is none. absurd (there files is none);
      causes = content_causes found before.counts now.counts content (gave (length bytes) before.counts now.counts counts);
      given = λ files is. gave_all found (length_in files name) before.counts now.counts
          (gave_file before.held files name bytes before.counts now.counts is told counts);
      same = same;
    }

-- the same two, with what is good of what is read and why a command ends
module _ {X : Type 0} (IsGood : X → Type 0) (IsOf : Stop → Type 0) where
  pub not_read : IsOf ReadFault → IsOf TooLong → IsOf NoFile → IsOf OutOfMemory → (name : List ℕ) (stop : Stop) (before now : Shelved)
      → ReadsCounting (Err stop) before.counts now.counts
      → ((files : List File) → before.held ≡ Some files → file_in files name ≡ None → IsUnfound (status_of stop)) → now.held ≡ before.held
      → HasRead (Err stop) IsGood IsOf name before now
  not_read fault long none memory name stop before now counts missing same = record {
    good = tt;
    stops = counted_is IsOf fault long none memory stop before.counts now.counts counts;
    reading = unread name stop before now counts missing same;
  }

  pub has_read : (name bytes : List ℕ) (found : Result X Stop) (before now : Shelved) → HasParsed found IsGood IsOf
      → now.counts ≡ after_giving (length bytes) before.counts
      → IfSome before.held (λ files. bytes_in files name ≡ Ok bytes) → ((files : List File) → before.held ≡ Some files → file_in files name ≡ None → ⊥)
      → now.held ≡ before.held → HasRead found IsGood IsOf name before now
  has_read name bytes found before now parsed counts told there same = record {
    good = parsed.good;
    stops = parsed.stops;
    reading = was_read name bytes found before now parsed.content counts told there same;
  }
