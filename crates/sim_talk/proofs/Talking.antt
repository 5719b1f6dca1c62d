-- What passed, and then what passed behind it; and one line more is answered behind those that were.
use Rattle.sim_talk.specs.declared.fault.TalkFault.TheVariants as ends
use Rattle.{sim_store.specs.{declared.fault.Failed.Failed, Shelf.{raised, Rose}}, sim_talk.specs.declared.fault.{HearFault.HearFault, TalkFault.TalkFault}}
use Rattle.sim_talk.specs.Dialogues.{after_lines, amid_answer, answer_part, AnswersLines, before_line, Causes, Converses, dialogue, EndsAs, first_part, IsAll}
use Rattle.sim_talk.specs.Dialogues.{IsCutOff, IsUntold, last_part, no_answer, no_first, no_last, no_line, Speaks, talk_so_far, TellsText}
use Rattle.sim_talk.specs.{Lines.{feed, IsCause, MissesOf, ReadCounts}, LineTalk.{piped, TellCounts, TellsOut}, Talks.{Extends, Grows, HasLost, heard}}
use Rattle.sim_talk.specs.Talks.{heard_bytes, Hears, History, IsBeginning, Loses, Misses, part_of, Passed, Says, Tells, told, told_bytes, Writes, WritesAll}
use Rattle.std.proofs.Common.{ap, append-nil, append_assoc, arith, Err, inl, inr, length, List, None, Ok, Option, refl, Result, Some, subst, sym, take, ℕ, []}
use Rattle.std.proofs.{Common.{◌++◌, ◌-◌, ◌<◌, ◌^◌, ◌∙◌, ◌∷◌, ◌≡◌}, Math.Seq.{take-length, take-nil}}
use Rattle.std.specs.{Io.KnownBytes.{Appends, Consumes, IsAtEnd, prepend_known}, Prelude.⊤}

-- ---- the parts of a history

pub Grows-trans : (a b c : Option (List Passed)) (xs ys : List Passed) → Grows a b xs → Grows b c ys → Grows a c (xs ++ ys)
Grows-trans None b c xs ys one two = tt
Grows-trans (Some a) None c xs ys one two = absurd one
Grows-trans (Some a) (Some b) None xs ys one two = absurd two
Grows-trans (Some a) (Some b) (Some c) xs ys one two = two ∙ ap (λ (l : List Passed). l ++ ys) one ∙ append_assoc a xs ys

pub Grows-nothing : (a : Option (List Passed)) → Grows a a []
Grows-nothing None = tt
Grows-nothing (Some a) = sym (append-nil a)

pub Consumes-trans : (a b c : Option (List ℕ)) (xs ys : List ℕ) → Consumes a b xs → Consumes b c ys → Consumes a c (xs ++ ys)
Consumes-trans None b c xs ys one two = tt
Consumes-trans (Some a) None c xs ys one two = absurd one
Consumes-trans (Some a) (Some b) None xs ys one two = absurd two
Consumes-trans (Some a) (Some b) (Some c) xs ys one two = one ∙ ap (λ (l : List ℕ). xs ++ l) two ∙ sym (append_assoc xs ys c)

pub Consumes-nothing : (a : Option (List ℕ)) → Consumes a a []
Consumes-nothing None = tt
Consumes-nothing (Some a) = refl

pub Appends-trans : (a b c : Option (List ℕ)) (xs ys : List ℕ) → Appends a b xs → Appends b c ys → Appends a c (xs ++ ys)
Appends-trans None b c xs ys one two = tt
Appends-trans (Some a) None c xs ys one two = absurd one
Appends-trans (Some a) (Some b) None xs ys one two = absurd two
Appends-trans (Some a) (Some b) (Some c) xs ys one two = two ∙ ap (λ (l : List ℕ). l ++ ys) one ∙ append_assoc a xs ys

pub Appends-nothing : (a b : Option (List ℕ)) → b ≡ a → Appends a b []
Appends-nothing a b same = subst (λ (o : Option (List ℕ)). Appends a o []) (sym same) (kept a)
  where
    kept : (o : Option (List ℕ)) → Appends o o []
    kept None = tt
    kept (Some bytes) = sym (append-nil bytes)

-- these bytes were told, and then those
Says-trans : (a b c : History) (xs ys : List ℕ) → Says xs a b → Says ys b c → Says (xs ++ ys) a c
Says-trans a b c xs ys one two = record {
  now = one.now ++ two.now;
  written = Appends-trans a.written b.written c.written one.now two.now one.written two.written;
  rest = sym (append_assoc a.kept xs ys) ∙ ap (λ (l : List ℕ). l ++ ys) one.rest ∙ append_assoc one.now b.kept ys
      ∙ ap (λ (l : List ℕ). one.now ++ l) two.rest ∙ sym (append_assoc one.now two.now c.kept);
}

pub Says-nothing : (a b : History) → b.written ≡ a.written → b.kept ≡ a.kept → Says [] a b
Says-nothing a b same kept = record {
  now = [];
  written = Appends-nothing a.written b.written same;
  rest = append-nil a.kept ∙ sym kept;
}

-- ---- their bytes

heard_bytes-append : (xs ys : List Passed) → heard_bytes (xs ++ ys) ≡ heard_bytes xs ++ heard_bytes ys
heard_bytes-append [] ys = refl
heard_bytes-append (heard line ∷ xs) ys =
    ap (λ (l : List ℕ). (line ++ feed) ++ l) (heard_bytes-append xs ys) ∙ sym (append_assoc (line ++ feed) (heard_bytes xs) (heard_bytes ys))
heard_bytes-append (told text ∷ xs) ys = heard_bytes-append xs ys

told_bytes-append : (xs ys : List Passed) → told_bytes (xs ++ ys) ≡ told_bytes xs ++ told_bytes ys
told_bytes-append [] ys = refl
told_bytes-append (heard line ∷ xs) ys = told_bytes-append xs ys
told_bytes-append (told text ∷ xs) ys =
    ap (λ (l : List ℕ). text ++ l) (told_bytes-append xs ys) ∙ sym (append_assoc text (told_bytes xs) (told_bytes ys))

-- ---- what passed, and then what passed behind it

pub Extends-trans : (a b c : History) (xs ys : List Passed) → Extends a b xs → Extends b c ys → Extends a c (xs ++ ys)
Extends-trans a b c xs ys one two = record {
  passed = Grows-trans a.passed b.passed c.passed xs ys one.passed two.passed;
  taken = subst (Consumes a.coming c.coming) (sym (heard_bytes-append xs ys))
      (Consumes-trans a.coming b.coming c.coming (heard_bytes xs) (heard_bytes ys) one.taken two.taken);
  written = subst (λ (l : List ℕ). Says l a c) (sym (told_bytes-append xs ys)) (Says-trans a b c (told_bytes xs) (told_bytes ys) one.written two.written);
  longest = two.longest ∙ one.longest;
  read = two.read ∙ one.read;
  wrote = two.wrote ∙ one.wrote;
}

-- nothing passed
pub Extends-nothing : (a : History) → Extends a a []
Extends-nothing a = record {
  passed = Grows-nothing a.passed;
  taken = Consumes-nothing a.coming;
  written = Says-nothing a a refl refl;
  longest = refl;
  read = refl;
  wrote = refl;
}

-- ---- what was kept is written

-- nothing passed then
pub Writes-nothing : (a b : History) → WritesAll a b → Extends a b []
Writes-nothing a b wrote = record {
  passed = subst (λ (o : Option (List Passed)). Grows a.passed o []) (sym wrote.passed) (Grows-nothing a.passed);
  taken = subst (λ (o : Option (List ℕ)). Consumes a.coming o []) (sym wrote.coming) (Consumes-nothing a.coming);
  written = record { now = a.kept; written = wrote.written; rest = ap (λ (l : List ℕ). a.kept ++ l) (sym wrote.kept) };
  longest = wrote.longest;
  read = wrote.read;
  wrote = wrote.wrote;
}

-- what passed before it did
pub Extends-written : (a b c : History) (xs : List Passed) → Extends a b xs → WritesAll b c → Extends a c xs
Extends-written a b c xs one wrote = subst (Extends a c) (append-nil xs) (Extends-trans a b c xs [] one (Writes-nothing b c wrote))

-- and what passes behind it does
pub written-Extends : (a b c : History) (xs : List Passed) → WritesAll a b → Extends b c xs → Extends a c xs
written-Extends a b c xs wrote two = Extends-trans a b c [] xs (Writes-nothing a b wrote) two

-- a line was not heard before it
Misses-written : (fault : HearFault) (a b c : History) → Misses fault a b → WritesAll b c → Misses fault a c
Misses-written fault a b c missed wrote = record {
  passed = subst (λ (o : Option (List Passed)). Grows a.passed o []) (sym wrote.passed) missed.passed;
  cause = subst (λ (o : Option (List ℕ)). IsCause a.longest fault a.coming o) (sym wrote.coming) missed.cause;
  written = Says-trans a b c [] [] missed.written (Writes-nothing b c wrote).written;
  read = subst (ReadCounts (Err fault) a.unread) (sym wrote.read) missed.read;
  wrote = wrote.wrote ∙ missed.wrote;
}

-- or behind it
pub written-Misses : (fault : HearFault) (a b c : History) → WritesAll a b → Misses fault b c → Misses fault a c
written-Misses fault a b c wrote missed = record {
  passed = subst (λ (o : Option (List Passed)). Grows o c.passed []) wrote.passed missed.passed;
  cause = subst (λ (n : ℕ). IsCause n fault a.coming c.coming) wrote.longest
      (subst (λ (o : Option (List ℕ)). IsCause b.longest fault o c.coming) wrote.coming missed.cause);
  written = Says-trans a b c [] [] (Writes-nothing a b wrote).written missed.written;
  read = subst (λ (n : ℕ). ReadCounts (Err fault) n c.unread) wrote.read missed.read;
  wrote = missed.wrote ∙ wrote.wrote;
}

-- where nothing is kept any more, no bytes follow
Writes-trans : (a b c : History) (xs ys : List ℕ) (failed failed' : ℕ) → Writes xs failed a b → Writes ys failed' b c → ys ≡ [] → Writes xs failed' a c
Writes-trans a b c xs ys failed failed' one two none = record {
  passed = two.passed ∙ one.passed;
  coming = two.coming ∙ one.coming;
  written = subst (Appends a.written c.written) (ap (λ (l : List ℕ). xs ++ l) none ∙ append-nil xs)
      (Appends-trans a.written b.written c.written xs ys one.written two.written);
  kept = two.kept;
  longest = two.longest ∙ one.longest;
  read = two.read ∙ one.read;
  wrote = two.wrote;
}

-- a count that was raised rose, and has risen where it is raised again
rose_once : (count count' : ℕ) → count' ≡ raised 1 count → Rose count count'
rose_once count count' is = omega (arith, is)

rose_on : (count count' count'' : ℕ) → Rose count count' → count'' ≡ raised 1 count' → Rose count count''
rose_on count count' count'' rose is = omega (arith, rose, is)

-- a write that failed once has failed
pub has_lost : (a b : History) → Loses a b → HasLost a b
has_lost a b lost = (
  lost.0,
  rose_once a.unwritten b.unwritten lost.1.wrote,
  subst (λ (n : ℕ). Writes (take lost.0 a.kept) n a b) (sym lost.1.wrote) lost.1,
)

-- what is lost stays so
lost_written : (a b c : History) → HasLost a b → WritesAll b c → HasLost a c
lost_written a b c lost wrote = (
  lost.0,
  subst (Rose a.unwritten) (sym wrote.wrote) lost.1,
  subst (λ (n : ℕ). Writes (take lost.0 a.kept) n a c) (sym wrote.wrote)
      (Writes-trans a b c (take lost.0 a.kept) b.kept b.unwritten b.unwritten lost.2 wrote lost.2.kept),
)

lost_again : (a b c : History) → HasLost a b → Loses b c → HasLost a c
lost_again a b c lost more =
    let none : take more.0 b.kept ≡ [] = ap (λ (l : List ℕ). take more.0 l) lost.2.kept ∙ take-nil more.0 in (
      lost.0,
      rose_on a.unwritten b.unwritten c.unwritten lost.1 more.1.wrote,
      subst (λ (n : ℕ). Writes (take lost.0 a.kept) n a c) (sym more.1.wrote)
          (Writes-trans a b c (take lost.0 a.kept) (take more.0 b.kept) b.unwritten (raised 1 b.unwritten) lost.2 more.1 none),
    )

-- ---- one line more

-- what he has come to after one line more
pub after_lines-more : {S : Type 0} (next : S → List ℕ → S) (s : S) (lines : List (List ℕ)) (line : List ℕ) → after_lines next s (lines ++ line ∷ []) ≡ next
    (after_lines next s lines) line
after_lines-more next s [] line = refl
after_lines-more next s (l ∷ ls) line = after_lines-more next (next s l) ls line

-- and what passed by then
pub dialogue-more : {S : Type 0} (answer : S → List ℕ → List ℕ) (next : S → List ℕ → S) (s : S) (lines : List (List ℕ)) (line : List ℕ)
    → dialogue answer next s (lines ++ line ∷ []) ≡ dialogue answer next s lines ++ heard line ∷ told (answer (after_lines next s lines) line) ∷ []
dialogue-more answer next s [] line = refl
dialogue-more answer next s (l ∷ ls) line = ap (λ (xs : List Passed). heard l ∷ told (answer s l) ∷ xs) (dialogue-more answer next (next s l) ls line)

-- one line more was heard and answered
pub answered_more : {S : Type 0} (answer : S → List ℕ → List ℕ) (next : S → List ℕ → S) (s : S) (lines : List (List ℕ)) (line text : List ℕ)
    (a b c d : History)
    → text ≡ answer (after_lines next s lines) line → Extends a b (dialogue answer next s lines) → Extends b c (heard line ∷ []) → Extends c d (told text ∷ [])
    → Extends a d (dialogue answer next s (lines ++ line ∷ []))
answered_more answer next s lines line text a b c d is were one two =
    subst (Extends a d) (ap (λ (t : List ℕ). dialogue answer next s lines ++ heard line ∷ told t ∷ []) is ∙ sym (dialogue-more answer next s lines line))
    (Extends-trans a b d (dialogue answer next s lines) (heard line ∷ told text ∷ []) were (Extends-trans b c d (heard line ∷ []) (told text ∷ []) one two))

-- ---- where it stops behind some lines

-- memory was refused for an answer
pub unmade_answer : {S : Type 0} (answer : S → List ℕ → List ℕ) (next : S → List ℕ → S) (s : S) (lines : List (List ℕ)) (line : List ℕ) (a b c : History)
    → Extends a b (dialogue answer next s lines) → Extends b c (heard line ∷ []) → AnswersLines (Err ends.OutOfMemory) answer next s lines a c
unmade_answer answer next s lines line a b c were one = (line, Extends-trans a b c (dialogue answer next s lines) (heard line ∷ []) were one)

-- an answer was not told whole, or not written
pub untold_answer : {S : Type 0} (answer : S → List ℕ → List ℕ) (next : S → List ℕ → S) (s : S) (lines : List (List ℕ)) (line text : List ℕ)
    (failed : Failed) (a b c d : History)
    → text ≡ answer (after_lines next s lines) line → Extends a b (dialogue answer next s lines) → Extends b c (heard line ∷ [])
    → Tells (Err failed) text c d → AnswersLines (Err ends.Untold) answer next s lines a d
untold_answer answer next s lines line text failed a b c d same were one part = (
  heard line ∷ part.0,
  amid_answer line part.0 (subst (λ (t : List ℕ). IsBeginning t part.0) same part.1),
  (
    part.2.0,
    Extends-trans a b part.2.0 (dialogue answer next s lines) (heard line ∷ part.0) were (Extends-trans b c part.2.0 (heard line ∷ []) part.0 one part.2.1),
    part.2.2,
  ),
)

-- no line was heard behind them: not for a fault of hearing, or since what was told before could not be written
pub unheard_behind : {S : Type 0} (answer : S → List ℕ → List ℕ) (next : S → List ℕ → S) (s : S) (lines : List (List ℕ)) (fault : TalkFault)
    (line : List ℕ) (a b c : History)
    → Extends a b (dialogue answer next s lines) → Hears (Err fault) line b c → AnswersLines (Err fault) answer next s lines a c
unheard_behind answer next s lines (ends.Unheard cause) line a b c were missed = (b, were, missed)
unheard_behind answer next s lines ends.Untold line a b c were lost =
    ([], before_line, (b, subst (Extends a b) (sym (append-nil (dialogue answer next s lines))) were, lost))
unheard_behind answer next s lines ends.OutOfMemory line a b c were never = absurd never

-- the input has come to its end
pub answered_all : {S : Type 0} (answer : S → List ℕ → List ℕ) (next : S → List ℕ → S) (s : S) (lines : List (List ℕ)) (done : ⊤) (a b c : History)
    → Extends a b (dialogue answer next s lines) → Extends b c [] → IsAtEnd c.coming → AnswersLines (Ok done) answer next s lines a c
answered_all answer next s lines done a b c were none end =
    (subst (Extends a c) (append-nil (dialogue answer next s lines)) (Extends-trans a b c (dialogue answer next s lines) [] were none), λ few. end)

-- ---- a whole talk of its parts

-- memory was refused before anything was told
pub unbegun : {S : Type 0} (answer : S → List ℕ → List ℕ) (next : S → List ℕ → S) (last : S → List ℕ) (s : S) (first : List ℕ) (result : Result ⊤ TalkFault)
    (a : History) → result ≡ Err ends.OutOfMemory → Converses result answer next last s first a a
unbegun answer next last s first result a is =
    subst (λ (r : Result ⊤ TalkFault). Converses r answer next last s first a a) (sym is) ([], no_first, Extends-nothing a)

-- it stopped at its first text
pub stopped_first : {S : Type 0} (answer : S → List ℕ → List ℕ) (next : S → List ℕ → S) (last : S → List ℕ) (s : S) (first : List ℕ) (fault : TalkFault)
    (a b : History) → TellsText (Err fault) first a b → Converses (Err fault) answer next last s first a b
stopped_first answer next last s first (ends.Unheard cause) a b one = absurd one
stopped_first answer next last s first ends.Untold a b one =
    (Err ends.Untold, one.2.0, (one.0, first_part one.0 one.1, one.2.1), has_lost one.2.0 b one.2.2)
stopped_first answer next last s first ends.OutOfMemory a b one = ([], no_first, one)

-- writing failed behind some lines
cut_off : {S : Type 0} (answer : S → List ℕ → List ℕ) (next : S → List ℕ → S) (last : S → List ℕ) (s : S) (first : List ℕ) (lines : List (List ℕ))
    (more : List Passed) → IsCutOff (answer (after_lines next s lines)) more → IsUntold answer next last s first (talk_so_far answer next s first lines ++ more)
cut_off answer next last s first lines [] before_line =
    subst (IsUntold answer next last s first) (sym (append-nil (talk_so_far answer next s first lines))) (no_line lines)
cut_off answer next last s first lines _ (amid_answer line more part) = answer_part lines line more part

-- it stopped at a line
pub stopped_amid : {S : Type 0} (answer : S → List ℕ → List ℕ) (next : S → List ℕ → S) (last : S → List ℕ) (s : S) (first : List ℕ) (fault : TalkFault)
    (lines : List (List ℕ)) (a b c : History)
    → Extends a b (told first ∷ []) → AnswersLines (Err fault) answer next s lines b c → Converses (Err fault) answer next last s first a c
stopped_amid answer next last s first (ends.Unheard cause) lines a b c one two =
    (lines, two.0, Extends-trans a b two.0 (told first ∷ []) (dialogue answer next s lines) one two.1, two.2)
stopped_amid answer next last s first ends.Untold lines a b c one two = (
  Err ends.Untold,
  two.2.0,
  (
    talk_so_far answer next s first lines ++ two.0,
    cut_off answer next last s first lines two.0 two.1,
    Extends-trans a b two.2.0 (told first ∷ []) (dialogue answer next s lines ++ two.0) one two.2.1,
  ),
  has_lost two.2.0 c two.2.2,
)
stopped_amid answer next last s first ends.OutOfMemory lines a b c one two = (
  talk_so_far answer next s first lines ++ heard two.0 ∷ [],
  no_answer lines two.0,
  Extends-trans a b c (told first ∷ []) (dialogue answer next s lines ++ heard two.0 ∷ []) one two.1,
)

-- the input has come to its end, so no more was to come than was heard
all_heard : (a b c : Option (List ℕ)) (lines : List (List ℕ)) (xs ys : List Passed) → heard_bytes ys ≡ [] → Consumes a b (heard_bytes xs)
    → (length lines < 2 ^ 64 - 1 → IsAtEnd b) → IsAll a lines (xs ++ ys)
all_heard None b c lines xs ys none taken end = tt
all_heard (Some a) None c lines xs ys none taken end = absurd taken
all_heard (Some a) (Some b) c lines xs ys none taken end = λ few.
    taken ∙ ap (λ (l : List ℕ). heard_bytes xs ++ l) (end few ∙ sym none) ∙ sym (heard_bytes-append xs ys)

-- its last text was told, or it stopped there
pub ended_so : {S : Type 0} (answer : S → List ℕ → List ℕ) (next : S → List ℕ → S) (last : S → List ℕ) (s : S) (first : List ℕ) (lines : List (List ℕ))
    (result : Result ⊤ TalkFault) (done : ⊤) (a b c d : History)
    → Extends a b (told first ∷ []) → AnswersLines (Ok done) answer next s lines b c → TellsText result (last (after_lines next s lines)) c d
    → Converses result answer next last s first a d
ended_so answer next last s first lines (Ok told_last) done a b c d one two three =
    let so_far : Extends a c (talk_so_far answer next s first lines) = Extends-trans a b c (told first ∷ []) (dialogue answer next s lines) one two.0 in (
      lines,
      Extends-trans a c d (talk_so_far answer next s first lines) (told (last (after_lines next s lines)) ∷ []) so_far three,
      all_heard a.coming c.coming d.coming lines (talk_so_far answer next s first lines) (told (last (after_lines next s lines)) ∷ []) refl so_far.taken two.1,
    )
ended_so answer next last s first lines (Err (ends.Unheard cause)) done a b c d one two three = absurd three
ended_so answer next last s first lines (Err ends.Untold) done a b c d one two three =
    let so_far : Extends a c (talk_so_far answer next s first lines) = Extends-trans a b c (told first ∷ []) (dialogue answer next s lines) one two.0 in (
      Err ends.Untold,
      three.2.0,
      (
        talk_so_far answer next s first lines ++ three.0,
        last_part lines three.0 three.1,
        Extends-trans a c three.2.0 (talk_so_far answer next s first lines) three.0 so_far three.2.1,
      ),
      has_lost three.2.0 d three.2.2,
    )
ended_so answer next last s first lines (Err ends.OutOfMemory) done a b c d one two three =
    let so_far : Extends a c (talk_so_far answer next s first lines) = Extends-trans a b c (told first ∷ []) (dialogue answer next s lines) one two.0 in (
      talk_so_far answer next s first lines,
      no_last lines,
      subst (Extends a d) (append-nil (talk_so_far answer next s first lines)) (Extends-trans a c d (talk_so_far answer next s first lines) [] so_far three),
    )

-- ---- its end

-- all that was told is written
written_so : {S : Type 0} (answer : S → List ℕ → List ℕ) (next : S → List ℕ → S) (last : S → List ℕ) (s : S) (first : List ℕ) (outcome : Result ⊤ TalkFault)
    (a b c : History) → Converses outcome answer next last s first a b → WritesAll b c → Converses outcome answer next last s first a c
written_so answer next last s first (Ok done) a b c was wrote =
    (was.0, Extends-written a b c _ was.1 wrote, was.2)
written_so answer next last s first (Err (ends.Unheard cause)) a b c was wrote = (was.0, was.1, was.2, Misses-written cause was.1 b c was.3 wrote)
written_so answer next last s first (Err ends.Untold) a b c was wrote = (was.0, was.1, was.2, lost_written was.1 b c was.3 wrote)
written_so answer next last s first (Err ends.OutOfMemory) a b c was wrote = (was.0, was.1, Extends-written a b c was.0 was.2 wrote)

-- or that fails
lost_so : {S : Type 0} (answer : S → List ℕ → List ℕ) (next : S → List ℕ → S) (last : S → List ℕ) (s : S) (first : List ℕ) (outcome : Result ⊤ TalkFault)
    (a b c : History) → Converses outcome answer next last s first a b → Loses b c → Converses (Err ends.Untold) answer next last s first a c
lost_so answer next last s first (Ok done) a b c was lost = (Ok done, b, was, has_lost b c lost)
lost_so answer next last s first (Err (ends.Unheard cause)) a b c was lost = (Err (ends.Unheard cause), b, was, has_lost b c lost)
lost_so answer next last s first (Err ends.Untold) a b c was lost = (was.0, was.1, was.2, lost_again was.1 b c was.3 lost)
lost_so answer next last s first (Err ends.OutOfMemory) a b c was lost = (Err ends.OutOfMemory, b, was, has_lost b c lost)

pub conversed : {S : Type 0} (answer : S → List ℕ → List ℕ) (next : S → List ℕ → S) (last : S → List ℕ) (s : S) (first : List ℕ)
    (outcome result : Result ⊤ TalkFault) (a b c : History)
    → Converses outcome answer next last s first a b → EndsAs outcome result b c → Converses result answer next last s first a c
conversed answer next last s first outcome result a b c was (inl ended) =
    subst (λ (r : Result ⊤ TalkFault). Converses r answer next last s first a c) (sym ended.0) (written_so answer next last s first outcome a b c was ended.1)
conversed answer next last s first outcome result a b c was (inr ended) =
    subst (λ (r : Result ⊤ TalkFault). Converses r answer next last s first a c) (sym ended.0) (lost_so answer next last s first outcome a b c was ended.1)

-- nothing is kept then
pub nothing_kept : (outcome result : Result ⊤ TalkFault) (a b : History) → EndsAs outcome result a b → b.kept ≡ []
nothing_kept outcome result a b (inl ended) = ended.1.kept
nothing_kept outcome result a b (inr ended) = ended.1.1.kept

-- what was counted behind what passed
counted_behind : (outcome : Result ⊤ TalkFault) (a b c : History) (xs : List Passed) → Extends a b xs → Causes outcome b c → Causes outcome a c
counted_behind (Ok done) a b c xs one caused = (caused.0 ∙ one.read, caused.1 ∙ one.wrote)
counted_behind (Err (ends.Unheard cause)) a b c xs one caused =
    (subst (λ (n : ℕ). ReadCounts (Err cause) n c.unread) one.read caused.0, caused.1 ∙ one.wrote)
counted_behind (Err ends.Untold) a b c xs one rose = subst (λ (n : ℕ). Rose n c.unwritten) one.wrote rose
counted_behind (Err ends.OutOfMemory) a b c xs one caused = (caused.0 ∙ one.read, caused.1 ∙ one.wrote)

-- how far it came counts no write that failed
spoken_unfailed : {S : Type 0} (answer : S → List ℕ → List ℕ) (next : S → List ℕ → S) (last : S → List ℕ) (s : S) (first : List ℕ)
    (outcome : Result ⊤ TalkFault) (a b : History) → Speaks outcome answer next last s first a b → b.unwritten ≡ a.unwritten
spoken_unfailed answer next last s first (Ok done) a b was = was.1.wrote
spoken_unfailed answer next last s first (Err (ends.Unheard cause)) a b was = was.3.wrote ∙ was.2.wrote
spoken_unfailed answer next last s first (Err ends.Untold) a b was = was.2.wrote
spoken_unfailed answer next last s first (Err ends.OutOfMemory) a b was = was.2.wrote

-- each fault of a talk has its cause
pub caused : {S : Type 0} (answer : S → List ℕ → List ℕ) (next : S → List ℕ → S) (last : S → List ℕ) (s : S) (first : List ℕ)
    (result : Result ⊤ TalkFault) (a b : History) → Converses result answer next last s first a b → Causes result a b
caused answer next last s first (Ok done) a b was = (was.1.read, was.1.wrote)
caused answer next last s first (Err (ends.Unheard cause)) a b was =
    counted_behind (Err (ends.Unheard cause)) a was.1 b (talk_so_far answer next s first was.0) was.2 (was.3.read, was.3.wrote)
caused answer next last s first (Err ends.Untold) a b was =
    subst (λ (n : ℕ). Rose n b.unwritten) (spoken_unfailed answer next last s first was.0 a was.1 was.2) was.3.1
caused answer next last s first (Err ends.OutOfMemory) a b was = (was.2.read, was.2.wrote)

-- a text was told and could not be written
pub told_and_lost : (failed : Failed) (text : List ℕ) (a b c : History) → Extends a b (told text ∷ []) → Loses b c → Tells (Err failed) text a c
told_and_lost failed text a b c one lost = (
  told text ∷ [],
  subst (λ (t : List ℕ). IsBeginning text (told t ∷ [])) (take-length text) (part_of (length text)),
  (b, one, lost),
)

-- What a talk over an input and a sink tells of what it heard and told.

-- a cause that the bytes show is one where they are told
cause_told : (most : ℕ) (fault : HearFault) (a b : Option (List ℕ)) → MissesOf most fault a b → IsCause most fault a b
cause_told most fault None b missed = tt
cause_told most fault (Some bytes) b missed = missed

-- what a talk with these bytes tells
abbrev pub here : Option (List ℕ) → Option (List ℕ) → List ℕ → ℕ → ℕ → ℕ → History
here coming written kept most unread unwritten =
    record { passed = None; coming = coming; written = written; kept = kept; longest = most; unread = unread; unwritten = unwritten }

-- what the sink holds and what is kept stays so
pub says_on : (bytes : List ℕ) (old mid new : History) → Says bytes old mid → new.written ≡ mid.written → new.kept ≡ mid.kept → Says bytes old new
says_on bytes old mid new was same kept = record {
  now = was.now;
  written = subst (λ (o : Option (List ℕ)). Appends old.written o was.now) (sym same) was.written;
  rest = subst (λ (l : List ℕ). old.kept ++ bytes ≡ was.now ++ l) (sym kept) was.rest;
}

-- no line was heard
pub misses_piped : (most : ℕ) (fault : HearFault) (coming coming' written written' : Option (List ℕ)) (kept kept' : List ℕ)
    (most' read read' wrote wrote' : ℕ)
    → MissesOf most fault coming coming'
    → Says [] (here coming written kept most read wrote) (here coming' written' kept' most' read' wrote') → ReadCounts (Err fault) read read' → wrote' ≡ wrote
    → Misses fault (here coming written kept most read wrote) (here coming' written' kept' most' read' wrote')
misses_piped most fault coming coming' written written' kept kept' most' read read' wrote wrote' was says counted unfailed =
    record { passed = tt; cause = cause_told most fault coming coming' was; written = says; read = counted; wrote = unfailed }

-- what was told
pub tells_piped : (result : Result ⊤ Failed) (text ahead : List ℕ) (left stored stored' : Option (List ℕ)) (kept kept' : List ℕ) (most read wrote wrote' : ℕ)
    → TellsOut result text kept kept' stored stored' → TellCounts result wrote wrote'
    → Tells result text (piped ahead left stored kept most read wrote) (piped ahead left stored' kept' most read wrote')
tells_piped (Ok done) text ahead left stored stored' kept kept' most read wrote wrote' was counted = record {
  passed = tt;
  taken = Consumes-nothing (prepend_known ahead left);
  written = subst (λ (l : List ℕ). Says l (piped ahead left stored kept most read wrote) (piped ahead left stored' kept' most read wrote')) (sym (append-nil text))
      (record { now = was.0; written = was.1; rest = was.2 });
  longest = refl;
  read = refl;
  wrote = counted;
}
tells_piped (Err failed) text ahead left stored stored' kept kept' most read wrote wrote' was counted = (
  told text ∷ [],
  subst (λ (t : List ℕ). IsBeginning text (told t ∷ [])) (take-length text) (part_of (length text)),
  (
    piped ahead left stored (kept ++ text) most read wrote,
    record {
      passed = tt;
      taken = Consumes-nothing (prepend_known ahead left);
      written = subst (λ (l : List ℕ). Says l (piped ahead left stored kept most read wrote) (piped ahead left stored (kept ++ text) most read wrote))
          (sym (append-nil text)) (record { now = []; written = Appends-nothing stored stored refl; rest = refl });
      longest = refl;
      read = refl;
      wrote = refl;
    },
    (was.0, record { passed = refl; coming = refl; written = was.1; kept = was.2; longest = refl; read = refl; wrote = counted }),
  ),
)
