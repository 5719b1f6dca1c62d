-- Lines that were answered over a session, and one line more.
use Rattle.sim_talk.specs.declared.fault.TalkFault.TheVariants as ends
use Rattle.{sim_base.specs.declared.{setup.Setup.Setup, step.Step.Step}, sim_live.specs.Live.{answer, AnswersAll, first_text, last_text, Lives, next}}
use Rattle.{sim_plain_session.specs.Sessions.{opened, session}, sim_session.specs.Standing.{Seen, StandsFor, StandsForSome}}
use Rattle.{sim_store.specs.declared.fault.Failed.Failed, sim_talk.proofs.Talking.{after_lines-more, answered_all, answered_more, caused, conversed, ended_so}}
use Rattle.sim_talk.proofs.Talking.{Extends-nothing, stopped_amid, stopped_first, unbegun, unheard_behind, unmade_answer, untold_answer}
use Rattle.sim_talk.specs.{declared.fault.TalkFault.TalkFault, Dialogues.{after_lines, Causes, dialogue, EndsAs, TellsText}}
use Rattle.{sim_talk.specs.Talks.{Extends, heard, Hears, History, Tells, told}, std.proofs.Common.{ap, arith, Err, length, length-append, List, Ok, refl}}
use Rattle.std.{proofs.Common.{Result, subst, sym, ℕ, [], ◌++◌, ◌+◌, ◌-◌, ◌^◌, ◌∙◌, ◌∷◌, ◌≡◌, ◌≤◌}, specs.{Io.KnownBytes.IsAtEnd, Prelude.⊤}}

-- some lines were answered, and the session stands for that over their steps
pub record HasAnswered (setup : Setup) (clients : ℕ) (seen : Seen) (made before : ℕ) (old new : History) : Type 0 where
  pub lines : List (List ℕ)
  pub many : before ≡ length lines
  pub stands : StandsFor setup seen (session setup clients (after_lines (next setup) [] lines))
  pub count : made ≡ length (after_lines (next setup) [] lines)
  pub passed : Extends old new (dialogue (answer setup clients) (next setup) [] lines)

-- none was yet
pub answered_nothing : (setup : Setup) (clients : ℕ) (seen : Seen) (old : History) → StandsFor setup seen (opened setup clients)
    → HasAnswered setup clients seen 0 0 old old
answered_nothing setup clients seen old stands = record { lines = []; many = refl; stands = stands; count = refl; passed = Extends-nothing old }

-- what is answered to a line by a session of a match
abbrev pub IsAnswered : Setup → Seen → ℕ → List ℕ → List ℕ → Type 0
IsAnswered setup seen made line text =
    (clients : ℕ) (steps : List Step) → clients ≤ setup.players → made ≡ length steps → StandsFor setup seen (session setup clients steps)
    → text ≡ answer setup clients steps line

-- how many steps were made then
abbrev pub IsCounted : Setup → ℕ → ℕ → List ℕ → Type 0
IsCounted setup made made' line = (steps : List Step) → made ≡ length steps → made' ≡ length (next setup steps line)

-- and what the session stands for
abbrev pub GoesOn : Setup → Seen → Seen → List ℕ → Type 0
GoesOn setup seen seen' line =
    (clients : ℕ) (steps : List Step) → clients ≤ setup.players → StandsFor setup seen (session setup clients steps)
    → StandsFor setup seen' (session setup clients (next setup steps line))

-- one more was
pub answered_line : (setup own : Setup) (clients : ℕ) (seen seen' : Seen) (made made' before : ℕ) (line text : List ℕ) (a b c d : History)
    → HasAnswered setup clients seen made before a b → own ≡ setup → clients ≤ setup.players → Extends b c (heard line ∷ []) → Extends c d (told text ∷ [])
    → IsAnswered own seen made line text → IsCounted own made made' line → GoesOn own seen seen' line
    → HasAnswered setup clients seen' made' (before + 1) a d
answered_line setup own clients seen seen' made made' before line text a b c d was same few one two is count stand =
    let steps : List Step = after_lines (next setup) [] was.lines in
    let more : after_lines (next setup) [] (was.lines ++ line ∷ []) ≡ next setup steps line = after_lines-more (next setup) [] was.lines line in
    let is' : IsAnswered setup seen made line text = subst (λ (s : Setup). IsAnswered s seen made line text) same is in
    let count' : IsCounted setup made made' line = subst (λ (s : Setup). IsCounted s made made' line) same count in
    let stand' : GoesOn setup seen seen' line = subst (λ (s : Setup). GoesOn s seen seen' line) same stand in
    record {
      lines = was.lines ++ line ∷ [];
      many = omega (arith, was.many, length-append was.lines (line ∷ []));
      stands = subst (λ (xs : List Step). StandsFor setup seen' (session setup clients xs)) (sym more) (stand' clients steps few was.stands);
      count = count' steps was.count ∙ ap length (sym more);
      passed = answered_more (answer setup clients) (next setup) [] was.lines line text a b c d (is' clients steps few was.count was.stands) was.passed one two;
    }

-- the session stands for that over the steps of these lines
pub stands_some : (setup own : Setup) (clients : ℕ) (seen : Seen) (made before : ℕ) (a b : History) → HasAnswered setup clients seen made before a b
    → own ≡ setup → clients ≤ setup.players → StandsForSome own seen
stands_some setup own clients seen made before a b was same few =
    subst (λ (s : Setup). StandsForSome s seen) (sym same)
    (record { active = clients; steps = after_lines (next setup) [] was.lines; few = few; stands = was.stands })

-- the input has come to its end
pub all_answered : (setup : Setup) (clients : ℕ) (seen : Seen) (made before : ℕ) (done : ⊤) (a b c : History) → HasAnswered setup clients seen made before a b
    → Extends b c [] → IsAtEnd c.coming → AnswersAll (Ok done) setup clients seen a c
all_answered setup clients seen made before done a b c was none end =
    (was.lines, was.stands, answered_all (answer setup clients) (next setup) [] was.lines done a b c was.passed none end)

-- no more lines can be counted
pub many_answered : (setup : Setup) (clients : ℕ) (seen : Seen) (made before : ℕ) (done : ⊤) (a b : History) → HasAnswered setup clients seen made before a b
    → 2 ^ 64 - 1 ≤ before → AnswersAll (Ok done) setup clients seen a b
many_answered setup clients seen made before done a b was many =
    (was.lines, was.stands, (was.passed, λ few. absurd (omega (arith, was.many, many, few))))

-- no line was heard
pub unheard_line : (setup : Setup) (clients : ℕ) (seen seen' : Seen) (made before : ℕ) (result : Result ⊤ TalkFault) (fault : TalkFault) (line : List ℕ)
    (a b c : History)
    → HasAnswered setup clients seen made before a b → result ≡ Err fault → Hears (Err fault) line b c → AnswersAll result setup clients seen' a c
unheard_line setup clients seen seen' made before result fault line a b c was is missed =
    subst (λ (r : Result ⊤ TalkFault). AnswersAll r setup clients seen' a c) (sym is)
    (was.lines, tt, unheard_behind (answer setup clients) (next setup) [] was.lines fault line a b c was.passed missed)

-- memory was refused for an answer
pub unmade_line : (setup : Setup) (clients : ℕ) (seen seen' : Seen) (made before : ℕ) (result : Result ⊤ TalkFault) (line : List ℕ) (a b c : History)
    → HasAnswered setup clients seen made before a b → result ≡ Err ends.OutOfMemory → Extends b c (heard line ∷ [])
    → AnswersAll result setup clients seen' a c
unmade_line setup clients seen seen' made before result line a b c was is one =
    subst (λ (r : Result ⊤ TalkFault). AnswersAll r setup clients seen' a c) (sym is)
    (was.lines, tt, unmade_answer (answer setup clients) (next setup) [] was.lines line a b c was.passed one)

-- an answer was not told whole
pub untold_line : (setup own : Setup) (clients : ℕ) (seen seen' : Seen) (made before : ℕ) (result : Result ⊤ TalkFault) (line text : List ℕ) (failed : Failed)
    (a b c d : History)
    → HasAnswered setup clients seen made before a b → own ≡ setup → clients ≤ setup.players → result ≡ Err ends.Untold → IsAnswered own seen made line text
    → Extends b c (heard line ∷ []) → Tells (Err failed) text c d → AnswersAll result setup clients seen' a d
untold_line setup own clients seen seen' made before result line text failed a b c d was same few is answered one part =
    let is' : IsAnswered setup seen made line text = subst (λ (s : Setup). IsAnswered s seen made line text) same answered in
    subst (λ (r : Result ⊤ TalkFault). AnswersAll r setup clients seen' a d) (sym is) (
      was.lines,
      tt,
      untold_answer (answer setup clients) (next setup) [] was.lines line text failed a b c d
          (is' clients (after_lines (next setup) [] was.lines) few was.count was.stands) was.passed one part,
    )

-- a text was told in part
pub told_part : (result : Result ⊤ TalkFault) (failed : Failed) (text bytes : List ℕ) (a b : History) → result ≡ Err ends.Untold → bytes ≡ text
    → Tells (Err failed) bytes a b → TellsText result text a b
told_part result failed text bytes a b is same part =
    subst (λ (r : Result ⊤ TalkFault). TellsText r text a b) (sym is) (subst (λ (t : List ℕ). Tells (Err failed) t a b) same part)

-- ---- the whole talk of its parts

-- it stopped at its first text
pub live_unbegun : (setup : Setup) (clients : ℕ) (result : Result ⊤ TalkFault) (fault : TalkFault) (a b : History) → result ≡ Err fault
    → TellsText (Err fault) (first_text setup clients) a b → Lives result setup clients a b
live_unbegun setup clients result fault a b is one =
    subst (λ (r : Result ⊤ TalkFault). Lives r setup clients a b) (sym is)
    (stopped_first (answer setup clients) (next setup) (last_text setup clients) [] (first_text setup clients) fault a b one)

-- memory was refused before it
pub live_unmade : (setup : Setup) (clients : ℕ) (result : Result ⊤ TalkFault) (a : History) → result ≡ Err ends.OutOfMemory → Lives result setup clients a a
live_unmade setup clients result a is =
    unbegun (answer setup clients) (next setup) (last_text setup clients) [] (first_text setup clients) result a is

-- it stopped at a line
pub live_amid : (setup : Setup) (clients : ℕ) (seen : Seen) (result : Result ⊤ TalkFault) (fault : TalkFault) (a b c : History) → result ≡ Err fault
    → Extends a b (told (first_text setup clients) ∷ []) → AnswersAll (Err fault) setup clients seen b c → Lives result setup clients a c
live_amid setup clients seen result fault a b c is one two =
    subst (λ (r : Result ⊤ TalkFault). Lives r setup clients a c) (sym is)
    (stopped_amid (answer setup clients) (next setup) (last_text setup clients) [] (first_text setup clients) fault two.0 a b c one two.2)

-- its last text was told, or it stopped there
pub live_ended : (setup : Setup) (clients : ℕ) (seen : Seen) (result : Result ⊤ TalkFault) (done : ⊤) (a b c d : History)
    → Extends a b (told (first_text setup clients) ∷ []) → AnswersAll (Ok done) setup clients seen b c
    → ((steps : List Step) → StandsFor setup seen (session setup clients steps) → TellsText result (last_text setup clients steps) c d)
    → Lives result setup clients a d
live_ended setup clients seen result done a b c d one two three =
    ended_so (answer setup clients) (next setup) (last_text setup clients) [] (first_text setup clients) two.0 result done a b c d one two.2
    (three (after_lines (next setup) [] two.0) two.1)

-- however it ended, all that was told is written then
pub live_settled : (setup own : Setup) (clients : ℕ) (outcome result : Result ⊤ TalkFault) (a b c : History) → own ≡ setup → Lives outcome own clients a b
    → EndsAs outcome result b c → Lives result setup clients a c
live_settled setup own clients outcome result a b c same was ended =
    subst (λ (s : Setup). Lives result s clients a c) same
    (conversed (answer own clients) (next own) (last_text own clients) [] (first_text own clients) outcome result a b c was ended)

-- each fault has its cause
pub live_caused : (setup : Setup) (clients : ℕ) (result : Result ⊤ TalkFault) (a b : History) → Lives result setup clients a b → Causes result a b
live_caused setup clients result a b was =
    caused (answer setup clients) (next setup) (last_text setup clients) [] (first_text setup clients) result a b was
