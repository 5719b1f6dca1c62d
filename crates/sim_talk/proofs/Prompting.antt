-- A talk that tells no history promises no more than which fault may be answered, and what was counted then.
use Rattle.sim_talk.specs.declared.fault.TalkFault.TheVariants as ends
use Rattle.{sim_store.specs.{declared.fault.Failed.Failed, Shelf.raised}, sim_talk.specs.{declared.fault.TalkFault.TalkFault, LineTalk.HearCounts}}
use Rattle.sim_talk.specs.{LineTalk.{TellCounts, WriteCounts}, Talks.{Extends, Hears, History, none_of, Passed, Settles, Tells, told, told_bytes, untold}}
use Rattle.std.{proofs.Common.{ap, append-nil, Bool, Err, false, List, Ok, refl, Result, sym, true, ℕ, [], ◌∙◌, ◌∷◌, ◌≡◌}, specs.Prelude.⊤}

-- nothing is told of what passed
passes_untold : (read read' wrote wrote' : ℕ) (more : List Passed) → read' ≡ read → wrote' ≡ wrote → Extends (untold read wrote) (untold read' wrote') more
passes_untold read read' wrote wrote' more one two = record {
  passed = tt;
  taken = tt;
  written = record { now = told_bytes more; written = tt; rest = sym (append-nil (told_bytes more)) };
  longest = refl;
  read = one;
  wrote = two;
}

-- what was counted where a line was asked for
pub hears_counted : (result : Result Bool TalkFault) (line : List ℕ) (read read' wrote wrote' : ℕ) → HearCounts result read read'
    → WriteCounts result wrote wrote' → Hears result line (untold read wrote) (untold read' wrote')
hears_counted (Ok true) line read read' wrote wrote' one two = passes_untold read read' wrote wrote' _ one two
hears_counted (Ok false) line read read' wrote wrote' one two = (passes_untold read read' wrote wrote' _ one two, tt)
hears_counted (Err (ends.Unheard fault)) line read read' wrote wrote' one two =
    record { passed = tt; cause = tt; written = record { now = []; written = tt; rest = refl }; read = one; wrote = two }
hears_counted (Err ends.Untold) line read read' wrote wrote' one two =
    (0, record { passed = refl; coming = refl; written = tt; kept = refl; longest = refl; read = one; wrote = two })
hears_counted (Err ends.OutOfMemory) line read read' wrote wrote' one two = absurd one

-- and another talk says so
pub heard_read : (result : Result Bool TalkFault) (line : List ℕ) (a b : History) → Hears result line a b → HearCounts result a.unread b.unread
heard_read (Ok true) line a b was = was.read
heard_read (Ok false) line a b was = was.0.read
heard_read (Err (ends.Unheard fault)) line a b was = was.read
heard_read (Err ends.Untold) line a b was = was.1.read
heard_read (Err ends.OutOfMemory) line a b was = absurd was

pub heard_wrote : (result : Result Bool TalkFault) (line : List ℕ) (a b : History) → Hears result line a b → WriteCounts result a.unwritten b.unwritten
heard_wrote (Ok true) line a b was = was.wrote
heard_wrote (Ok false) line a b was = was.0.wrote
heard_wrote (Err (ends.Unheard fault)) line a b was = was.wrote
heard_wrote (Err ends.Untold) line a b was = was.1.wrote
heard_wrote (Err ends.OutOfMemory) line a b was = absurd was

-- and where a text was told
pub told_read : (result : Result ⊤ Failed) (text : List ℕ) (a b : History) → Tells result text a b → b.unread ≡ a.unread
told_read (Ok done) text a b was = was.read
told_read (Err failed) text a b was = was.2.2.1.read ∙ was.2.1.read

pub told_wrote : (result : Result ⊤ Failed) (text : List ℕ) (a b : History) → Tells result text a b → TellCounts result a.unwritten b.unwritten
told_wrote (Ok done) text a b was = was.wrote
told_wrote (Err failed) text a b was = was.2.2.1.wrote ∙ ap (raised 1) was.2.1.wrote

pub tells_counted : (result : Result ⊤ Failed) (text : List ℕ) (a b : History) → Tells result text a b
    → Tells result text (untold a.unread a.unwritten) (untold b.unread b.unwritten)
tells_counted (Ok done) text a b was = passes_untold a.unread b.unread a.unwritten b.unwritten (told text ∷ []) was.read was.wrote
tells_counted (Err failed) text a b was = (
  [],
  none_of,
  (
    untold a.unread a.unwritten,
    passes_untold a.unread a.unread a.unwritten a.unwritten [] refl refl,
    (
      0,
      record {
        passed = refl;
        coming = refl;
        written = tt;
        kept = refl;
        longest = refl;
        read = told_read (Err failed) text a b was;
        wrote = told_wrote (Err failed) text a b was;
      },
    ),
  ),
)

-- and where what was told was written
pub settles_counted : (result : Result ⊤ Failed) (a b : History) → Settles result a b
    → Settles result (untold a.unread a.unwritten) (untold b.unread b.unwritten)
settles_counted (Ok done) a b was =
    record { passed = refl; coming = refl; written = tt; kept = refl; longest = refl; read = was.read; wrote = was.wrote }
settles_counted (Err failed) a b was =
    (0, record { passed = refl; coming = refl; written = tt; kept = refl; longest = refl; read = was.1.read; wrote = was.1.wrote })
