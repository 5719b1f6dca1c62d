-- What is heard of a line, by how its bytes were poured.
use Rattle.sim_talk.specs.declared.fault.HearFault.TheVariants as fault
use Rattle.sim_talk.specs.declared.fault.HearFault.{HearFault}
use Rattle.sim_talk.specs.{Lines.{feed, HearsOf, HearsPart, HearsTooMuch, IsPart, IsWithinLine, PoursOpen, PoursTooMuch, PoursWhole}, LineTalk.{Ends, IsText}}
use Rattle.std.proofs.Common.{ap, append_assoc, Bool, Err, false, length, List, None, Ok, Option, refl, Result, Some, subst, sym, true, ℕ, [], ◌++◌, ◌<◌, ◌∙◌}
use Rattle.std.{proofs.{Common.{◌∷◌, ◌≡◌}, lemmas.List.Elements.All-append}, specs.{Io.KnownBytes.{Consumes, IsAtEnd, Keeps, prepend_known}, Str.IsUtf8}}

-- What was taken of an input while a line is read in pieces: what stands in the line so far, and behind it what is ahead and what the
-- input has left.

-- the line came to its end
pub taken_whole : (a b : Option (List ℕ)) (ahead line more ahead' line' : List ℕ) → ahead ≡ more ++ 10 ∷ ahead' → line' ≡ line ++ more
    → Consumes a (prepend_known ahead b) line → Consumes a (prepend_known ahead' b) (line' ++ feed)
taken_whole None b ahead line more ahead' line' split added taken = tt
taken_whole (Some xs) None ahead line more ahead' line' split added taken = absurd taken
taken_whole (Some xs) (Some ys) ahead line more ahead' line' split added taken =
    taken ∙ ap (λ (l : List ℕ). line ++ (l ++ ys)) split ∙ ap (λ (l : List ℕ). line ++ l) (append_assoc more (10 ∷ ahead') ys)
    ∙ sym (append_assoc line more (10 ∷ (ahead' ++ ys))) ∙ sym (append_assoc (line ++ more) feed (ahead' ++ ys))
    ∙ ap (λ (l : List ℕ). (l ++ feed) ++ (ahead' ++ ys)) (sym added)

-- it is longer than it may be
pub taken_much : (a b : Option (List ℕ)) (ahead line more ahead' : List ℕ) → ahead ≡ more ++ ahead'
    → Consumes a (prepend_known ahead b) line → Consumes a (prepend_known ahead' b) (line ++ more)
taken_much None b ahead line more ahead' split taken = tt
taken_much (Some xs) None ahead line more ahead' split taken = absurd taken
taken_much (Some xs) (Some ys) ahead line more ahead' split taken =
    taken ∙ ap (λ (l : List ℕ). line ++ (l ++ ys)) split ∙ ap (λ (l : List ℕ). line ++ l) (append_assoc more ahead' ys)
    ∙ sym (append_assoc line more (ahead' ++ ys))

-- all that was ahead is in the line
pub taken_all : (a b : Option (List ℕ)) (ahead line ahead' line' : List ℕ) → ahead' ≡ [] → line' ≡ line ++ ahead
    → Consumes a (prepend_known ahead b) line → Consumes a (prepend_known ahead' b) line'
taken_all None b ahead line ahead' line' gone added taken = tt
taken_all (Some xs) None ahead line ahead' line' gone added taken = absurd taken
taken_all (Some xs) (Some ys) ahead line ahead' line' gone added taken =
    taken ∙ sym (append_assoc line ahead ys) ∙ ap (λ (l : List ℕ). l ++ ys) (sym added) ∙ ap (λ (l : List ℕ). line' ++ (l ++ ys)) (sym gone)

-- a piece was read, and is ahead now
pub taken_piece : (a b c : Option (List ℕ)) (ahead line piece ahead' : List ℕ) → ahead ≡ [] → ahead' ≡ piece → Consumes b c piece
    → Consumes a (prepend_known ahead b) line → Consumes a (prepend_known ahead' c) line
taken_piece None b c ahead line piece ahead' gone held read taken = tt
taken_piece (Some xs) None c ahead line piece ahead' gone held read taken = absurd taken
taken_piece (Some xs) (Some ys) None ahead line piece ahead' gone held read taken = absurd read
taken_piece (Some xs) (Some ys) (Some zs) ahead line piece ahead' gone held read taken =
    taken ∙ ap (λ (l : List ℕ). line ++ (l ++ ys)) gone ∙ ap (λ (l : List ℕ). line ++ l) read ∙ ap (λ (l : List ℕ). line ++ (l ++ zs)) (sym held)

-- nothing was read
pub taken_kept : (a b c : Option (List ℕ)) (ahead line : List ℕ) → Keeps b c → Consumes a (prepend_known ahead b) line → Consumes a (prepend_known ahead c) line
taken_kept None b c ahead line kept taken = tt
taken_kept (Some xs) None c ahead line kept taken = absurd taken
taken_kept (Some xs) (Some ys) None ahead line kept taken = absurd kept
taken_kept (Some xs) (Some ys) (Some zs) ahead line kept taken = taken ∙ ap (λ (l : List ℕ). line ++ (ahead ++ l)) (sym kept)

-- where nothing is ahead and the input has come to its end, there is no more
pub at_end : (b : Option (List ℕ)) (ahead : List ℕ) → ahead ≡ [] → IsAtEnd b → IsAtEnd (prepend_known ahead b)
at_end None ahead gone end = end
at_end (Some ys) ahead gone end = ap (λ (l : List ℕ). l ++ ys) gone ∙ end

-- a line goes on within itself
pub within_more : (line more line' : List ℕ) → line' ≡ line ++ more → IsWithinLine line → IsWithinLine more → IsWithinLine (line ++ more)
within_more line more line' added one two = All-append (λ b. b ≡ 10 → ⊥) line more one two

-- a whole line is one
pub whole_part : (most : ℕ) (ahead line ahead' line' : List ℕ) → IsPart most line → PoursWhole most ahead line ahead' line' → IsPart most line'
whole_part most ahead line ahead' line' part poured = record {
  within = subst IsWithinLine (sym poured.added) (within_more line poured.more line' poured.added part.within poured.within);
  few = poured.few;
}

-- and so is one that goes on
pub open_part : (most : ℕ) (ahead line ahead' line' : List ℕ) → IsPart most line → PoursOpen most ahead line ahead' line' → IsPart most line'
open_part most ahead line ahead' line' part poured = record {
  within = subst IsWithinLine (sym poured.added) (within_more line ahead line' poured.added part.within poured.within);
  few = poured.few;
}

-- a line that has come to its end is heard where it is text
pub heard_whole : (most : ℕ) (result : Result Bool HearFault) (raw : List ℕ) (a b : Option (List ℕ)) (ahead line ahead' line' : List ℕ) → raw ≡ line'
    → IsText result raw
    → IsPart most line → Consumes a (prepend_known ahead b) line → PoursWhole most ahead line ahead' line'
    → HearsOf most result line' a (prepend_known ahead' b)
heard_whole most (Ok true) raw a b ahead line ahead' line' is text part taken poured = record {
  taken = taken_whole a b ahead line poured.more ahead' line' poured.taken poured.added taken;
  part = whole_part most ahead line ahead' line' part poured;
  text = subst IsUtf8 is text;
}
heard_whole most (Ok false) raw a b ahead line ahead' line' is text part taken poured = absurd text
heard_whole most (Err fault.NoText) raw a b ahead line ahead' line' is text part taken poured = record {
  line = line';
  taken = taken_whole a b ahead line poured.more ahead' line' poured.taken poured.added taken;
  part = whole_part most ahead line ahead' line' part poured;
  none = λ utf8. text (subst IsUtf8 (sym is) utf8);
}
heard_whole most (Err fault.Failed) raw a b ahead line ahead' line' is text part taken poured = absurd text
heard_whole most (Err fault.CutOff) raw a b ahead line ahead' line' is text part taken poured = absurd text
heard_whole most (Err fault.TooLong) raw a b ahead line ahead' line' is text part taken poured = absurd text
heard_whole most (Err fault.OutOfMemory) raw a b ahead line ahead' line' is text part taken poured = absurd text

-- one that is longer than it may be
pub heard_much : (most : ℕ) (a b : Option (List ℕ)) (ahead line ahead' : List ℕ) → IsPart most line → Consumes a (prepend_known ahead b) line
    → PoursTooMuch most ahead line ahead'
    → HearsTooMuch most a (prepend_known ahead' b)
heard_much most a b ahead line ahead' part taken poured = record {
  part = line ++ poured.more;
  taken = taken_much a b ahead line poured.more ahead' poured.taken taken;
  within = within_more line poured.more (line ++ poured.more) refl part.within poured.within;
  many = poured.many;
}

-- where a read failed all that was ahead was taken
pub heard_failed : (most : ℕ) (a b c : Option (List ℕ)) (ahead line ahead' line' ahead'' : List ℕ) → IsPart most line → Consumes a (prepend_known ahead b) line
    → PoursOpen most ahead line ahead' line' → Keeps b c → ahead'' ≡ ahead'
    → HearsPart most a (prepend_known ahead'' c)
heard_failed most a b c ahead line ahead' line' ahead'' part taken poured kept same = record {
  part = line';
  taken = subst (λ (h : List ℕ). Consumes a (prepend_known h c) line') (sym same)
      (taken_kept a b c ahead' line' kept (taken_all a b ahead line ahead' line' poured.taken poured.added taken));
  within = open_part most ahead line ahead' line' part poured;
}

-- where a piece was read it is ahead now
pub taken_on : (most : ℕ) (a b c : Option (List ℕ)) (ahead line ahead' line' piece ahead'' : List ℕ) → Consumes a (prepend_known ahead b) line
    → PoursOpen most ahead line ahead' line' → Consumes b c piece → ahead'' ≡ piece
    → Consumes a (prepend_known ahead'' c) line'
taken_on most a b c ahead line ahead' line' piece ahead'' taken poured read held =
    taken_piece a b c ahead' line' piece ahead'' poured.taken held read (taken_all a b ahead line ahead' line' poured.taken poured.added taken)

-- at the end of the input there is no line, or a part of one
pub heard_end : (most : ℕ) (result : Result Bool HearFault) (raw : List ℕ) (a b c : Option (List ℕ)) (ahead line ahead' line' piece : List ℕ) → raw ≡ line'
    → Ends result raw
    → IsPart most line → Consumes a (prepend_known ahead b) line → PoursOpen most ahead line ahead' line' → Consumes b c piece → piece ≡ [] → IsAtEnd c
    → HearsOf most result line' a (prepend_known piece c)
heard_end most (Ok true) raw a b c ahead line ahead' line' piece is ends part taken poured read none end = absurd ends
heard_end most (Ok false) raw a b c ahead line ahead' line' piece is ends part taken poured read none end = (
  subst (Consumes a (prepend_known piece c)) (sym is ∙ ends) (taken_on most a b c ahead line ahead' line' piece piece taken poured read refl),
  at_end c piece none end,
)
heard_end most (Err fault.CutOff) raw a b c ahead line ahead' line' piece is ends part taken poured read none end = record {
  part = line';
  taken = taken_on most a b c ahead line ahead' line' piece piece taken poured read refl;
  some = subst (λ (l : List ℕ). 0 < length l) is ends;
  within = open_part most ahead line ahead' line' part poured;
  end = at_end c piece none end;
}
heard_end most (Err fault.Failed) raw a b c ahead line ahead' line' piece is ends part taken poured read none end = absurd ends
heard_end most (Err fault.TooLong) raw a b c ahead line ahead' line' piece is ends part taken poured read none end = absurd ends
heard_end most (Err fault.NoText) raw a b c ahead line ahead' line' piece is ends part taken poured read none end = absurd ends
heard_end most (Err fault.OutOfMemory) raw a b c ahead line ahead' line' piece is ends part taken poured read none end = absurd ends

-- the same, where the fault is known by an equation
pub heard_no_more : (most : ℕ) (result : Result Bool HearFault) (line : List ℕ) (a b : Option (List ℕ)) → result ≡ Err fault.Failed → HearsPart most a b
    → HearsOf most result line a b
heard_no_more most result line a b is part = subst (λ r. HearsOf most r line a b) (sym is) part
