-- Frames and messages, one behind the other.
use Rattle.sim_pipes.proofs.Common.{AreFrames, cases_eq, cond-false, cond-true, DownOf, eq-eqb, inl, inr, IsDownFrame, ne_eqb, pipe_in, PostOf, subst, sym}
use Rattle.sim_pipes.proofs.Common.{take_more, told_to, ◌∙◌}
use Rattle.sim_pipes.proofs.Common.{◌≡◌, ℕ, ◌+◌, ◌<◌, ◌⊎◌, List, [], ◌∷◌, ◌++◌, length, get_or, take, OnOk, Ok, Err, Result, ap, append-nil, append_assoc}

-- a frame more of a message more
frames_more : {M : Type 0} (IsFrame : List ℕ → M → Type 0) (frames : List (List ℕ)) (messages : List M) (frame : List ℕ) (message : M)
    → AreFrames IsFrame frames messages → IsFrame frame message → AreFrames IsFrame (frames ++ frame ∷ []) (messages ++ message ∷ [])
frames_more IsFrame [] [] frame message are is = (is, tt)
frames_more IsFrame [] (m ∷ ms) frame message are is = absurd are
frames_more IsFrame (f ∷ fs) [] frame message are is = absurd are
frames_more IsFrame (f ∷ fs) (m ∷ ms) frame message are is = (are.0, frames_more IsFrame fs ms frame message are.1 is)

-- a frame that was pushed
pub pushed : {M T E : Type 0} (IsFrame : List ℕ → M → Type 0) (r : Result T E) (old new : List (List ℕ)) (frame : List ℕ) (message : M)
    → OnOk r (new ≡ old ++ frame ∷ []) → IsFrame frame message
    → OnOk r ((before : List M) → AreFrames IsFrame old before → AreFrames IsFrame new (before ++ message ∷ []))
pushed IsFrame (Ok x) old new frame message e is = λ before are. subst (λ l. AreFrames IsFrame l (before ++ message ∷ [])) (sym e)
    (frames_more IsFrame old before frame message are is)
pushed IsFrame (Err x) old new frame message e is = tt

-- one message more of a list
pub framed_more : {M : Type 0} (IsFrame : List ℕ → M → Type 0) (frames : List (List ℕ)) (before all : List M) (i : ℕ) (x : M) → i < length all
    → x ≡ get_or all i x
    → AreFrames IsFrame frames ((before ++ take i all) ++ x ∷ []) → AreFrames IsFrame frames (before ++ take (i + 1) all)
framed_more IsFrame frames before all i x lt is =
    subst (AreFrames IsFrame frames) (append_assoc before (take i all) (x ∷ []) ∙
    ap (λ l. before ++ l) (ap (λ y. take i all ++ y ∷ []) is ∙ sym (take_more all i x lt)))

abbrev Down : Type 0
Down = DownOf (List ℕ)

-- a post that was sent to its client
pub sent_more : (old new : List (List (List ℕ))) (post : PostOf (List ℕ)) (c : ℕ) (sofar : List Down)
    → ((before : List Down) → AreFrames IsDownFrame (pipe_in old post.to) before → AreFrames IsDownFrame (pipe_in new post.to) (before ++ post.down ∷ []))
    → ((d : ℕ) → (d ≡ post.to → ⊥) → pipe_in new d ≡ pipe_in old d) → AreFrames IsDownFrame (pipe_in old c) sofar → AreFrames IsDownFrame (pipe_in new c)
    (sofar ++ told_to c (post ∷ []))
sent_more old new post c sofar one others are = by (cases_eq post.to c)
  where
    by : (post.to ≡ c) ⊎ (post.to ≡ c → ⊥) → AreFrames IsDownFrame (pipe_in new c) (sofar ++ told_to c (post ∷ []))
    by (inl e) =
        subst (λ said. AreFrames IsDownFrame (pipe_in new c) (sofar ++ said)) (sym (cond-true _ (post.down ∷ []) [] (eq-eqb post.to c e)))
        (subst (λ d. AreFrames IsDownFrame (pipe_in new d) (sofar ++ post.down ∷ [])) e
        (one sofar (subst (λ d. AreFrames IsDownFrame (pipe_in old d) sofar) (sym e) are)))
    by (inr apart) =
        subst (λ said. AreFrames IsDownFrame (pipe_in new c) (sofar ++ said)) (sym (cond-false _ (post.down ∷ []) [] (ne_eqb post.to c apart)))
        (subst (AreFrames IsDownFrame (pipe_in new c)) (sym (append-nil sofar))
        (subst (λ l. AreFrames IsDownFrame l sofar) (sym (others c (λ e. apart (sym e)))) are))

-- what follows where a call was Ok
pub on_ok : {T E P Q : Type 0} (r : Result T E) → OnOk r P → (P → Q) → OnOk r Q
on_ok (Ok x) p f = f p
on_ok (Err e) p f = tt
