-- Bytes as they came are heard as the message of which they are the frame, or end the connection.
use Rattle.sim_server.proofs.Common.{raw, subst, sym, UpOf, View}
use Rattle.sim_server.proofs.Common.{ℕ, List, is_none, Result, ap, AreBytes, Arrival, Cut, Heard, heard_or_cut, is_heard, IsUpFrame, Makes, OutOfMemory, PostOf}

pub made_heard : (old new : View) (from : ℕ) (bytes : List ℕ) (message : UpOf (List ℕ)) (r : Result (List (PostOf (List ℕ))) OutOfMemory)
    → IsUpFrame bytes message → Makes old (Heard from message) r new → Makes old (raw from bytes) r new
made_heard old new from bytes message r framed = subst (λ (a : Arrival (List ℕ)). Makes old a r new)
    (sym (ap (heard_or_cut from) (is_heard bytes message framed)))

pub made_cut : (old new : View) (from : ℕ) (bytes : List ℕ) (r : Result (List (PostOf (List ℕ))) OutOfMemory) → AreBytes bytes
    → ((message : UpOf (List ℕ)) → IsUpFrame bytes message → ⊥) → Makes old (Cut from) r new → Makes old (raw from bytes) r new
made_cut old new from bytes r all none = subst (λ (a : Arrival (List ℕ)). Makes old a r new) (sym (ap (heard_or_cut from) (is_none bytes all none)))
