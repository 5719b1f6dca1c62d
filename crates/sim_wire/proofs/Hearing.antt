-- Bytes are heard as the message of which they are the frame.
use Rattle.sim_wire.proofs.Common.{Bool, false, IsUpFrame, List, None, Option, refl, Some, subst, sym, true, up_form, UpOf, ℕ, ◌∙◌, ◌≡◌}
use Rattle.sim_wire.{proofs.{Formed.up_formed, Forms.up_has_form, Fronts.AreBytes, Standing.up_read}, specs.Memory.{AreHeardAsFramed, message_in}}

pub is_heard : (bytes : List ℕ) (message : UpOf (List ℕ)) → IsUpFrame bytes message → message_in bytes ≡ Some message
unfolding message_in
is_heard bytes message is = rw (up_has_form bytes message is, up_read bytes message is) refl

no_form : (bytes : List ℕ) → up_form bytes ≡ false → message_in bytes ≡ None
unfolding message_in
no_form bytes form = rw form refl

pub is_frame : (bytes : List ℕ) → AreBytes bytes → (message : UpOf (List ℕ)) → message_in bytes ≡ Some message → IsUpFrame bytes message
is_frame bytes all message heard = by (up_form bytes) refl
  where
    same : (a b : UpOf (List ℕ)) → Some a ≡ Some b → a ≡ b
    same a b e = cc

    by : (form : Bool) → up_form bytes ≡ form → IsUpFrame bytes message
    by true form = (let made = up_formed bytes all form in subst (IsUpFrame bytes) (same made.0 message (sym (is_heard bytes made.0 made.1) ∙ heard)) made.1)
    by false form = absurd (let none : None ≡ Some message = sym (no_form bytes form) ∙ heard in cc)

-- bytes that are no frame are heard as none
pub is_none : (bytes : List ℕ) → AreBytes bytes → ((message : UpOf (List ℕ)) → IsUpFrame bytes message → ⊥) → message_in bytes ≡ None
is_none bytes all other = by (message_in bytes) refl
  where
    by : (heard : Option (UpOf (List ℕ))) → message_in bytes ≡ heard → message_in bytes ≡ None
    by None e = e
    by (Some message) e = absurd (other message (is_frame bytes all message e))

pub heard_as_framed : AreHeardAsFramed
heard_as_framed bytes all message = (is_frame bytes all message, is_heard bytes message)
