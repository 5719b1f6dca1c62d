-- What a client hears without memory.
use Rattle.sim_plain.specs.declared.message.DownOf.TheVariants as down
use Rattle.sim_plain.specs.declared.message.UpOf.TheVariants as up
use Rattle.sim_base.specs.{declared.{command.Command.Command, setup.Setup.Setup}, Limits.{HasFewIds, IsSetup, IsValid}, Spelling.{spelling, u32_bytes}}
use Rattle.sim_client.proofs.{Small.orders_small, Spelled.states_are_short}
use Rattle.sim_client.specs.{ClientWords.{Answers, NeedsNoMemory}, declared.did.Did.{Did, TheVariants.{Done, Idle}}, Lives.{says_of, Told}}
use Rattle.sim_held.proofs.Common.{Act, All, All-cons, All-nil, arith, Bool, false, hears, if◌then◌else◌, IsSmallUp, length, Life, List, None, Ok, On, Option}
use Rattle.sim_held.{proofs.Common.{orders, refl, Some, subst, sym, true, ℕ, [], ◌++◌, ◌<◌, ◌∙◌, ◌∷◌, ◌≡◌}, specs.{Clients.said_by, Hearing.brings_state}}
use Rattle.{sim_plain.specs.Server.put, sim_plain_session.specs.{Pasts.is_client, Players.Player}, sim_wire.specs.Reading.{down_frame, IsDownFrame}}
use Rattle.std.specs.Prelude.{nat_eq, nat_lt, slice_index_or, ◌&&◌}

-- ---- the tag of a frame

-- it stands behind four bytes
tag_of : (said : Told) → nat_eq (slice_index_or (down_frame said) 4 0) 2 ≡ brings_state said
unfolding u32_bytes
tag_of (down.Ask j) = refl
tag_of (down.State done bytes) = refl
tag_of (down.Command t order) = refl
tag_of (down.Release t) = refl
tag_of (down.Notice t j) = refl
tag_of (down.Refused code) = refl

pub tag_tells : (frame : List ℕ) (said : Told) → IsDownFrame frame said → nat_eq (slice_index_or frame 4 0) 2 ≡ brings_state said
tag_tells frame said is = subst (λ (l : List ℕ). nat_eq (slice_index_or l 4 0) 2 ≡ brings_state said) (sym is.framed) (tag_of said)

-- and fewer bytes than five are no frame
has_tag : (said : Told) → length (down_frame said) < 5 → ⊥
unfolding u32_bytes
has_tag (down.Ask j) few = absurd (omega (arith, few))
has_tag (down.State done bytes) few = absurd (omega (arith, few))
has_tag (down.Command t order) few = absurd (omega (arith, few))
has_tag (down.Release t) few = absurd (omega (arith, few))
has_tag (down.Notice t j) few = absurd (omega (arith, few))
has_tag (down.Refused code) few = absurd (omega (arith, few))

pub frames_have_tags : (frame : List ℕ) (said : Told) → IsDownFrame frame said → length frame < 5 → ⊥
frames_have_tags frame said is few = has_tag said (subst (λ (l : List ℕ). length l < 5) is.framed few)

-- ---- what is said

-- nothing, where no memory is needed
pub says_none : (setup : Setup) (said : Told) (player : Player) → NeedsNoMemory (On player) said → says_of (hears setup None said (On player)) ≡ []
says_none setup (down.Ask j) player none = absurd none
says_none setup (down.State done bytes) player none = refl
says_none setup (down.Command t order) player none = absurd none
says_none setup (down.Release t) player none = by (nat_lt player.released t)
  where
    by : (b : Bool) → says_of (if b then Some (record { life = On (record player { released = t }); says = [] }) else None) ≡ []
    by true = refl
    by false = refl
says_none setup (down.Notice t j) player none = refl
says_none setup (down.Refused code) player none = refl

-- so nothing is to be sent
pub silent_did : (act : Option Act) (old : Life) (did : Did) (new : Life) → Answers act old (Ok did) new → says_of act ≡ [] → said_by did ≡ []
silent_did None old Idle new h none = refl
silent_did None old (Done ups) new h none = absurd h
silent_did (Some act) old Idle new h none = absurd h
silent_did (Some act) old (Done ups) new h none = h.1 ∙ none

-- What a client says has frames.

none : All IsSmallUp []
none = All-nil IsSmallUp

hears_small : (setup : Setup) (said : Told) (player : Player) → IsSetup setup → IsValid setup player.state → All IsSmallUp
    (says_of (hears setup None said (On player)))
hears_small setup (down.Ask j) player limits valid = All-cons IsSmallUp (up.State j player.state.turn (spelling setup player.state)) []
    (states_are_short setup player.state limits valid) none
hears_small setup (down.State done bytes) player limits valid = none
hears_small setup (down.Command t order) player limits valid = by (nat_lt player.state.turn t && is_client setup order.player)
  where
    by : (b : Bool) → All IsSmallUp
        (says_of (if b then Some (record { life = On (record player { known = put t (player.known t ++ order ∷ []) player.known }); says = [] }) else None))
    by true = none
    by false = none
hears_small setup (down.Release t) player limits valid = by (nat_lt player.released t)
  where
    by : (b : Bool) → All IsSmallUp (says_of (if b then Some (record { life = On (record player { released = t }); says = [] }) else None))
    by true = none
    by false = none
hears_small setup (down.Notice t j) player limits valid = none
hears_small setup (down.Refused code) player limits valid = none

-- what was said has frames, where what is to be said has them
said_small : (act : Option Act) (old : Life) (did : Did) (new : Life) → Answers act old (Ok did) new → All IsSmallUp (says_of act)
    → All IsSmallUp (said_by did)
said_small None old Idle new h small = none
said_small None old (Done ups) new h small = absurd h
said_small (Some act) old Idle new h small = absurd h
said_small (Some act) old (Done ups) new h small = subst (All IsSmallUp) (sym h.1) small

pub order_small : (setup : Setup) (command : Command) (old : Life) (did : Did) (new : Life) → HasFewIds command → Answers (orders setup command old) old
    (Ok did) new → All IsSmallUp (said_by did)
order_small setup command old did new few answers = said_small (orders setup command old) old did new answers (orders_small setup command old few)

pub hear_small : (setup : Setup) (said : Told) (player : Player) (did : Did) (new : Life) → IsSetup setup → IsValid setup player.state
    → Answers (hears setup None said (On player)) (On player) (Ok did) new → All IsSmallUp (said_by did)
hear_small setup said player did new limits valid answers =
    said_small (hears setup None said (On player)) (On player) did new answers (hears_small setup said player limits valid)
