-- What reading gives for bytes that are the frame of a message: that message, or memory was refused. Bytes of another form are no frame.
use Rattle.sim_wire.specs.declared.fault.WireFault.TheVariants as faults
use Rattle.sim_plain.specs.declared.message.DownOf.TheVariants as down
use Rattle.sim_plain.specs.declared.message.UpOf.TheVariants as up
use Rattle.sim_wire.proofs.Common.{ap, append-nil, append_assoc, arith, Attack, Bool, byte_at, Command, command_bytes, CommandFits, Delete, down_at, down_body}
use Rattle.sim_wire.proofs.Common.{down_form, DownFits, DownOf, false, false≢true, flat_map, ids_bytes, IdsFit, IsDownFrame, IsUpFrame, length, List, Place}
use Rattle.sim_wire.proofs.Common.{point_bytes, read_and, refl, Resign, Stop, subst, sym, Train, true, u16_back, u16_bytes, u32_back, u32_bytes, up_at, up_body}
use Rattle.sim_wire.proofs.{Common.{up_form, UpFits, UpOf, Walk, ℕ, [], ◌++◌, ◌<◌, ◌^◌, ◌∙◌, ◌∷◌, ◌≡◌}, Formed.{down_formed, up_formed}, Forms.down_has_form}
use Rattle.sim_wire.proofs.{Forms.up_has_form, Fronts.AreBytes, Standing.{down_same, down_unread, short_down, short_up, size_back, up_same, up_unread}}
use Rattle.sim_wire.specs.{declared.fault.WireFault.WireFault, Memory.{command_takes, down_carries, down_command_takes, down_state_takes, down_tag_takes}}
use Rattle.sim_wire.specs.Memory.{down_takes, has_some, ids_take, kind_takes, names_some, state_takes, up_carries, up_command_takes, up_state_takes}
use Rattle.sim_wire.specs.{Memory.{up_tag_takes, up_takes}, Reading.Gives, Refusals.{GivesMessage, RefusedFor}}
use Rattle.std.proofs.Common.{Err, IfErr, IfOk, Ok, Result}

-- ---- up

-- bytes of another form are no frame
pub up_of_no_form : (bytes : List ℕ) (answer : Bool) → answer ≡ up_form bytes → answer ≡ false → (message : UpOf (List ℕ)) → IsUpFrame bytes message → ⊥
up_of_no_form bytes answer tells not message is = false≢true (sym not ∙ tells ∙ up_has_form bytes message is)

module _ (bytes after : List ℕ) (all : AreBytes bytes) (answer : Bool) (tells : answer ≡ up_form bytes) (held : answer ≡ true) where
  some_up : (message : UpOf (List ℕ)) × IsUpFrame bytes message
  some_up = up_formed bytes all (sym tells ∙ held)

  pub up_read : (result : Result (UpOf (List ℕ)) WireFault) → Gives up_at bytes result after → IfOk result (IsUpFrame bytes)
  up_read (Ok read) gives = subst (IsUpFrame bytes) (sym (up_same bytes after some_up.0 read gives some_up.1)) some_up.1
  up_read (Err fault) gives = tt

  pub up_gives : (result : Result (UpOf (List ℕ)) WireFault) → Gives up_at bytes result after → (message : UpOf (List ℕ)) → IsUpFrame bytes message
      → GivesMessage message result
  up_gives (Ok read) gives message is = up_same bytes after message read gives is
  up_gives (Err faults.TooLong) gives message is = gives
  up_gives (Err faults.NotFrame) gives message is = up_unread bytes message gives is
  up_gives (Err faults.OutOfMemory) gives message is = tt

  pub up_refused : (result : Result (UpOf (List ℕ)) WireFault) → Gives up_at bytes result after → IfErr result (RefusedFor IsUpFrame bytes)
  up_refused (Ok read) gives = tt
  up_refused (Err faults.TooLong) gives = absurd gives
  up_refused (Err faults.NotFrame) gives = absurd (up_unread bytes some_up.0 gives some_up.1)
  up_refused (Err faults.OutOfMemory) gives = some_up

-- ---- down

-- bytes of another form are no frame
pub down_of_no_form : (bytes : List ℕ) (answer : Bool) → answer ≡ down_form bytes → answer ≡ false → (message : DownOf (List ℕ)) → IsDownFrame bytes message → ⊥
down_of_no_form bytes answer tells not message is = false≢true (sym not ∙ tells ∙ down_has_form bytes message is)

module _ (bytes after : List ℕ) (all : AreBytes bytes) (answer : Bool) (tells : answer ≡ down_form bytes) (held : answer ≡ true) where
  some_down : (message : DownOf (List ℕ)) × IsDownFrame bytes message
  some_down = down_formed bytes all (sym tells ∙ held)

  pub down_read : (result : Result (DownOf (List ℕ)) WireFault) → Gives down_at bytes result after → IfOk result (IsDownFrame bytes)
  down_read (Ok read) gives = subst (IsDownFrame bytes) (sym (down_same bytes after some_down.0 read gives some_down.1)) some_down.1
  down_read (Err fault) gives = tt

  pub down_gives : (result : Result (DownOf (List ℕ)) WireFault) → Gives down_at bytes result after → (message : DownOf (List ℕ)) → IsDownFrame bytes message
      → GivesMessage message result
  down_gives (Ok read) gives message is = down_same bytes after message read gives is
  down_gives (Err faults.TooLong) gives message is = gives
  down_gives (Err faults.NotFrame) gives message is = down_unread bytes message gives is
  down_gives (Err faults.OutOfMemory) gives message is = tt

  pub down_refused : (result : Result (DownOf (List ℕ)) WireFault) → Gives down_at bytes result after → IfErr result (RefusedFor IsDownFrame bytes)
  down_refused (Ok read) gives = tt
  down_refused (Err faults.TooLong) gives = absurd gives
  down_refused (Err faults.NotFrame) gives = absurd (down_unread bytes some_down.0 gives some_down.1)
  down_refused (Err faults.OutOfMemory) gives = some_down

-- The bytes of a frame tell of the message what is asked of them before memory is taken: whether it has entities or bytes of a state.

-- ---- commands

ids_told : (ids rest : List ℕ) → IdsFit ids → ids_take (ids_bytes ids ++ rest) ≡ has_some ids
unfolding ids_take ids_bytes
ids_told ids rest fits =
    let few : length ids < 2 ^ 16 = (let a = fits.few in omega arith) in
    ap ids_take (append_assoc (u16_bytes (length ids)) (flat_map u32_bytes ids) rest) ∙ rw (u16_back (length ids) (flat_map u32_bytes ids ++ rest) few) refl

last_ids : (ids : List ℕ) → IdsFit ids → ids_take (ids_bytes ids) ≡ has_some ids
last_ids ids fits = ap ids_take (sym (append-nil (ids_bytes ids))) ∙ ids_told ids [] fits

command_told : (command : Command) → CommandFits command → command_takes (command_bytes command) ≡ names_some command
unfolding command_takes kind_takes
command_told (Walk ids to) fits = ids_told ids (point_bytes to) fits.0
command_told (Stop ids) fits = last_ids ids fits
command_told (Attack ids target) fits = ids_told ids (u32_bytes target) fits.0
command_told (Delete ids) fits = last_ids ids fits
command_told (Place template at) fits = refl
command_told (Train building template) fits = refl
command_told Resign fits = refl

-- ---- messages

up_body_told : (message : UpOf (List ℕ)) → UpFits message → read_and (byte_at (up_body message)) up_tag_takes ≡ up_carries message
unfolding up_tag_takes up_command_takes up_state_takes state_takes
up_body_told up.Join fits = refl
up_body_told (up.Command turn command) fits = rw (u32_back turn (command_bytes command) fits.0) (command_told command fits.1)
up_body_told (up.Done turn) fits = refl
up_body_told (up.Report turn digest) fits = refl
up_body_told (up.State client turn bytes) fits = rw (u32_back turn bytes fits.0) refl

down_body_told : (message : DownOf (List ℕ)) → DownFits message → read_and (byte_at (down_body message)) down_tag_takes ≡ down_carries message
unfolding down_tag_takes down_command_takes down_state_takes state_takes
down_body_told (down.Ask client) fits = refl
down_body_told (down.State done bytes) fits = rw (u32_back done bytes fits.0) refl
down_body_told (down.Command turn order) fits = rw (u32_back turn (order.player ∷ command_bytes order.command) fits.0) (command_told order.command fits.1)
down_body_told (down.Release turn) fits = refl
down_body_told (down.Notice turn client) fits = refl
down_body_told (down.Refused code) fits = refl

pub up_told : (bytes : List ℕ) (message : UpOf (List ℕ)) → IsUpFrame bytes message → up_takes bytes ≡ up_carries message
unfolding up_takes
up_told bytes message is = ap up_takes is.framed ∙ rw (size_back (up_body message) (short_up message is.fits)) (up_body_told message is.fits)

pub down_told : (bytes : List ℕ) (message : DownOf (List ℕ)) → IsDownFrame bytes message → down_takes bytes ≡ down_carries message
unfolding down_takes
down_told bytes message is = ap down_takes is.framed ∙ rw (size_back (down_body message) (short_down message is.fits)) (down_body_told message is.fits)
