-- The frame of a message has the form of a frame.
use Rattle.sim_wire.proofs.Common.{[], ◌*◌, ◌++◌, ◌+◌, ◌<◌, ◌^◌, ◌∙◌, ◌∷◌, ◌≡◌, ◌≤◌, ap, append-nil, append_assoc, arith, Attack, byte_at, Command}
use Rattle.sim_wire.proofs.Common.{command_bytes, command_form, CommandFits, Delete, down_body, down_command_form, down_form, down_tag_form, DownFits, DownOf}
use Rattle.sim_wire.proofs.Common.{eqb, false, flat_map, ids_bytes, ids_form, IdsFit, IsDownFrame, IsUpFrame, kind_form, le-ltb, length, length-append}
use Rattle.sim_wire.proofs.Common.{length-u16_bytes, length-u32_bytes, List, ltb, Place, point_bytes, read_and, refl, Resign, state_form, state_limit, Stop}
use Rattle.sim_wire.proofs.Common.{sym, Train, true, u16_back, u16_bytes, u32_back, u32_bytes, up_body, up_command_form, up_form, up_tag_form, UpFits, UpOf}
use Rattle.sim_wire.proofs.{Common.Walk, Common.ℕ, Lengths.length_behind, Lengths.length_of_numbers, Lengths.length_of_point, Lengths.length_of_turn}
use Rattle.{sim_wire.proofs.Standing.short_down, sim_wire.proofs.Standing.short_up, sim_wire.proofs.Standing.size_back, std.proofs.lemmas.Bool.eq-eqb}
use Rattle.sim_plain.specs.declared.message.DownOf.TheVariants as down
use Rattle.sim_plain.specs.declared.message.UpOf.TheVariants as up

-- ---- commands

ids_formed : (behind : ℕ) (ids rest : List ℕ) → IdsFit ids → length rest ≡ behind → ids_form behind (ids_bytes ids ++ rest) ≡ true
unfolding ids_form ids_bytes
ids_formed behind ids rest fits left =
    let few : length ids < 2 ^ 16 = (let a = fits.few in omega arith) in
    let short : ltb 256 (length ids) ≡ false = le-ltb _ _ fits.few in
    let sized : eqb (length (flat_map u32_bytes ids ++ rest)) (4 * length ids + behind) ≡ true =
    eq-eqb _ _ (omega (arith, length-append (flat_map u32_bytes ids) rest, length_of_numbers ids)) in
    ap (ids_form behind) (append_assoc (u16_bytes (length ids)) (flat_map u32_bytes ids) rest) ∙
    rw (u16_back (length ids) (flat_map u32_bytes ids ++ rest) few, short) sized

last_ids : (ids : List ℕ) → IdsFit ids → ids_form 0 (ids_bytes ids) ≡ true
last_ids ids fits = ap (ids_form 0) (sym (append-nil (ids_bytes ids))) ∙ ids_formed 0 ids [] fits refl

command_formed : (command : Command) → CommandFits command → command_form (command_bytes command) ≡ true
unfolding command_form kind_form
command_formed (Walk ids to) fits = ids_formed 8 ids (point_bytes to) fits.0 (length_of_point to)
command_formed (Stop ids) fits = last_ids ids fits
command_formed (Attack ids target) fits = ids_formed 4 ids (u32_bytes target) fits.0 (length-u32_bytes target)
command_formed (Delete ids) fits = last_ids ids fits
command_formed (Place template at) fits =
    eq-eqb _ _ (omega (arith, length-append (u16_bytes template) (point_bytes at), length-u16_bytes template, length_of_point at))
command_formed (Train building template) fits =
    eq-eqb _ _ (omega (arith, length-append (u32_bytes building) (u16_bytes template), length-u32_bytes building, length-u16_bytes template))
command_formed Resign fits = refl

-- ---- messages

state_formed : (before : ℕ) (bytes : List ℕ) → before ≤ length bytes → length bytes ≤ before + state_limit → state_form before bytes ≡ true
unfolding state_form
state_formed before bytes long short =
    let a : ltb (length bytes) before ≡ false = le-ltb _ _ long in
    let b : ltb (before + state_limit) (length bytes) ≡ false = le-ltb _ _ short in
    rw (a, b) refl

up_body_formed : (message : UpOf (List ℕ)) → UpFits message → read_and (byte_at (up_body message)) up_tag_form ≡ true
unfolding up_tag_form up_command_form
up_body_formed up.Join fits = refl
up_body_formed (up.Command turn command) fits = rw (u32_back turn (command_bytes command) fits.0) (command_formed command fits.1)
up_body_formed (up.Done turn) fits = eq-eqb _ _ (length_of_turn turn)
up_body_formed (up.Report turn digest) fits = eq-eqb _ _ (omega (arith, length_behind turn digest, fits.1))
up_body_formed (up.State client turn bytes) fits = state_formed 5 (client ∷ (u32_bytes turn ++ bytes)) (omega (arith, length_behind turn bytes))
    (omega (arith, length_behind turn bytes, fits.1))

down_body_formed : (message : DownOf (List ℕ)) → DownFits message → read_and (byte_at (down_body message)) down_tag_form ≡ true
unfolding down_tag_form down_command_form
down_body_formed (down.Ask client) fits = refl
down_body_formed (down.State done bytes) fits = state_formed 4 (u32_bytes done ++ bytes) (omega (arith, length_behind done bytes))
    (omega (arith, length_behind done bytes, fits.1))
down_body_formed (down.Command turn order) fits = rw (u32_back turn (order.player ∷ command_bytes order.command) fits.0) (command_formed order.command fits.1)
down_body_formed (down.Release turn) fits = eq-eqb _ _ (length_of_turn turn)
down_body_formed (down.Notice turn client) fits = eq-eqb _ _ (length_behind turn (client ∷ []))
down_body_formed (down.Refused code) fits = refl

pub up_has_form : (bytes : List ℕ) (message : UpOf (List ℕ)) → IsUpFrame bytes message → up_form bytes ≡ true
unfolding up_form
up_has_form bytes message is =
    let sized : eqb (length (up_body message)) (length (up_body message)) ≡ true = eq-eqb _ _ refl in
    ap up_form is.framed ∙ rw (size_back (up_body message) (short_up message is.fits), sized) (up_body_formed message is.fits)

pub down_has_form : (bytes : List ℕ) (message : DownOf (List ℕ)) → IsDownFrame bytes message → down_form bytes ≡ true
unfolding down_form
down_has_form bytes message is =
    let sized : eqb (length (down_body message)) (length (down_body message)) ≡ true = eq-eqb _ _ refl in
    ap down_form is.framed ∙ rw (size_back (down_body message) (short_down message is.fits), sized) (down_body_formed message is.fits)
