-- Bytes of the form of a frame are the frame of a message.
use Rattle.sim_wire.proofs.Common.{ap, append_assoc, arith, Attack, Bool, byte_at, Command, command_bytes, command_form, CommandFits, Delete, down_body}
use Rattle.sim_wire.proofs.Common.{down_command_form, down_form, down_tag_form, DownFits, DownOf, eqb, false, false≢true, flat_map, framed, ids_bytes, ids_form}
use Rattle.sim_wire.proofs.Common.{IdsFit, IsDownFrame, IsUpFrame, kind_form, length, List, ltb, ltb-false, Place, read_and, refl, Resign, state_form}
use Rattle.sim_wire.proofs.Common.{state_limit, Stop, subst, sym, Train, true, u16_bytes, u32_bytes, up_body, up_command_form, up_form, up_tag_form, UpFits}
use Rattle.sim_wire.proofs.{Common.{UpOf, Walk, ℕ, [], ◌*◌, ◌++◌, ◌+◌, ◌∙◌, ◌∷◌, ◌≡◌, ◌≤◌}, Fronts.{AreBytes, ends, half, half_held, last_half, last_point}}
use Rattle.{sim_wire.proofs.Fronts.{last_word, word, word_held, words}, std.{proofs.lemmas.{Bool.eqb-true, List.nil_from_length}, specs.Prelude.if◌then◌else◌}}
use Rattle.sim_plain.specs.declared.message.DownOf.TheVariants as down
use Rattle.sim_plain.specs.declared.message.UpOf.TheVariants as up

-- ---- tests that held

both : (b c : Bool) → (if b then false else c) ≡ true → (b ≡ false) × (c ≡ true)
both true c e = absurd (false≢true e)
both false c e = (refl, e)

and_so : (b c : Bool) → (if b then c else false) ≡ true → (b ≡ true) × (c ≡ true)
and_so true c e = (refl, e)
and_so false c e = absurd (false≢true e)

-- a number is this one, or the other cases are left
by_number : (k n : ℕ) (x y : Bool) (C : Type 0) → (if eqb k n then x else y) ≡ true → (k ≡ n → x ≡ true → C) → (y ≡ true → C) → C
by_number k n x y C e here other = go (eqb k n) refl e
  where
    go : (b : Bool) → eqb k n ≡ b → (if b then x else y) ≡ true → C
    go true is held = here (eqb-true k n is) held
    go false is held = other held

-- ---- commands

record Ids (behind : ℕ) (bytes : List ℕ) : Type 0 where
  ids : List ℕ
  rest : List ℕ
  fits : IdsFit ids
  is : bytes ≡ ids_bytes ids ++ rest
  left : length rest ≡ behind
  others : AreBytes rest

ids_formed : (behind : ℕ) (bytes : List ℕ) → AreBytes bytes → ids_form behind bytes ≡ true → Ids behind bytes
unfolding ids_form ids_bytes
ids_formed behind bytes all e =
    let h = half_held bytes (λ count rest. if ltb 256 count then false else eqb (length rest) (4 * count + behind)) all e in
    let p = both (ltb 256 h.0.number) (eqb (length h.0.rest) (4 * h.0.number + behind)) h.1 in
    let few : h.0.number ≤ 256 = ltb-false 256 h.0.number p.0 in
    let sized : length h.0.rest ≡ 4 * h.0.number + behind = eqb-true (length h.0.rest) (4 * h.0.number + behind) p.1 in
    let more = words h.0.number h.0.rest h.0.others (omega arith) in
    let numbers : List ℕ = flat_map u32_bytes more.ids in
    record {
      ids = more.ids;
      rest = more.rest;
      fits = record { few = omega (arith, more.count); each = more.each };
      is = h.0.is ∙ ap (λ (x : List ℕ). u16_bytes h.0.number ++ x) more.is ∙ ap (λ (n : ℕ). u16_bytes n ++ (flat_map u32_bytes more.ids ++ more.rest))
          (sym more.count) ∙ sym (append_assoc (u16_bytes (length more.ids)) (flat_map u32_bytes more.ids) more.rest);
      left = omega (arith, more.left);
      others = more.others;
    }

record OfCommand (bytes : List ℕ) : Type 0 where
  command : Command
  fits : CommandFits command
  is : bytes ≡ command_bytes command

walk_formed : (bytes : List ℕ) → AreBytes bytes → ids_form 8 bytes ≡ true → OfCommand (1 ∷ bytes)
walk_formed bytes all e =
    let i = ids_formed 8 bytes all e in
    let p = last_point i.rest i.others i.left in
    record { command = Walk i.ids p.point; fits = (i.fits, p.fits); is = ap (λ (x : List ℕ). 1 ∷ x) (i.is ∙ ap (λ (x : List ℕ). ids_bytes i.ids ++ x) p.is) }

stop_formed : (bytes : List ℕ) → AreBytes bytes → ids_form 0 bytes ≡ true → OfCommand (2 ∷ bytes)
stop_formed bytes all e =
    let i = ids_formed 0 bytes all e in
    record { command = Stop i.ids; fits = i.fits; is = ap (λ (x : List ℕ). 2 ∷ x) (i.is ∙ ends (ids_bytes i.ids) i.rest i.left) }

attack_formed : (bytes : List ℕ) → AreBytes bytes → ids_form 4 bytes ≡ true → OfCommand (3 ∷ bytes)
attack_formed bytes all e =
    let i = ids_formed 4 bytes all e in
    let target = last_word i.rest i.others i.left in
    record {
      command = Attack i.ids target.number;
      fits = (i.fits, target.fits);
      is =
          ap (λ (x : List ℕ). 3 ∷ x) (i.is ∙ ap (λ (x : List ℕ). ids_bytes i.ids ++ x) target.is);
    }

delete_formed : (bytes : List ℕ) → AreBytes bytes → ids_form 0 bytes ≡ true → OfCommand (4 ∷ bytes)
delete_formed bytes all e =
    let i = ids_formed 0 bytes all e in
    record { command = Delete i.ids; fits = i.fits; is = ap (λ (x : List ℕ). 4 ∷ x) (i.is ∙ ends (ids_bytes i.ids) i.rest i.left) }

place_formed : (bytes : List ℕ) → AreBytes bytes → eqb (length bytes) 10 ≡ true → OfCommand (5 ∷ bytes)
place_formed bytes all e =
    let sized = eqb-true (length bytes) 10 e in
    let template = half bytes all (omega arith) in
    let p = last_point template.rest template.others (omega (arith, template.left)) in
    record {
      command = Place template.number p.point;
      fits = (template.fits, p.fits);
      is =
          ap (λ (x : List ℕ). 5 ∷ x) (template.is ∙ ap (λ (x : List ℕ). u16_bytes template.number ++ x) p.is);
    }

train_formed : (bytes : List ℕ) → AreBytes bytes → eqb (length bytes) 6 ≡ true → OfCommand (6 ∷ bytes)
train_formed bytes all e =
    let sized = eqb-true (length bytes) 6 e in
    let building = word bytes all (omega arith) in
    let template = last_half building.rest building.others (omega (arith, building.left)) in
    record {
      command = Train building.number template.number;
      fits = (building.fits, template.fits);
      is =
          ap (λ (x : List ℕ). 6 ∷ x) (building.is ∙ ap (λ (x : List ℕ). u32_bytes building.number ++ x) template.is);
    }

resign_formed : (bytes : List ℕ) → eqb (length bytes) 0 ≡ true → OfCommand (7 ∷ bytes)
resign_formed bytes e = record { command = Resign; fits = tt; is = ap (λ (x : List ℕ). 7 ∷ x) (nil_from_length bytes (eqb-true (length bytes) 0 e)) }

kind_formed : (kind : ℕ) (bytes : List ℕ) → AreBytes bytes → kind_form kind bytes ≡ true → OfCommand (kind ∷ bytes)
unfolding kind_form
kind_formed kind bytes all e =
    by_number kind 1 _ _ _ e (λ k h. at k (walk_formed bytes all h)) (λ e.
    by_number kind 2 _ _ _ e (λ k h. at k (stop_formed bytes all h)) (λ e.
    by_number kind 3 _ _ _ e (λ k h. at k (attack_formed bytes all h)) (λ e.
    by_number kind 4 _ _ _ e (λ k h. at k (delete_formed bytes all h)) (λ e.
    by_number kind 5 _ _ _ e (λ k h. at k (place_formed bytes all h)) (λ e.
    by_number kind 6 _ _ _ e (λ k h. at k (train_formed bytes all h)) (λ e.
    by_number kind 7 _ _ _ e (λ k h. at k (resign_formed bytes h)) (λ e. absurd (false≢true e))))))))
  where
    at : {n : ℕ} → kind ≡ n → OfCommand (n ∷ bytes) → OfCommand (kind ∷ bytes)
    at {n} k of = subst (λ (x : ℕ). OfCommand (x ∷ bytes)) (sym k) of

command_formed : (bytes : List ℕ) → AreBytes bytes → command_form bytes ≡ true → OfCommand bytes
unfolding command_form
command_formed [] all e = absurd (false≢true e)
command_formed (kind ∷ bytes) all e = kind_formed kind bytes all.1 e

-- ---- states

-- how many bytes a state has behind others
record Sized (before : ℕ) (bytes : List ℕ) : Type 0 where
  long : before ≤ length bytes
  short : length bytes ≤ before + state_limit

state_sized : (before : ℕ) (bytes : List ℕ) → state_form before bytes ≡ true → Sized before bytes
unfolding state_form
state_sized before bytes e =
    let p = both (ltb (length bytes) before) (if ltb (before + state_limit) (length bytes) then false else true) e in
    let q = both (ltb (before + state_limit) (length bytes)) true p.1 in
    record { long = ltb-false (length bytes) before p.0; short = ltb-false (before + state_limit) (length bytes) q.0 }

-- ---- what a client says

record OfUp (body : List ℕ) : Type 0 where
  message : UpOf (List ℕ)
  fits : UpFits message
  is : body ≡ up_body message

join_formed : (bytes : List ℕ) → eqb (length bytes) 0 ≡ true → OfUp (1 ∷ bytes)
join_formed bytes e = record { message = up.Join; fits = tt; is = ap (λ (x : List ℕ). 1 ∷ x) (nil_from_length bytes (eqb-true (length bytes) 0 e)) }

up_command_formed : (bytes : List ℕ) → AreBytes bytes → up_command_form bytes ≡ true → OfUp (2 ∷ bytes)
unfolding up_command_form
up_command_formed bytes all e =
    let turn = word_held bytes (λ turn. command_form) all e in
    let c = command_formed turn.0.rest turn.0.others turn.1 in
    record {
      message = up.Command turn.0.number c.command;
      fits = (turn.0.fits, c.fits);
      is =
          ap (λ (x : List ℕ). 2 ∷ x) (turn.0.is ∙ ap (λ (x : List ℕ). u32_bytes turn.0.number ++ x) c.is);
    }

done_formed : (bytes : List ℕ) → AreBytes bytes → eqb (length bytes) 4 ≡ true → OfUp (3 ∷ bytes)
done_formed bytes all e =
    let turn = last_word bytes all (eqb-true (length bytes) 4 e) in
    record { message = up.Done turn.number; fits = turn.fits; is = ap (λ (x : List ℕ). 3 ∷ x) turn.is }

report_formed : (bytes : List ℕ) → AreBytes bytes → eqb (length bytes) 20 ≡ true → OfUp (4 ∷ bytes)
report_formed bytes all e =
    let sized = eqb-true (length bytes) 20 e in
    let turn = word bytes all (omega arith) in
    record { message = up.Report turn.number turn.rest; fits = (turn.fits, omega (arith, turn.left)); is = ap (λ (x : List ℕ). 4 ∷ x) turn.is }

up_state_formed : (bytes : List ℕ) → AreBytes bytes → Sized 5 bytes → OfUp (5 ∷ bytes)
up_state_formed [] all sized = let long = sized.long in absurd (omega arith)
up_state_formed (client ∷ bytes) all sized =
    let long = sized.long in
    let short = sized.short in
    let turn = word bytes all.1 (omega arith) in
    record { message = up.State client turn.number turn.rest; fits = (turn.fits, omega (arith, turn.left)); is = ap (λ (x : List ℕ). 5 ∷ client ∷ x) turn.is }

up_tag_formed : (tag : ℕ) (bytes : List ℕ) → AreBytes bytes → up_tag_form tag bytes ≡ true → OfUp (tag ∷ bytes)
unfolding up_tag_form
up_tag_formed tag bytes all e =
    by_number tag 1 _ _ _ e (λ k h. at k (join_formed bytes h)) (λ e.
    by_number tag 2 _ _ _ e (λ k h. at k (up_command_formed bytes all h)) (λ e.
    by_number tag 3 _ _ _ e (λ k h. at k (done_formed bytes all h)) (λ e.
    by_number tag 4 _ _ _ e (λ k h. at k (report_formed bytes all h)) (λ e.
    by_number tag 5 _ _ _ e (λ k h. at k (up_state_formed bytes all (state_sized 5 bytes h))) (λ e. absurd (false≢true e))))))
  where
    at : {n : ℕ} → tag ≡ n → OfUp (n ∷ bytes) → OfUp (tag ∷ bytes)
    at {n} k of = subst (λ (x : ℕ). OfUp (x ∷ bytes)) (sym k) of

up_body_formed : (body : List ℕ) → AreBytes body → read_and (byte_at body) up_tag_form ≡ true → OfUp body
up_body_formed [] all e = absurd (false≢true e)
up_body_formed (tag ∷ bytes) all e = up_tag_formed tag bytes all.1 e

pub up_formed : (bytes : List ℕ) → AreBytes bytes → up_form bytes ≡ true → (message : UpOf (List ℕ)) × IsUpFrame bytes message
unfolding up_form
up_formed bytes all e =
    let size = word_held bytes (λ size body. if eqb size (length body) then read_and (byte_at body) up_tag_form else false) all e in
    let p = and_so (eqb size.0.number (length size.0.rest)) (read_and (byte_at size.0.rest) up_tag_form) size.1 in
    let body = up_body_formed size.0.rest size.0.others p.1 in (
      body.message,
      record {
        fits = body.fits;
        framed = size.0.is ∙ ap (λ (n : ℕ). u32_bytes n ++ size.0.rest) (eqb-true size.0.number (length size.0.rest) p.0) ∙
            ap framed body.is;
      },
    )

-- ---- what the server says

record OfDown (body : List ℕ) : Type 0 where
  message : DownOf (List ℕ)
  fits : DownFits message
  is : body ≡ down_body message

-- one byte at the end
record One (bytes : List ℕ) : Type 0 where
  byte : ℕ
  is : bytes ≡ byte ∷ []

one : (bytes : List ℕ) → length bytes ≡ 1 → One bytes
one [] e = absurd (omega arith)
one (b ∷ bytes) e = record { byte = b; is = ap (λ (x : List ℕ). b ∷ x) (nil_from_length bytes (omega arith)) }

ask_formed : (bytes : List ℕ) → eqb (length bytes) 1 ≡ true → OfDown (1 ∷ bytes)
ask_formed bytes e =
    let client = one bytes (eqb-true (length bytes) 1 e) in
    record { message = down.Ask client.byte; fits = tt; is = ap (λ (x : List ℕ). 1 ∷ x) client.is }

down_state_formed : (bytes : List ℕ) → AreBytes bytes → Sized 4 bytes → OfDown (2 ∷ bytes)
down_state_formed bytes all sized =
    let long = sized.long in
    let short = sized.short in
    let turn = word bytes all long in
    record { message = down.State turn.number turn.rest; fits = (turn.fits, omega (arith, turn.left)); is = ap (λ (x : List ℕ). 2 ∷ x) turn.is }

-- behind a turn stand a player and a command
record OfOrder (bytes : List ℕ) : Type 0 where
  player : ℕ
  command : Command
  fits : CommandFits command
  is : bytes ≡ player ∷ command_bytes command

order_formed : (bytes : List ℕ) → AreBytes bytes → read_and (byte_at bytes) (λ player. command_form) ≡ true → OfOrder bytes
order_formed [] all e = absurd (false≢true e)
order_formed (player ∷ bytes) all e =
    let c = command_formed bytes all.1 e in
    record { player = player; command = c.command; fits = c.fits; is = ap (λ (x : List ℕ). player ∷ x) c.is }

down_command_formed : (bytes : List ℕ) → AreBytes bytes → down_command_form bytes ≡ true → OfDown (3 ∷ bytes)
unfolding down_command_form
down_command_formed bytes all e =
    let turn = word_held bytes (λ turn rest. read_and (byte_at rest) (λ player. command_form)) all e in
    let order = order_formed turn.0.rest turn.0.others turn.1 in
    record {
      message = down.Command turn.0.number (record { player = order.player; command = order.command });
      fits = (turn.0.fits, order.fits);
      is = ap (λ (x : List ℕ). 3 ∷ x) (turn.0.is ∙ ap (λ (x : List ℕ). u32_bytes turn.0.number ++ x) order.is);
    }

release_formed : (bytes : List ℕ) → AreBytes bytes → eqb (length bytes) 4 ≡ true → OfDown (4 ∷ bytes)
release_formed bytes all e =
    let turn = last_word bytes all (eqb-true (length bytes) 4 e) in
    record { message = down.Release turn.number; fits = turn.fits; is = ap (λ (x : List ℕ). 4 ∷ x) turn.is }

notice_formed : (bytes : List ℕ) → AreBytes bytes → eqb (length bytes) 5 ≡ true → OfDown (5 ∷ bytes)
notice_formed bytes all e =
    let sized = eqb-true (length bytes) 5 e in
    let turn = word bytes all (omega arith) in
    let client = one turn.rest (omega (arith, turn.left)) in
    record {
      message = down.Notice turn.number client.byte;
      fits = turn.fits;
      is =
          ap (λ (x : List ℕ). 5 ∷ x) (turn.is ∙ ap (λ (x : List ℕ). u32_bytes turn.number ++ x) client.is);
    }

refused_formed : (bytes : List ℕ) → eqb (length bytes) 1 ≡ true → OfDown (6 ∷ bytes)
refused_formed bytes e =
    let code = one bytes (eqb-true (length bytes) 1 e) in
    record { message = down.Refused code.byte; fits = tt; is = ap (λ (x : List ℕ). 6 ∷ x) code.is }

down_tag_formed : (tag : ℕ) (bytes : List ℕ) → AreBytes bytes → down_tag_form tag bytes ≡ true → OfDown (tag ∷ bytes)
unfolding down_tag_form
down_tag_formed tag bytes all e =
    by_number tag 1 _ _ _ e (λ k h. at k (ask_formed bytes h)) (λ e.
    by_number tag 2 _ _ _ e (λ k h. at k (down_state_formed bytes all (state_sized 4 bytes h))) (λ e.
    by_number tag 3 _ _ _ e (λ k h. at k (down_command_formed bytes all h)) (λ e.
    by_number tag 4 _ _ _ e (λ k h. at k (release_formed bytes all h)) (λ e.
    by_number tag 5 _ _ _ e (λ k h. at k (notice_formed bytes all h)) (λ e.
    by_number tag 6 _ _ _ e (λ k h. at k (refused_formed bytes h)) (λ e. absurd (false≢true e)))))))
  where
    at : {n : ℕ} → tag ≡ n → OfDown (n ∷ bytes) → OfDown (tag ∷ bytes)
    at {n} k of = subst (λ (x : ℕ). OfDown (x ∷ bytes)) (sym k) of

down_body_formed : (body : List ℕ) → AreBytes body → read_and (byte_at body) down_tag_form ≡ true → OfDown body
down_body_formed [] all e = absurd (false≢true e)
down_body_formed (tag ∷ bytes) all e = down_tag_formed tag bytes all.1 e

pub down_formed : (bytes : List ℕ) → AreBytes bytes → down_form bytes ≡ true → (message : DownOf (List ℕ)) × IsDownFrame bytes message
unfolding down_form
down_formed bytes all e =
    let size = word_held bytes (λ size body. if eqb size (length body) then read_and (byte_at body) down_tag_form else false) all e in
    let p = and_so (eqb size.0.number (length size.0.rest)) (read_and (byte_at size.0.rest) down_tag_form) size.1 in
    let body = down_body_formed size.0.rest size.0.others p.1 in (
      body.message,
      record {
        fits = body.fits;
        framed = size.0.is ∙ ap (λ (n : ℕ). u32_bytes n ++ size.0.rest) (eqb-true size.0.number (length size.0.rest) p.0) ∙
            ap framed body.is;
      },
    )
