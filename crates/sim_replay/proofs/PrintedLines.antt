-- A line is read as what it is printed of, and what is read of a line is printed so.
use Rattle.{sim_base.proofs.Lists.bytes_eq-same, sim_replay.proofs.Common.{and_from, and_parts, ap, append_assoc, arith, behind, bytes_eq, bytes_eq-Decides}}
use Rattle.sim_replay.proofs.Common.{codes, command_text, CommandFits, cond-true, decimal, decode_of-ok, decode_sized, decode_sized-encode_lower}
use Rattle.sim_replay.proofs.Common.{decode_sized-ok, decode_sized-twice, digest_front, digest_in, digest_line, digest_of, encode_lower, encode_with, Err}
use Rattle.sim_replay.proofs.Common.{FromHexError, header_line, ids_in, is_utf8, is_utf8-from_IsUtf8, IsDigest, IsUtf8-from_ascii, length, List, list_all}
use Rattle.sim_replay.proofs.Common.{lower_digits, None, Ok, order_front, order_in, order_line, order_of, PlayerCommand, refl, Result, result_ok, Setup}
use Rattle.sim_replay.proofs.Common.{slice_index, Some, spelled, subst, suc, sym, text_in, true, zero, ℕ, [], ◌%◌, ◌*◌, ◌++◌, ◌/◌, ◌<◌, ◌^◌, ◌∙◌, ◌∷◌, ◌≡◌, ◌≤◌}
use Rattle.sim_replay.proofs.Cuts.{all-append, all-weaker, behind-append, bind_some, bound, is_inner, is_plain, order_of-text, passed, plain-command}
use Rattle.sim_replay.proofs.{Cuts.{plain-decimal, plain_is_ascii, plain_is_inner}, FittingCommands.order_of-fits}

-- ---- the spelling

spelled-itself : {X : Type 0} (line_of : X → List ℕ) (x : X) → spelled line_of (line_of x) x ≡ Some x
spelled-itself line_of x = cond-true _ _ _ (bytes_eq-same (line_of x))

-- what was taken is the value, and its line is this one
record Taken {X : Type 0} (line_of : X → List ℕ) (line : List ℕ) (x y : X) : Type 0 where
  same : x ≡ y
  line_is : line ≡ line_of y

spelled-taken : {X : Type 0} (line_of : X → List ℕ) (line : List ℕ) (x y : X) → spelled line_of line x ≡ Some y → Taken line_of line x y
spelled-taken line_of line x y e =
    let p = passed (bytes_eq (line_of x) line) (Some x) y e in
    let equal : x ≡ y = let h = p.gives in cc in
    record { same = equal; line_is = sym ((bytes_eq-Decides (line_of x) line).0 p.yes) ∙ ap line_of equal }

-- ---- the end of a turn

pub digest_in-line : (turn : ℕ) (digest : List ℕ) → IsDigest digest → digest_in turn (digest_line turn digest) ≡ Some digest
unfolding digest_in
digest_in-line turn digest is =
    bind_some _ (encode_lower digest) _ _ (behind-append (digest_front turn) (encode_lower digest))
    (bind_some _ digest _ _ (ap result_ok (decode_sized-encode_lower digest 16 is.long is.bytes)) (spelled-itself (digest_line turn) digest))

-- a command's line ends no turn
pub digest_in-order : (turn other : ℕ) (order : PlayerCommand) → digest_in turn (order_line other order) ≡ None
unfolding digest_in
digest_in-order turn other order = refl

-- a digest that was taken of its line
pub record DigestTaken (turn : ℕ) (line digest : List ℕ) : Type 0 where
  pub line_is : line ≡ digest_line turn digest
  pub is_digest : IsDigest digest

decoded : (text digest : List ℕ) → digest_of text ≡ Some digest → IsDigest digest
decoded text digest e = by (decode_sized text 16) refl e
  where
    by : (r : Result (List ℕ) FromHexError) → decode_sized text 16 ≡ r → result_ok r ≡ Some digest → IsDigest digest
    by (Ok bytes) is h =
        let same : bytes ≡ digest = cc in
        let long : length text ≡ 2 * 16 = decode_sized-ok text 16 bytes is in
        let ok = decode_of-ok text bytes (sym (decode_sized-twice text 16 long) ∙ is) in
        subst IsDigest same (record { long = omega (arith, long, ok.2); bytes = ok.3 })
    by (Err fault) is h = absurd cc

pub digest_in-taken : (turn : ℕ) (line digest : List ℕ) → digest_in turn line ≡ Some digest → DigestTaken turn line digest
unfolding digest_in
digest_in-taken turn line digest e =
    let b = bound (behind (digest_front turn) line) _ digest e in
    let d = bound (digest_of b.x) _ digest b.second in
    let taken = spelled-taken (digest_line turn) line d.x digest d.second in
    record { line_is = taken.line_is; is_digest = subst IsDigest taken.same (decoded b.x d.x d.first) }

-- ---- a command of a turn

-- what follows the front of a command's line
abbrev order_rest : PlayerCommand → List ℕ
order_rest order = decimal order.player ++ (codes " " ++ command_text order.command)

order_line-is : (turn : ℕ) (order : PlayerCommand) → order_line turn order ≡ order_front turn ++ order_rest order
order_line-is turn order = ap (λ (xs : List ℕ). codes "command turn " ++ xs) (sym (append_assoc (decimal turn) (codes " player ") (order_rest order))) ∙
    sym (append_assoc (codes "command turn ") (decimal turn ++ codes " player ") (order_rest order))

plain-rest : (order : PlayerCommand) → order.player < 2 ^ 8 → CommandFits order.command → list_all is_plain (order_rest order) ≡ true
plain-rest order small fits = all-append is_plain (decimal order.player) (32 ∷ command_text order.command) (plain-decimal order.player (omega arith))
    (plain-command order.command fits)

pub order_in-line : (turn : ℕ) (order : PlayerCommand) → order.player < 2 ^ 8 → CommandFits order.command → order_in turn (order_line turn order) ≡ Some order
unfolding order_in
order_in-line turn order small fits =
    let rest = order_rest order in
    bind_some _ rest _ _ (ap (behind (order_front turn)) (order_line-is turn order) ∙ behind-append (order_front turn) rest)
    (bind_some _ rest _ _ (cond-true _ _ _ (utf8 rest (plain-rest order small fits)))
    (bind_some _ order _ _ (order_of-text order small fits) (spelled-itself (order_line turn) order)))
  where
    utf8 : (rest : List ℕ) → list_all is_plain rest ≡ true → is_utf8 rest ≡ true
    utf8 rest plain = is_utf8-from_IsUtf8 rest (IsUtf8-from_ascii rest (plain_is_ascii rest plain))

-- a command that was taken of its line
pub record OrderTaken (turn : ℕ) (line : List ℕ) (order : PlayerCommand) : Type 0 where
  pub line_is : line ≡ order_line turn order
  pub fits : ids_in order.command ≤ 256 → CommandFits order.command

pub order_in-taken : (turn : ℕ) (line : List ℕ) (order : PlayerCommand) → order_in turn line ≡ Some order → OrderTaken turn line order
unfolding order_in
order_in-taken turn line order e =
    let b = bound (behind (order_front turn) line) _ order e in
    let t = bound (text_in b.x) _ order b.second in
    let d = bound (order_of t.x) _ order t.second in
    let taken = spelled-taken (order_line turn) line d.x order d.second in
    record {
      line_is = taken.line_is;
      fits = subst (λ (o : PlayerCommand). ids_in o.command ≤ 256 → CommandFits o.command) taken.same (order_of-fits t.x d.x d.first);
    }

-- ---- no line has a line feed in it

inner-at : (digits : List ℕ) (k : ℕ) → list_all is_inner digits ≡ true → is_inner (slice_index digits k) ≡ true
inner-at [] k all = refl
inner-at (c ∷ cs) zero all = (and_parts (is_inner c) (list_all is_inner cs) all).0
inner-at (c ∷ cs) (suc k) all = inner-at cs k (and_parts (is_inner c) (list_all is_inner cs) all).1

inner-digits : (bytes : List ℕ) → list_all is_inner (encode_lower bytes) ≡ true
unfolding encode_with
inner-digits [] = refl
inner-digits (b ∷ bytes) =
    and_from _ _ (inner-at lower_digits (b / 16) refl) (and_from _ _ (inner-at lower_digits (b % 16) refl) (inner-digits bytes))

inner-plain : (text : List ℕ) → list_all is_plain text ≡ true → list_all is_inner text ≡ true
inner-plain text plain = all-weaker is_plain is_inner plain_is_inner text plain

pub inner-header : (setup : Setup) → list_all is_inner (header_line setup) ≡ true
inner-header setup = all-append is_inner (codes "simlog 1 ") (encode_lower setup.id) refl (inner-digits setup.id)

pub inner-digest_line : (turn : ℕ) (digest : List ℕ) → turn < 2 ^ 64 → list_all is_inner (digest_line turn digest) ≡ true
inner-digest_line turn digest small =
    let number = inner-plain (decimal turn) (plain-decimal turn small) in
    all-append is_inner (digest_front turn) (encode_lower digest) (all-append is_inner (codes "turn ") (decimal turn ++ codes " ") refl
    (all-append is_inner (decimal turn) (codes " ") number refl)) (inner-digits digest)

pub inner-order_line : (turn : ℕ) (order : PlayerCommand) → turn < 2 ^ 64 → order.player < 2 ^ 8 → CommandFits order.command
    → list_all is_inner (order_line turn order) ≡ true
inner-order_line turn order small player fits =
    inner-plain (order_line turn order) (all-append is_plain (codes "command turn ") (decimal turn ++ (codes " player " ++ order_rest order)) refl
    (all-append is_plain (decimal turn) (codes " player " ++ order_rest order) (plain-decimal turn small) (plain-rest order player fits)))
