-- What is appended to a text in parts: the old text stays before them, and the new one may be cut there.
use Rattle.std.proofs.Common.{ap, arith, length, List, subst, sym, take, ℕ, ◌++◌, ◌∙◌, ◌≡◌, ◌≤◌}
use Rattle.std.proofs.{lemmas.{List.{length-append, length-take, take-take}, Str.{IsCharBoundary-from_take, IsUtf8-string_bytes}}, Math.Seq.take-append_seam}
use Rattle.std.specs.{Prelude.{String, string_bytes}, Str.IsUtf8, String.{Boundary.IsSplitPoint, string_len}}

-- the old text stands before what was appended to it, and then to that
pub take-appended_more : (old rest mid new : List ℕ) → mid ≡ old ++ rest → take (length mid) new ≡ mid → take (length old) new ≡ old
take-appended_more old rest mid new e kept =
    let within : length old ≤ length mid = omega (arith, ap length e, length-append old rest) in
    sym (take-take (length old) (length mid) new within) ∙ ap (take (length old)) (kept ∙ e) ∙ take-append_seam old rest

-- a character begins where the old text ended, since both are texts
pub IsSplitPoint-appended : {Z : Type 0} (old new : String Z) (n : ℕ) → n ≡ string_len old → take (length (string_bytes old)) (string_bytes new) ≡
    string_bytes old → IsSplitPoint (string_bytes new) n
IsSplitPoint-appended old new n place kept =
    let before = string_bytes old in
    let after = string_bytes new in
    let within : length before ≤ length after = omega (arith, ap length kept, length-take (length before) after) in
    let boundary = IsCharBoundary-from_take after (length before) (IsUtf8-string_bytes new) within (subst IsUtf8 (sym kept) (IsUtf8-string_bytes old)) in
    rw (place ∙ old.bytes.ok.0) (boundary.0, λ _. boundary.1)
