-- Which bytes of a piece are read, and which are poured into a line.
use Rattle.sim_talk.specs.Lines.{IsWithinLine, PoursOpen, PoursTooMuch, PoursWhole}
use Rattle.std.proofs.Common.{ap, arith, drop, get_or, length, length-append, length-drop, List, subst, suc, sym, take, ℕ, [], ◌++◌, ◌+◌, ◌-◌, ◌<◌, ◌∙◌, ◌∷◌}
use Rattle.std.proofs.{Common.{◌≡◌, ◌≤◌}, lemmas.List.{drop-drop, get_or-take, get_or_default, length-take-le, nil_from_length, take-append-drop}}
use Rattle.std.{proofs.Math.Seq.{drop-cons, take-append_seam, take-length}, specs.Prelude.min}

-- what a read copies to the front of the buffer, and what it leaves, is what was left before
pub drop-read : (bytes into front : List ℕ) (at count : ℕ) → count ≤ length (drop at bytes) → front ≡ take count (drop at bytes)
    → drop at bytes ≡ take count (front ++ drop count into) ++ drop (at + count) bytes
drop-read bytes into front at count fits copied =
    let long : length front ≡ count = ap length copied ∙ length-take-le count (drop at bytes) fits in
    let seam : take count (front ++ drop count into) ≡ front = ap (λ k. take k (front ++ drop count into)) (sym long) ∙
    take-append_seam front (drop count into) in
    let left : drop (at + count) bytes ≡ drop count (drop at bytes) = sym (drop-drop count at bytes) in
    sym (take-append-drop count (drop at bytes)) ∙ ap (λ (l : List ℕ). l ++ drop count (drop at bytes)) (sym copied ∙ sym seam)
    ∙ ap (λ (l : List ℕ). take count (front ++ drop count into) ++ l) (sym left)

-- where a read gives nothing though it may, nothing was left
pub nothing_left : (bytes into front : List ℕ) (at most count : ℕ) → count ≡ min (min (length (drop at bytes)) most) (length into) → 1 ≤ most
    → length front ≡ count
    → count ≡ 0 → 0 < length (front ++ drop count into) → drop (at + count) bytes ≡ []
nothing_left bytes into front at most count is some long none room =
    let space : length (front ++ drop count into) ≡ length front + length (drop count into) = length-append front (drop count into) in
    let rest : length (drop count into) ≡ length into - count = length-drop count into in
    let before : length (drop at bytes) ≡ length bytes - at = length-drop at bytes in
    let behind : length (drop (at + count) bytes) ≡ length bytes - (at + count) = length-drop (at + count) bytes in
    nil_from_length (drop (at + count) bytes) (omega arith)

-- none of the first bytes ends a line
pub within_front : (count : ℕ) (left : List ℕ) → count ≤ length left → ((k : ℕ) → k < count → get_or left k 0 ≡ 10 → ⊥) → IsWithinLine (take count left)
within_front count left fits none k d lt is =
    let long : length (take count left) ≡ count = length-take-le count left fits in
    let short : k < count = omega arith in
    let inside : k < length left = omega arith in
    none k short (get_or_default left k 0 d inside ∙ sym (get_or-take count left k d short) ∙ is)

-- a line has come to its end
pub poured_whole : (most at count at' : ℕ) (bytes line line' : List ℕ) → count < length (drop at bytes)
    → ((k : ℕ) → k < count → get_or (drop at bytes) k 0 ≡ 10 → ⊥)
    → get_or (drop at bytes) count 0 ≡ 10 → count ≤ most - length line → length line ≤ most → line' ≡ line ++ take count (drop at bytes) → at' ≡ at + count + 1
    → PoursWhole most (drop at bytes) line (drop at' bytes) line'
poured_whole most at count at' bytes line line' lt none end fits was added moved =
    let left : List ℕ = drop at bytes in
    let within : count ≤ length left = omega arith in
    let long : length (take count left) ≡ count = length-take-le count left within in
    let cut : drop count left ≡ get_or left count 0 ∷ drop (suc count) left = drop-cons left count 0 lt in
    let behind : drop (suc count) left ≡ drop at' bytes = drop-drop (suc count) at bytes ∙
    ap (λ k. drop k bytes) (let e : at + suc count ≡ at' = omega (arith, moved) in e) in
    record {
      more = take count left;
      taken = sym (take-append-drop count left) ∙ ap (λ (l : List ℕ). take count left ++ l) (cut ∙ ap (λ (b : ℕ). b ∷ drop (suc count) left) end ∙
          ap (λ (l : List ℕ). 10 ∷ l) behind);
      added = added;
      within = within_front count left within none;
      few = omega (arith, ap length added, length-append line (take count left), long);
    }

-- it goes on behind all bytes
pub poured_open : (most at count at' : ℕ) (bytes line line' : List ℕ) → count ≡ length (drop at bytes)
    → ((k : ℕ) → k < count → get_or (drop at bytes) k 0 ≡ 10 → ⊥)
    → count ≤ most - length line → length line ≤ most → line' ≡ line ++ take count (drop at bytes) → at' ≡ at + count
    → PoursOpen most (drop at bytes) line (drop at' bytes) line'
poured_open most at count at' bytes line line' all none fits was added moved =
    let left : List ℕ = drop at bytes in
    let whole : take count left ≡ left = ap (λ k. take k left) all ∙ take-length left in
    let none_left : length (drop at' bytes) ≡ 0 = omega (arith, length-drop at' bytes, length-drop at bytes, all, moved) in
    let fits' : count ≤ length left = omega (arith, all) in
    let within : IsWithinLine (take count left) = within_front count left fits' none in
    record {
      taken = nil_from_length (drop at' bytes) none_left;
      added = added ∙ ap (λ (l : List ℕ). line ++ l) whole;
      within = subst IsWithinLine whole within;
      few = omega (arith, ap length added, length-append line (take count left), ap length whole, all);
    }

-- it is longer than it may be
pub poured_much : (most at count : ℕ) (bytes line : List ℕ) → count ≤ length (drop at bytes) → ((k : ℕ) → k < count → get_or (drop at bytes) k 0 ≡ 10 → ⊥)
    → most - length line < count → PoursTooMuch most (drop at bytes) line (drop (at + count) bytes)
poured_much most at count bytes line fits none many =
    let left : List ℕ = drop at bytes in
    record {
      more = take count left;
      taken = sym (take-append-drop count left) ∙ ap (λ (l : List ℕ). take count left ++ l) (drop-drop count at bytes);
      within = within_front count left fits none;
      many = omega (arith, length-append line (take count left), length-take-le count left fits);
    }

-- the bytes from a place on, as the code has them
pub slice_from : (raw bytes : List ℕ) (at : ℕ) → raw ≡ bytes → take (length raw - at) (drop at raw) ≡ drop at bytes
slice_from raw bytes at is =
    ap (λ (xs : List ℕ). take (length xs - at) (drop at xs)) is ∙ ap (λ k. take k (drop at bytes)) (sym (length-drop at bytes)) ∙ take-length (drop at bytes)
